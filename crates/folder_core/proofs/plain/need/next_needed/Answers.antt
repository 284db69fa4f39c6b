use Rattle.std.proofs.Common.{◌++◌, sym, ap, ◌∙◌, arith}
use Rattle.std.specs.Prelude.{option_map}
use Rattle.std.specs.Option.{option_to_list}
use Rattle.std.proofs.lemmas.List.Sums.{prefix_len-le-length}
use Rattle.folder_core.specs.declared.announcement.Announcement.{Announcement as Entry}
use Rattle.folder_core.specs.PlainReads.{needed_names}
use Rattle.folder_core.proofs.PlainGroup.{is_named}
use Rattle.folder_core.proofs.PlainNeed.{need_step}
use Rattle.folder_core.proofs.plain.need.next_needed.Goals as goal

pub split_at-requires : goal.split_at-requires
split_at-requires c = let most = prefix_len-le-length (is_named c.name.result.now) c.loop-first.rest.now in let count = c.count_of.ensures in omega arith

pub returns-in-Some-needed_of-clause-next : goal.returns-in-Some-needed_of-clause-next
returns-in-Some-needed_of-clause-next c =
    let d = c.args.device in
    let others = c.split_at.result.1.now in
    let step = need_step d c.loop-first.rest.now c.split_at.result.0.now others c.in-Some.first.now _ _ c.loop-first.invariant.rises c.in-Some.ensures.value c.name.ensures c.count_of.ensures c.split_at.ensures.front c.split_at.ensures.back in
    sym c.loop-first.invariant.needed ∙ step.listed
    ∙ ap (λ (o : _). option_to_list (option_map (λ (e : Entry). e.record.name) o) ++ needed_names d others) (sym c.in-Some-needed_of.ensures)

pub returns-in-Some-needed_of-clause-rises : goal.returns-in-Some-needed_of-clause-rises
returns-in-Some-needed_of-clause-rises c =
    let step = need_step c.args.device c.loop-first.rest.now c.split_at.result.0.now c.split_at.result.1.now c.in-Some.first.now _ _ c.loop-first.invariant.rises c.in-Some.ensures.value c.name.ensures c.count_of.ensures c.split_at.ensures.front c.split_at.ensures.back in
    step.rises

pub returns-in-Some-needed_of-clause-fewer : goal.returns-in-Some-needed_of-clause-fewer
returns-in-Some-needed_of-clause-fewer c =
    let step = need_step c.args.device c.loop-first.rest.now c.split_at.result.0.now c.split_at.result.1.now c.in-Some.first.now _ _ c.loop-first.invariant.rises c.in-Some.ensures.value c.name.ensures c.count_of.ensures c.split_at.ensures.front c.split_at.ensures.back in
    let shorter = step.shorter in
    omega arith

pub loop-first-smaller : goal.loop-first-smaller
loop-first-smaller c =
    let step = need_step c.args.device c.loop-first.rest.now c.split_at.result.0.now c.split_at.result.1.now c.in-Some.first.now _ _ c.loop-first.invariant.rises c.in-Some.ensures.value c.name.ensures c.count_of.ensures c.split_at.ensures.front c.split_at.ensures.back in
    step.shorter

pub loop-first-preserved : goal.loop-first-preserved
loop-first-preserved c =
    let d = c.args.device in
    let others = c.split_at.result.1.now in
    let step = need_step d c.loop-first.rest.now c.split_at.result.0.now others c.in-Some.first.now _ _ c.loop-first.invariant.rises c.in-Some.ensures.value c.name.ensures c.count_of.ensures c.split_at.ensures.front c.split_at.ensures.back in
    let shorter = step.shorter in
    record {
      needed = ap (λ (o : _). option_to_list (option_map (λ (e : Entry). e.record.name) o) ++ needed_names d others) c.in_default-needed_of.ensures ∙ sym step.listed ∙ c.loop-first.invariant.needed;
      rises = step.rises;
      no_more = omega arith;
    }
