use Rattle.std.proofs.Common.{◌≡◌, ◌++◌, ◌∷◌, ◌-◌, ◌+◌, ◌<◌, take, vec_len, sym, ap, ◌∙◌, arith}
use Rattle.folder_core.specs.PlainReads.{needed_names}
use Rattle.folder_core.proofs.PlainFound.{page_more}
use Rattle.folder_core.proofs.plain.need.needed_names.Goals as goal

pub loop-rest-preserved : goal.loop-rest-preserved
loop-rest-preserved c =
    let d = c.args.device in
    let names = c.loop-rest.names in
    let more = needed_names d c.in-Some.others.now in
    let len : vec_len c.push.new.self ≡ vec_len names + 1 = c.in_ok-push.ensures.len in
    let short : vec_len names < c.args.limit = omega arith in
    let next = c.in-Some.ensures.next ∙ ap (λ m. m ∷ more) (sym (c.in_ok-copy.ensures ∙ c.name.ensures)) in
    record {
      page = (λ i. c.in_ok-push.ensures.items i ++ take (c.args.limit - len i) more)
          ∙ sym (page_more names.items (needed_names d c.loop-rest.rest.now) more (vec_len names) c.args.limit c.in_ok-copy.field-0 next short)
          ∙ c.loop-rest.invariant.page;
      fits = omega arith;
      rises = c.in-Some.ensures.rises;
    }
