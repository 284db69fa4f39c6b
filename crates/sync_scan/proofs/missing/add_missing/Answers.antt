use Rattle.std.proofs.Common.{◌∷◌, ◌++◌, [], take, map, ap, sym, subst, ◌∙◌}
use Rattle.std.proofs.lemmas.List.{take_more}
use Rattle.file_store.specs.declared.node.Listed.{Listed}
use Rattle.sync_scan.specs.AllNames.{AddsMissing}
use Rattle.sync_scan.proofs.MissingLemmas.{adds-on}
use Rattle.sync_scan.proofs.missing.add_missing.Goals as goal

pub loop-record-preserved : goal.loop-record-preserved
loop-record-preserved c =
    let listed = map (λ (e : Listed). e.name) c.args.entries.now in
    let records = c.args.records.now in
    let i = c.loop-record.record-index in
    let item = c.record-item.result in
    let more = take_more records i item c.loop-record-test.true ∙ ap (λ x. take i records ++ x ∷ []) (sym c.record-item.is) in
    record {
      adds = subst (λ rs. AddsMissing listed rs c.args.names.now.keys c.add_one.new.names.keys) (sym more)
          (adds-on listed (take i records) (item ∷ []) _ _ _ c.loop-record.invariant.adds c.in_ok-add_one.ensures.adds);
      order = λ before. c.in_ok-add_one.ensures.order (c.loop-record.invariant.order before);
    }
