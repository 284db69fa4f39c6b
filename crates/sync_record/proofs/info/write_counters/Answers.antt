use Rattle.std.proofs.Common.{◌≡◌, ◌∙◌, map, rules}
use Rattle.std.proofs.lemmas.Iterator.{YieldsList-from_slice, YieldsList-from_map, items_from_collect}
use Rattle.std.proofs.lemmas.Result.{IfOk-at_ok}
use Rattle.sync_record.specs.Infos.{counter_of}
use Rattle.sync_record.proofs.info.write_counters.Goals as goal

-- one counter for each pair
pub returns : goal.returns
returns c =
    let collected : c.in_ok-counters.counters.items ≡ map counter_of c.args.pairs.now =
    IfOk-at_ok _ c.in_ok-counters.was (items_from_collect _ c.collect.ensures.ran
    (YieldsList-from_map _ counter_of (YieldsList-from_slice c.args.pairs.now cc) c.map.ensures.closure (λ x r q k. search rules))) in
    c.from_vec.ensures ∙ collected
