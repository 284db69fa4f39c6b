use Rattle.std.proofs.Common.{ap, ◌∙◌}
use Rattle.rayon.proofs.ListFacts.{IfOk-then}
use Rattle.rayon.proofs.ToStd.{slice-map}
use Rattle.sync_scan.specs.Ahead.{cut_block}
use Rattle.sync_scan.proofs.cuts.hash_cuts.Goals as goal

pub returns : goal.returns
returns g c =
    let slice = ap (λ it. it.slice.now) c.with_min_len.ensures.base ∙ c.par_iter.ensures in
    IfOk-then c.collect.result _ _ c.collect.ensures (λ v h.
    let chain = rw (c.map.ensures.base, c.map.ensures.f) at h.1 in
    h.2 ∙ slice-map chain.0 c.args.cuts.now (chain.1 ∙ slice) (cut_block c.args.bytes.now) h.0 chain.2)
