use Rattle.std.proofs.Common.{ℕ, List, sym, subst, ◌∙◌}
use Rattle.std.specs.BTreeMap.Range.{range_contains}
use Rattle.std.specs.List.{filter}
use Rattle.std.specs.declared.ops.Bound.TheVariants.{Included}
use Rattle.folder_index.specs.Digests.{AreCandidates, Places, Spot, spot_cmp}
use Rattle.folder_index.proofs.Digested.{candidates_are}
use Rattle.folder_index.proofs.by_digest.ByDigest.candidates.Goals as goal

pub returns : goal.returns
returns c =
    let ks = c.self.inside.places.keys in
    let found =
    c.range.ensures.between c.new.ensures.exhausted
    ∙ (λ i. filter (range_contains spot_cmp (Included (c.new.ensures.start i)) (Included (c.new.ensures.end i))) ks) in
    let Are : ℕ × Places × List Spot → Type 0 = λ x. AreCandidates x.0 x.1 x.2 in
    subst Are (λ i. (c.start_of-start.ensures i, c.self.view_is i, sym found i)) (candidates_are ks c.range.ensures.ordered c.self.invariant c.start_of-start.result)
