use Rattle.std.proofs.Common.{refl, sym, ap, subst, ◌∙◌}
use Rattle.std.specs.FinSet.{contains}
use Rattle.folder_core.proofs.ListTests.{In, contains_in}
use Rattle.folder_index.specs.Digests.{Spot, start_of}
use Rattle.folder_index.specs.Numbers.{number_of}
use Rattle.folder_index.proofs.Placed.{with_digest}
use Rattle.folder_index.proofs.local.Local.find.Goals as goal

pub loop-number-init : goal.loop-number-init
loop-number-init c = λ q i t.
    let l = c.args.self.now in
    let b = with_digest l.records c.args.hash.now q i t in
    let spot : Spot = (start_of c.args.hash.now, number_of l.numbers q, i) in
    let here = ap (λ h. contains l.places (start_of h, number_of l.numbers q, i)) (sym b.2) ∙ c.requires.has q i b.0 b.1 in
    subst (In spot) (sym c.into_iter-number-iterator.ensures.into_iter_gives)
    (contains_in c.candidates-number-items.result spot ((c.candidates-number-items.ensures.are spot).1 (refl, here)))
