-- One more line is passed.
use Rattle.std.proofs.Common.{◌≡◌, ◌↔◌, ◌∷◌, ◌++◌, [], List, Bool, IsTrue, false, refl, subst}
use Rattle.std.specs.Prelude.{All}
use Rattle.std.proofs.lemmas.List.Elements.{All-append, All-cons, All-nil}
use Rattle.node_commands.specs.Read.{AreGiven, ArePassed, IsLast}
use Rattle.node_commands.specs.declared.lines.InputLine.{InputLine}

pub not_last : (b : Bool) (line : InputLine) → (IsTrue b ↔ IsLast line) → b ≡ false → IsLast line → ⊥
not_last b line h isnt last = let is : IsTrue b = h.1 last in cc

module _ {L : Type 0} (gives : L → InputLine → L → Type 0) where
  given-more : (from : L) (lines : List InputLine) (point : L) (line : InputLine) (to : L) → AreGiven gives from lines point → gives point line to → AreGiven gives from (lines ++ line ∷ []) to
  given-more from [] point line to h c = (to, subst (λ q. gives q line to) h c, refl)
  given-more from (x ∷ xs) point line to h c = (h.0, h.1, given-more h.0 xs point line to h.2 c)

  pub passed-more : (from point : L) (line : InputLine) (to : L) → ArePassed gives from point → (IsLast line → ⊥) → gives point line to → ArePassed gives from to
  passed-more from point line to h isnt c =
      let P : InputLine → Type 0 = λ l. IsLast l → ⊥ in
      (h.0 ++ line ∷ [], All-append P h.0 (line ∷ []) h.1 (All-cons P line [] isnt (All-nil P)), given-more from h.0 point line to h.2 c)
