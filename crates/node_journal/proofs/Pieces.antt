-- Pieces of bytes, one after another.
use Rattle.std.proofs.Common.{◌≡◌, ℕ, List, ◌++◌, Result, Ok, Err, ap, ◌∙◌, append_assoc}
use Rattle.std.specs.Prelude.{OnOk, is_ok, if◌then◌else◌}

-- three pieces were appended
pub three : {A E : Type 0} (r : Result A E) (old a b c one two all : List ℕ) → one ≡ old ++ a → two ≡ one ++ b → all ≡ (if is_ok r then two ++ c else two) → OnOk r (all ≡ old ++ ((a ++ b) ++ c))
three (Ok x) old a b c one two all e f g =
    g ∙ ap (λ (l : List ℕ). l ++ c) (f ∙ ap (λ (l : List ℕ). l ++ b) e ∙ append_assoc old a b) ∙ append_assoc old (a ++ b) c
three (Err x) old a b c one two all e f g = tt
