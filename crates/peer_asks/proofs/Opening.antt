-- At an id that is opened there was no Request.
use Rattle.std.proofs.Common.{◌≡◌, ℕ, suc, ℤ, pos, true, List, get_or, refl, sym, ap, subst, ◌∙◌, true≢false}
use Rattle.std.specs.Prelude.{Some}
use Rattle.std.specs.List.{position}
use Rattle.std.proofs.lemmas.List.Quantifiers.{position-Some}
use Rattle.peer_asks.specs.Asks.{IsAt, IsFreeAt, is_free, state_at}
use Rattle.peer_asks.specs.declared.table.AskState.{AskState}
use Rattle.peer_asks.specs.declared.table.AskState.TheVariants.{Free, Waits, LetGo, Came, NoneCame}

free_is : (s : AskState) → is_free s ≡ true → s ≡ Free
free_is Free e = refl
free_is (Waits size) e = absurd (true≢false (sym e))
free_is LetGo e = absurd (true≢false (sym e))
free_is (Came bytes) e = absurd (true≢false (sym e))
free_is NoneCame e = absurd (true≢false (sym e))

place_of_id : ℤ → ℕ
place_of_id (pos (suc k)) = k
place_of_id _ = 0

-- at a free place
pub free_at_place : (old : List AskState) (id : ℤ) (k : ℕ) → position is_free old ≡ Some k → IsAt id k → IsFreeAt old id
unfolding place_of_id
free_at_place old id k found at m is =
    let same : m ≡ k = ap place_of_id (sym is ∙ at) in
    subst (λ i. state_at old i ≡ Free) (sym same) (free_is (get_or old k Free) (position-Some is_free old k Free found).1)
