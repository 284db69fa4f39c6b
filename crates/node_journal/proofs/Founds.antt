-- What stands at an offset of a journal.
use Rattle.std.proofs.Common.{◌≡◌, ℕ, ◌≤◌, List, length, take, drop, Result, Ok, Err, ◌∙◌, arith}
use Rattle.std.specs.Prelude.{IfOk}
use Rattle.node_journal.specs.Reading.{front_len, frame_at, number32, sized_at}

-- the front is there
pub front-there : (header : List ℕ) (offset : ℕ) (bytes : List ℕ) → front_len ≤ length bytes → frame_at header offset bytes ≡ sized_at header offset (number32 (take 4 bytes)) (take 8 (drop 4 bytes)) (drop 8 (drop 4 bytes))
unfolding frame_at
front-there header offset bytes le = grind arith

-- of an equal value
pub ok-same : {A E : Type 0} (r : Result A E) (x y : A) → x ≡ y → IfOk r (λ a. a ≡ x) → IfOk r (λ a. a ≡ y)
ok-same (Ok a) x y e h = h ∙ e
ok-same (Err a) x y e h = tt
