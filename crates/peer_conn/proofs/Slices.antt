-- A list that was written through a slice of it.
use Rattle.std.proofs.Common.{◌≡◌, ℕ, ◌++◌, List, length, take, drop, arith}
use Rattle.std.proofs.Math.Seq.{take-append_seam}

-- all of it was written
pub written_back : {A : Type 0} → (olds news : List A) (len : ℕ) → length news ≡ length olds → len ≡ length olds
    → take len (news ++ drop (length news) olds) ≡ news
written_back olds news len same long =
    let all : len ≡ length news = omega (arith, same, long) in
    rw all (take-append_seam news (drop (length news) olds))
