-- Where the text of a folder is cut.
use Rattle.std.proofs.Common.{◌≡◌, ℕ, List, Option, Some, None, Bor, MatchOption, sym, arith}
use Rattle.std.proofs.lemmas.Str.Pattern.{IsSplitOnceResult, split_after, split_parts}
use Rattle.bepd_new.specs.Purposes.{IsCut}

none_after : (text : List ℕ) → IsSplitOnceResult 61 text None → (id path : List ℕ) → ¬ (IsCut text id path)
none_after text split id path (spelled, free) = split_after 61 text id path None split (omega arith) spelled free

same_parts : (text : List ℕ) (x : Bor (List ℕ) × Bor (List ℕ)) → IsSplitOnceResult 61 text (Some x) → (id path : List ℕ) → IsCut text id path
    → (id ≡ x.0.now) × (path ≡ x.1.now)
same_parts text x split id path (spelled, free) =
    let same = split_after 61 text id path (Some x) split (omega arith) spelled free in
    (sym same.0, sym same.1)

pub cut_at : (text : List ℕ) (r : Option (Bor (List ℕ) × Bor (List ℕ))) → IsSplitOnceResult 61 text r
    → MatchOption r ((id path : List ℕ) → ¬ (IsCut text id path)) (λ parts. IsCut text parts.0.now parts.1.now
    × ((id path : List ℕ) → IsCut text id path → (id ≡ parts.0.now) × (path ≡ parts.1.now)))
cut_at text None split = none_after text split
cut_at text (Some x) split = (split_parts 61 text (Some x) split (omega arith), same_parts text x split)
