-- A text's first line, and its others.
use Rattle.std.proofs.Common.{◌≡◌, ℕ, ◌+◌, ◌-◌, ◌<◌, Bool, true, false, cond, ltb, eqb, List, [], ◌∷◌, map, length, take, drop, sym, ◌∙◌, ap, refl, arith}
use Rattle.std.specs.Prelude.{Option, Some, None}
use Rattle.std.specs.List.{position_or_len}
use Rattle.std.proofs.lemmas.Bool.{ltb-true, ltb-false}
use Rattle.std.proofs.lemmas.List.{take_rest}
use Rattle.std.proofs.lemmas.List.Sums.{fails_before_first}
use Rattle.std.proofs.lemmas.List.Splits.{slice_split_first, slice_split_none}
use Rattle.device_certificate.specs.Lines.{lines, trimmed}

abbrev feed : ℕ → Bool
feed c = eqb c 10

abbrev or_none : Option ℕ → ℕ → ℕ
or_none None n = n
or_none (Some n) m = n

some_is : (b : Bool) (n first : ℕ) → ◌≡◌ {A = Option ℕ} (Some n) (cond b (Some first) None) → (b ≡ true) × (n ≡ first)
some_is true n first h = (refl, ap (λ r. or_none r 0) h)
some_is false n first h = cc

none_is : (b : Bool) (first : ℕ) → ◌≡◌ {A = Option ℕ} None (cond b (Some first) None) → b ≡ false
none_is true first h = cc
none_is false first h = refl

-- the first line ends at the first line feed
lines_at : (text : List ℕ) (n : ℕ) → n ≡ position_or_len feed text → position_or_len feed text < length text
    → lines text ≡ trimmed (take n text) ∷ lines (drop (n + 1) text)
lines_at text n is within =
    ap (map trimmed) (slice_split_first feed text 10 within) ∙ ap (λ k. trimmed (take k text) ∷ lines (drop (k + 1) text)) (sym is)

pub lines_some : (text : List ℕ) (r : Option ℕ) (n : ℕ) → r ≡ Some n → r ≡ cond (ltb (position_or_len feed text) (length text)) (Some (position_or_len feed text)) None
    → lines text ≡ trimmed (take n text) ∷ lines (take (length text - (n + 1)) (drop (n + 1) text))
lines_some text r n is found =
    let at = some_is _ n _ (sym is ∙ found) in
    lines_at text n at.1 (ltb-true _ _ at.0) ∙ ap (λ l. trimmed (take n text) ∷ lines l) (sym (take_rest text (n + 1)))

pub lines_none : (text : List ℕ) (r : Option ℕ) → r ≡ None → r ≡ cond (ltb (position_or_len feed text) (length text)) (Some (position_or_len feed text)) None
    → lines text ≡ trimmed text ∷ []
lines_none text r is found =
    let none = ltb-false _ _ (none_is _ _ (sym is ∙ found)) in
    ap (map trimmed) (slice_split_none feed text (λ k d h. fails_before_first feed text k d (omega (arith, h, none))))
