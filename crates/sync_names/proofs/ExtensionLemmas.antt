-- A component cut at its last dot.
use Rattle.std.proofs.Common.{◌≡◌, ℕ, ◌+◌, ◌-◌, Bool, true, false, not, eqb, List, [], ◌∷◌, length, get_or, take, drop, sym, ap, ◌∙◌, arith}
use Rattle.std.specs.List.{list_any, before_last, after_last, suffix_len}
use Rattle.std.proofs.lemmas.Bool.{eq-eqb, ne_eqb, cond-true, cond-false, not_from_true, not_from_false}
use Rattle.std.proofs.lemmas.List.{drop_more}
use Rattle.std.proofs.lemmas.List.Elements.{All-from_get_or}
use Rattle.std.proofs.lemmas.List.Folds.{list_any_at, list_any_none}
use Rattle.std.proofs.lemmas.List.Sums.{suffix_len_is}
use Rattle.sync_names.specs.Extension.{stem_of, extension_of}
use Rattle.sync_names.proofs.ComponentLemmas.{HasNo, IsLastPlace}

abbrev is_dot : ℕ → Bool
is_dot b = eqb b 46

pub record CutAtDot (component front back : List ℕ) : Type 0 where
  pub stem : stem_of component ≡ front
  pub extension : extension_of component ≡ back

suffix_after : (text : List ℕ) (k : ℕ) → IsLastPlace 46 text k → suffix_len (λ b. not (is_dot b)) text ≡ length text - (k + 1)
suffix_after text k place =
    suffix_len_is (λ b. not (is_dot b)) text (k + 1) 0 (omega (arith, place.within))
    (λ i low h. not_from_false (is_dot (get_or text i 0)) (ne_eqb (get_or text i 0) 46 (place.later i (omega arith) h)))
    (λ _. let back : k + 1 - 1 ≡ k = omega arith in rw back (not_from_true (is_dot (get_or text k 0)) (eq-eqb (get_or text k 0) 46 place.here)))

pub cut_at_dot : (text : List ℕ) (k : ℕ) → IsLastPlace 46 text k → CutAtDot text (take k text) (drop k text)
cut_at_dot text k place =
    let dot : is_dot (get_or text k 0) ≡ true = eq-eqb (get_or text k 0) 46 place.here in
    let any = list_any_at is_dot text k 0 place.within dot in
    let after = suffix_after text k place in
    let within = place.within in
    let from_front : length text - (length text - (k + 1)) - 1 ≡ k = omega arith in
    let past : length text - (length text - (k + 1)) ≡ k + 1 = omega arith in
    record {
      stem = cond-true (list_any is_dot text) (before_last is_dot text) text any ∙ ap (λ (n : ℕ). take (length text - n - 1) text) after ∙ ap (λ (n : ℕ). take n text) from_front;
      extension = cond-true (list_any is_dot text) (46 ∷ after_last is_dot text) [] any ∙ ap (λ (n : ℕ). 46 ∷ drop (length text - n) text) after ∙ ap (λ (n : ℕ). 46 ∷ drop n text) past ∙ ap (λ (x : ℕ). x ∷ drop (k + 1) text) (sym place.here) ∙ sym (drop_more text k 0 place.within);
    }

pub cut_without_dot : (text : List ℕ) → HasNo 46 text → CutAtDot text text []
cut_without_dot text none =
    let any = list_any_none is_dot text (All-from_get_or (λ b. is_dot b ≡ false) text 0 (λ i h. ne_eqb (get_or text i 0) 46 (none i h))) in record {
      stem = cond-false (list_any is_dot text) (before_last is_dot text) text any;
      extension = cond-false (list_any is_dot text) (46 ∷ after_last is_dot text) [] any;
    }
