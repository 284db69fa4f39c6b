-- Beginnings of histories, and the entries of a pass.
use Rattle.std.proofs.Common.{◌≡◌, ℕ, ◌≤◌, leb, Bool, true, false, cond, List, [], ◌∷◌, ◌++◌, length, take, drop, sym, refl, ap, ◌∙◌, append-nil, append_assoc, arith, length-append}
use Rattle.std.proofs.lemmas.Bool.Decides.{nat_tests}
use Rattle.std.proofs.lemmas.List.{take-append-drop, take-append-le}
use mathlib.Core.List.{IsPrefix}
use Rattle.folder_calls.specs.declared.entry.Entry.{Entry}
use Rattle.folder_calls.specs.Histories.{own_entries}
use Rattle.folder_calls.proofs.HistoryFronts.{own-divided}
use Rattle.folder_shared.specs.Rule.{longer}

pub starts_refl : (a : List Entry) → IsPrefix a a
starts_refl a = ([], append-nil a)

pub starts_trans : (a b c : List Entry) → IsPrefix b a → IsPrefix c b → IsPrefix c a
starts_trans a b c p q = (q.0 ++ p.0, sym (append_assoc c q.0 p.0) ∙ ap (λ l. l ++ p.0) q.1 ∙ p.1)

pub take_starts : (k : ℕ) (l : List Entry) → IsPrefix (take k l) l
take_starts k l = (drop k l, take-append-drop k l)

-- a beginning is the same in what begins with it
pub take_same : (k : ℕ) (all l : List Entry) → IsPrefix l all → k ≤ length l → take k all ≡ take k l
take_same k all l p low = ap (take k) (sym p.1) ∙ take-append-le k l p.0 low

pub length_starts : (all l : List Entry) → IsPrefix l all → length l ≤ length all
length_starts all l p = let e = ap length p.1 in let n = length-append l p.0 in omega arith

-- of two beginnings of one history the shorter begins the longer
starts_two : (a b p q : List Entry) → a ++ p ≡ b ++ q → length a ≤ length b → IsPrefix a b
starts_two [] b p q e h = (b, refl)
starts_two (x ∷ a) [] p q e h = absurd (omega arith)
starts_two (x ∷ a) (y ∷ b) p q e h =
    let t : a ++ p ≡ b ++ q = cc in
    let xy : x ≡ y = cc in
    let r = starts_two a b p q t (omega arith) in (r.0, (λ i. xy i ∷ r.1 i))

pub longer_starts : (log a b : List Entry) → IsPrefix a log → IsPrefix b log → IsPrefix (longer a b) log × IsPrefix a (longer a b) × IsPrefix b (longer a b)
longer_starts log a b p q = cases (leb (length a) (length b)) refl
  where
    cases : (t : Bool) → leb (length a) (length b) ≡ t → IsPrefix (cond t b a) log × IsPrefix a (cond t b a) × IsPrefix b (cond t b a)
    cases true is = (q, starts_two a b p.0 q.0 (p.1 ∙ sym q.1) (grind (arith, nat_tests)), starts_refl b)
    cases false is = (p, starts_refl a, starts_two b a q.0 p.0 (q.1 ∙ sym p.1) (grind (arith, nat_tests)))

none_of_length : (l : List Entry) → length l ≡ 0 → l ≡ []
none_of_length [] e = refl
none_of_length (x ∷ l) e = absurd (omega arith)

-- a history between what was seen and the whole has the same entries of a pass, if they have
pub own_between : (k : ℕ) (log l a : List Entry) → IsPrefix l log → IsPrefix a l → own_entries k log ≡ own_entries k a → own_entries k log ≡ own_entries k l
own_between k log l a p q is =
    let whole : own_entries k log ≡ own_entries k l ++ own_entries k p.0 = ap (own_entries k) (sym p.1) ∙ own-divided k l p.0 in
    let part : own_entries k l ≡ own_entries k a ++ own_entries k q.0 = ap (own_entries k) (sym q.1) ∙ own-divided k a q.0 in
    let lw = ap length whole ∙ length-append (own_entries k l) (own_entries k p.0) in
    let lp = ap length part ∙ length-append (own_entries k a) (own_entries k q.0) in
    let li = ap length is in
    whole ∙ ap (λ r. own_entries k l ++ r) (none_of_length (own_entries k p.0) (omega arith)) ∙ append-nil (own_entries k l)
