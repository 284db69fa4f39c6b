-- Groups of 13 values, each with its check value behind it.
use Rattle.std.proofs.Common.{◌≡◌, ℕ, zero, suc, ◌*◌, ◌<◌, List, [], ◌∷◌, ◌++◌, take, drop, length, get_or, refl, sym, ap, subst, ◌∙◌, arith}
use Rattle.std.proofs.lemmas.List.{get_or-drop, drop-drop}
use Rattle.device_text.specs.Checks.{check_value}
use Rattle.device_text.specs.Read.{IsChecked, without_checks}

take_front : (p : List ℕ) (c : ℕ) (r : List ℕ) → take (length p) (p ++ c ∷ r) ≡ p
take_front [] c r = refl
take_front (x ∷ p) c r = ap (λ (l : List ℕ). x ∷ l) (take_front p c r)

drop_front : (p : List ℕ) (c : ℕ) (r : List ℕ) → drop (suc (length p)) (p ++ c ∷ r) ≡ r
drop_front [] c r = refl
drop_front (x ∷ p) c r = drop_front p c r

get_front : (p : List ℕ) (c : ℕ) (r : List ℕ) → get_or (p ++ c ∷ r) (length p) 0 ≡ c
get_front [] c r = refl
get_front (x ∷ p) c r = get_front p c r

-- a group of 13, its check value, and what follows
abbrev pub grouped : List ℕ → List ℕ → List ℕ
grouped p r = p ++ check_value p ∷ r

front : (p r : List ℕ) → length p ≡ 13 → take 13 (grouped p r) ≡ p
front p r h = subst (λ (n : ℕ). take n (grouped p r) ≡ p) h (take_front p (check_value p) r)

back : (p r : List ℕ) → length p ≡ 13 → drop 14 (grouped p r) ≡ r
back p r h = subst (λ (n : ℕ). drop (suc n) (grouped p r) ≡ r) h (drop_front p (check_value p) r)

check_is : (p r : List ℕ) → length p ≡ 13 → get_or (grouped p r) 13 0 ≡ check_value p
check_is p r h = subst (λ (n : ℕ). get_or (grouped p r) n 0 ≡ check_value p) h (get_front p (check_value p) r)

-- where the group begins at a place of the values, it is checked
checked_at : (v p r : List ℕ) (n : ℕ) → length p ≡ 13 → drop (14 * n) v ≡ grouped p r → IsChecked v n
checked_at v p r n h e =
    sym (get_or-drop (14 * n) v 13 0) ∙ ap (λ (l : List ℕ). get_or l 13 0) e ∙ check_is p r h
    ∙ ap check_value (sym (ap (take 13) e ∙ front p r h))

-- four groups
abbrev pub four : List ℕ → List ℕ → List ℕ → List ℕ → List ℕ
four a b c d = grouped a (grouped b (grouped c (grouped d [])))

second : (a b c d : List ℕ) → length a ≡ 13 → drop 14 (four a b c d) ≡ grouped b (grouped c (grouped d []))
second a b c d h = back a (grouped b (grouped c (grouped d []))) h

third : (a b c d : List ℕ) → length a ≡ 13 → length b ≡ 13 → drop 28 (four a b c d) ≡ grouped c (grouped d [])
third a b c d h k = sym (drop-drop 14 14 (four a b c d)) ∙ ap (drop 14) (second a b c d h) ∙ back b (grouped c (grouped d [])) k

fourth : (a b c d : List ℕ) → length a ≡ 13 → length b ≡ 13 → length c ≡ 13 → drop 42 (four a b c d) ≡ grouped d []
fourth a b c d h k l = sym (drop-drop 14 28 (four a b c d)) ∙ ap (drop 14) (third a b c d h k) ∙ back c (grouped d []) l

pub four_checked : (a b c d : List ℕ) → length a ≡ 13 → length b ≡ 13 → length c ≡ 13 → length d ≡ 13
    → (n : ℕ) → n < 4 → IsChecked (four a b c d) n
four_checked a b c d h k l m zero i = checked_at (four a b c d) a (grouped b (grouped c (grouped d []))) 0 h refl
four_checked a b c d h k l m (suc zero) i = checked_at (four a b c d) b (grouped c (grouped d [])) 1 k (second a b c d h)
four_checked a b c d h k l m (suc (suc zero)) i = checked_at (four a b c d) c (grouped d []) 2 l (third a b c d h k)
four_checked a b c d h k l m (suc (suc (suc zero))) i = checked_at (four a b c d) d [] 3 m (fourth a b c d h k l)
four_checked a b c d h k l m (suc (suc (suc (suc n)))) i = absurd (omega arith)

pub four_without : (a b c d : List ℕ) → length a ≡ 13 → length b ≡ 13 → length c ≡ 13 → length d ≡ 13
    → without_checks (four a b c d) ≡ a ++ (b ++ (c ++ d))
four_without a b c d h k l m =
    let v = four a b c d in
    let e1 : take 13 v ≡ a = front a (grouped b (grouped c (grouped d []))) h in
    let e2 : take 13 (drop 14 v) ≡ b = ap (take 13) (second a b c d h) ∙ front b (grouped c (grouped d [])) k in
    let e3 : take 13 (drop 28 v) ≡ c = ap (take 13) (third a b c d h k) ∙ front c (grouped d []) l in
    let e4 : take 13 (drop 42 v) ≡ d = ap (take 13) (fourth a b c d h k l) ∙ front d [] m in
    ap (λ (x : List ℕ). x ++ (take 13 (drop 14 v) ++ (take 13 (drop 28 v) ++ take 13 (drop 42 v)))) e1
    ∙ ap (λ (x : List ℕ). a ++ (x ++ (take 13 (drop 28 v) ++ take 13 (drop 42 v)))) e2
    ∙ ap (λ (x : List ℕ). a ++ (b ++ (x ++ take 13 (drop 42 v)))) e3
    ∙ ap (λ (x : List ℕ). a ++ (b ++ (c ++ x))) e4
