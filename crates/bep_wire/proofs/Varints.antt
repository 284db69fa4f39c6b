-- A varint that is written group by group.
use Rattle.std.proofs.Common.{◌≡◌, ℕ, zero, suc, ◌+◌, ◌-◌, ◌*◌, ◌/◌, ◌^◌, ◌%◌, ◌<◌, ◌≤◌, List, [], ◌∷◌, ◌++◌, length, take, set, refl, sym, ap, subst, ◌∙◌, arith, append_assoc, inl, inr}
use Rattle.std.proofs.lemmas.Nat.{pow-add, pow_pos}
use Rattle.std.proofs.lemmas.Grind.{take-set_at}
use Rattle.std.proofs.lemmas.Bool.{cases_lt, lt-ltb, le-ltb}
use Rattle.bep_wire.specs.Grammar.{IsSpelling, spelled, IsVarint}
use Rattle.bep_wire.specs.Written.{shortest_within, shortest}

quotient_below : (n a : ℕ) → n < 2 ^ (a + 7) → n / 128 < 2 ^ a
quotient_below n a lt =
    let e : 2 ^ (a + 7) ≡ 2 ^ a * 128 = pow-add 2 a 7 in
    let h : n < 2 ^ a * 128 = subst (λ (k : ℕ). n < k) e lt in
    omega (arith, h)

pub record Shrinks (rest len : ℕ) : Type 0 where
  pub room : len < 9
  pub below : rest / 128 < 2 ^ (64 - 7 * (len + 1))

pub shrinks : (rest len : ℕ) → len ≤ 9 → rest < 2 ^ (64 - 7 * len) → 128 ≤ rest → Shrinks rest len
shrinks rest len le lt high =
    elim (cases_lt len 9) [
      | inl room ↦
          let e : 64 - 7 * len ≡ (64 - 7 * (len + 1)) + 7 = omega arith in
          record { room = room; below = quotient_below rest (64 - 7 * (len + 1)) (subst (λ (k : ℕ). rest < 2 ^ k) e lt) }
      | inr ge ↦
          let e : 64 - 7 * len ≡ 1 = omega arith in
          let h : rest < 2 ^ 1 = subst (λ (k : ℕ). rest < 2 ^ k) e lt in
          absurd (omega (arith, h))
    ]

-- ---- the loop

one_group : (more n : ℕ) → n < 128 → shortest_within more n ≡ n ∷ []
unfolding shortest_within
one_group zero n small = refl
one_group (suc more) n small = let t = lt-ltb n 128 small in rw t refl

pub writes_first : (n : ℕ) → shortest_within 9 n ≡ shortest n
unfolding shortest
writes_first n = refl

pub writes_on : (buffer : List ℕ) (len rest : ℕ) (total : List ℕ) → length buffer ≡ 10 → len < 9 → 128 ≤ rest → take len buffer ++ shortest_within (9 - len) rest ≡ total
    → take (len + 1) (set buffer len (rest % 128 + 128)) ++ shortest_within (9 - (len + 1)) (rest / 128) ≡ total
unfolding shortest_within
writes_on buffer len rest total wide room high so_far =
    let k : 9 - len ≡ suc (9 - (len + 1)) = omega arith in
    let t = le-ltb rest 128 high in
    let one : shortest_within (9 - len) rest ≡ (rest % 128 + 128) ∷ shortest_within (9 - (len + 1)) (rest / 128) = rw (k, t) refl in
    let front = take-set_at buffer len (len + 1) (rest % 128 + 128) refl (omega arith) in
    ap (λ (l : List ℕ). l ++ shortest_within (9 - (len + 1)) (rest / 128)) front
    ∙ append_assoc (take len buffer) ((rest % 128 + 128) ∷ []) (shortest_within (9 - (len + 1)) (rest / 128))
    ∙ ap (λ (l : List ℕ). take len buffer ++ l) (sym one) ∙ so_far

pub writes_last : (buffer : List ℕ) (len rest : ℕ) (total : List ℕ) → length buffer ≡ 10 → len ≤ 9 → rest < 128 → take len buffer ++ shortest_within (9 - len) rest ≡ total
    → take (len + 1) (set buffer len rest) ≡ total
writes_last buffer len rest total wide room small so_far =
    take-set_at buffer len (len + 1) rest refl (omega arith) ∙ ap (λ (l : List ℕ). take len buffer ++ l) (sym (one_group (9 - len) rest small)) ∙ so_far

-- ---- what is written spells the number

pub spells : (more n : ℕ) → n < 2 ^ (7 * more + 7) → IsSpelling (shortest_within more n) × (spelled (shortest_within more n) ≡ n) × (length (shortest_within more n) ≤ more + 1)
unfolding shortest_within
spells zero n lt =
    let h : n < 2 ^ 7 = lt in
    let small : n < 128 = h in
    (inl (small, refl), omega arith, omega arith)
spells (suc more) n lt =
    elim (cases_lt n 128) [
      | inl small ↦ let t = lt-ltb n 128 small in rw t (inl (small, refl), omega arith, omega arith)
      | inr high ↦
          let t = le-ltb n 128 high in
          let e : 7 * suc more + 7 ≡ (7 * more + 7) + 7 = omega arith in
          let rest = spells more (n / 128) (quotient_below n (7 * more + 7) (subst (λ (k : ℕ). n < 2 ^ k) e lt)) in
          rw t (inr (omega arith, rest.0), omega (arith, rest.1), omega (arith, rest.2))
    ]

pub is_varint : (n : ℕ) → n < 2 ^ 64 → IsVarint (shortest n) n
unfolding shortest
is_varint n lt =
    let wide : n < 2 ^ (7 * 9 + 7) = omega (arith, lt) in
    let s = spells 9 n wide in
    let e : n ≡ spelled (shortest_within 9 n) % 2 ^ 64 = omega (arith, s.1, lt) in
    record { ends = s.0; short = s.2; value = e }

-- ---- no spelling of the number is shorter

pub least : (more n : ℕ) (bytes : List ℕ) → IsSpelling bytes → spelled bytes ≡ n → length (shortest_within more n) ≤ length bytes
unfolding shortest_within
least more n [] is e = absurd is
least zero n (b ∷ bytes) is e = omega arith
least (suc more) n (b ∷ bytes) (inl last) e =
    let none : spelled bytes ≡ 0 = ap spelled last.1 in
    let small : n < 128 = omega (arith, e, none, last.0) in
    let t = lt-ltb n 128 small in
    rw t (omega arith)
least (suc more) n (b ∷ bytes) (inr further) e =
    elim (cases_lt n 128) [
      | inl small ↦ let t = lt-ltb n 128 small in rw t (omega arith)
      | inr high ↦
          let t = le-ltb n 128 high in
          let q : spelled bytes ≡ n / 128 = omega (arith, e) in
          let rest = least more (n / 128) bytes further.1 q in
          rw t (omega (arith, rest))
    ]

-- ---- also where bits past 64 are dropped

spelled_below : (k : ℕ) (bytes : List ℕ) → length bytes ≤ k → spelled bytes < 2 ^ (7 * k)
spelled_below k [] le = pow_pos (7 * k)
spelled_below zero (b ∷ bytes) le = absurd (omega arith)
spelled_below (suc k) (b ∷ bytes) le =
    let e : 7 * suc k ≡ 7 * k + 7 = omega arith in
    let p : 2 ^ (7 * k + 7) ≡ 2 ^ (7 * k) * 128 = pow-add 2 (7 * k) 7 in
    let below = spelled_below k bytes (omega arith) in
    let h : b % 128 + 128 * spelled bytes < 2 ^ (7 * k) * 128 = omega (arith, below) in
    subst (λ (j : ℕ). b % 128 + 128 * spelled bytes < j) (sym (ap (λ (j : ℕ). 2 ^ j) e ∙ p)) h

at_most : (more n : ℕ) → length (shortest_within more n) ≤ more + 1
unfolding shortest_within
at_most zero n = omega arith
at_most (suc more) n =
    elim (cases_lt n 128) [
      | inl small ↦ let t = lt-ltb n 128 small in rw t (omega arith)
      | inr high ↦ let t = le-ltb n 128 high in let rest = at_most more (n / 128) in rw t (omega (arith, rest))
    ]

pub shortest_is_least : (n : ℕ) (bytes : List ℕ) → IsVarint bytes n → length (shortest n) ≤ length bytes
unfolding shortest
shortest_is_least n bytes is =
    elim (cases_lt (length bytes) 10) [
      | inl few ↦
          let below : spelled bytes < 2 ^ 63 = spelled_below 9 bytes (omega arith) in
          let e : spelled bytes ≡ n = omega (arith, is.value, below) in
          least 9 n bytes is.ends e
      | inr ten ↦ let most = at_most 9 n in omega arith
    ]
