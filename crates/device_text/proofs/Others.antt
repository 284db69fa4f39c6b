-- The values that are no check values, by place.
use Rattle.std.proofs.Common.{◌≡◌, inl, inr, ℕ, ◌+◌, ◌-◌, ◌/◌, ◌<◌, ◌≤◌, List, ◌++◌, take, drop, length, get_or, sym, ap, ◌∙◌, arith}
use Rattle.std.proofs.lemmas.Bool.{cases_lt}
use Rattle.std.proofs.Math.ListN.{get_or-append, get_or-eq_default}
use Rattle.device_text.specs.Base32.{AreBase32}
use Rattle.std.proofs.lemmas.List.{get_or-append_right, get_or-take, get_or-drop, length-take, length-drop, length-append, ext_get_or}
use Rattle.device_text.specs.Read.{without_checks}

long : (v : List ℕ) (s : ℕ) → s + 13 ≤ length v → length (take 13 (drop s v)) ≡ 13
long v s h = omega (arith, length-take 13 (drop s v), length-drop s v)

pick : (v rest : List ℕ) (s k : ℕ) → s + 13 ≤ length v → k < 13 → get_or (take 13 (drop s v) ++ rest) k 0 ≡ get_or v (s + k) 0
pick v rest s k h l =
    get_or-append (take 13 (drop s v)) rest 0 k (omega (arith, long v s h))
    ∙ get_or-take 13 (drop s v) k 0 l ∙ get_or-drop s v k 0

skip : (v rest : List ℕ) (s k : ℕ) → s + 13 ≤ length v → 13 ≤ k → get_or (take 13 (drop s v) ++ rest) k 0 ≡ get_or rest (k - 13) 0
skip v rest s k h l = get_or-append_right (take 13 (drop s v)) rest 13 k 0 (long v s h) l

last : (v : List ℕ) (s k : ℕ) → k < 13 → get_or (take 13 (drop s v)) k 0 ≡ get_or v (s + k) 0
last v s k l = get_or-take 13 (drop s v) k 0 l ∙ get_or-drop s v k 0

at : (v : List ℕ) (a b : ℕ) → a ≡ b → get_or v a 0 ≡ get_or v b 0
at v a b e = ap (λ (n : ℕ). get_or v n 0) e

without_at : (v : List ℕ) → length v ≡ 56 → (k : ℕ) → k < 52 → get_or (without_checks v) k 0 ≡ get_or v (k + k / 13) 0
without_at v long56 k h =
    let d = take 13 (drop 42 v) in
    let c = take 13 (drop 28 v) ++ d in
    let b = take 13 (drop 14 v) ++ c in
    elim (cases_lt k 13) [
      | inl l ↦ pick v b 0 k (omega arith) l ∙ at v (0 + k) (k + k / 13) (omega arith)
      | inr l ↦ skip v b 0 k (omega arith) l ∙ elim (cases_lt k 26) [
        | inl m ↦ pick v c 14 (k - 13) (omega arith) (omega arith) ∙ at v (14 + (k - 13)) (k + k / 13) (omega arith)
        | inr m ↦ skip v c 14 (k - 13) (omega arith) (omega arith) ∙ elim (cases_lt k 39) [
          | inl n ↦ pick v d 28 (k - 13 - 13) (omega arith) (omega arith) ∙ at v (28 + (k - 13 - 13)) (k + k / 13) (omega arith)
          | inr n ↦ skip v d 28 (k - 13 - 13) (omega arith) (omega arith)
              ∙ last v 42 (k - 13 - 13 - 13) (omega arith) ∙ at v (42 + (k - 13 - 13 - 13)) (k + k / 13) (omega arith)
        ]
      ]
    ]

length_without : (v : List ℕ) → length v ≡ 56 → length (without_checks v) ≡ 52
length_without v h =
    let d = take 13 (drop 42 v) in
    let c = take 13 (drop 28 v) ++ d in
    let b = take 13 (drop 14 v) ++ c in
    omega (
      arith,
      length-append (take 13 v) b,
      length-append (take 13 (drop 14 v)) c,
      length-append (take 13 (drop 28 v)) d,
      long v 0 (omega arith),
      long v 14 (omega arith),
      long v 28 (omega arith),
      long v 42 (omega arith),
    )

pub others_are : (others v : List ℕ) → length others ≡ 52 → length v ≡ 56
    → ((k : ℕ) → k < 52 → get_or others k 0 ≡ get_or v (k + k / 13) 0) → others ≡ without_checks v
others_are others v count h each =
    ext_get_or 0 others (without_checks v) (count ∙ sym (length_without v h))
    (λ i l. each i (omega arith) ∙ sym (without_at v h i (omega arith)))

pub others_small : (others v : List ℕ) → length others ≡ 52 → AreBase32 v
    → ((k : ℕ) → k < 52 → get_or others k 0 ≡ get_or v (k + k / 13) 0) → AreBase32 others
others_small others v count low each i =
    elim (cases_lt i 52) [
      | inl l ↦ omega (arith, each i l, low (i + i / 13))
      | inr r ↦ omega (arith, get_or-eq_default others 0 {n = i} (omega arith))
    ]
