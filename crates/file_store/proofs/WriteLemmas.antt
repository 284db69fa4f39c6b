-- Bytes that are grown by 0, and then written over.
use Rattle.std.proofs.Common.{◌≡◌, ◌≢◌, ℕ, zero, suc, ◌+◌, ◌-◌, ◌≤◌, List, [], ◌∷◌, ◌++◌, take, drop, length, refl, ap, ◌∙◌, arith}
use Rattle.std.proofs.lemmas.Grind.{common_steps}
use Rattle.std.specs.Prelude.{replicate}
use Rattle.std.proofs.lemmas.List.{take-replicate}
use Rattle.file_store.specs.Contents.{overwritten}

pub spliced : (items new : List ℕ) (len : ℕ) → len ≡ length items → length new ≡ length items → take len (new ++ drop (length new) items) ≡ new
spliced items new len is same = grind (arith, common_steps)

pub take_grown : (old : List ℕ) (n offset : ℕ) → offset ≤ length old + n → take offset (old ++ replicate n 0) ≡ take offset old ++ replicate (offset - length old) 0
take_grown [] n zero h = refl
take_grown [] n (suc o) h = take-replicate (suc o) n 0 (omega arith) ∙ ap (λ k. replicate k 0) (let e : suc o ≡ suc o - 0 = omega arith in e)
take_grown (x ∷ xs) n zero h = ap (λ k. replicate k 0) (let e : 0 ≡ 0 - length (x ∷ xs) = omega arith in e)
take_grown (x ∷ xs) n (suc o) h =
    ap (λ l. x ∷ l) (take_grown xs n o (omega arith)) ∙ ap (λ k. x ∷ (take o xs ++ replicate k 0)) (let e : o - length xs ≡ suc o - length (x ∷ xs) = omega arith in e)

pub drop_grown : (old : List ℕ) (end : ℕ) → drop end (old ++ replicate (end - length old) 0) ≡ drop end old
drop_grown old end = grind (arith, common_steps)

pub written : (old items piece : List ℕ) (offset : ℕ) → items ≡ old ++ replicate ((offset + length piece) - length old) 0 → piece ≢ []
    → take offset items ++ piece ++ drop (offset + length piece) items ≡ overwritten old offset piece
written old items [] offset is some = absurd (some refl)
written old items (b ∷ bs) offset is some =
    let grown = old ++ replicate ((offset + length (b ∷ bs)) - length old) 0 in
    ap (λ l. take offset l ++ (b ∷ bs) ++ drop (offset + length (b ∷ bs)) l) is
    ∙ ap (λ l. l ++ (b ∷ bs) ++ drop (offset + length (b ∷ bs)) grown) (take_grown old ((offset + length (b ∷ bs)) - length old) offset (omega arith))
    ∙ ap (λ l. take offset old ++ replicate (offset - length old) 0 ++ (b ∷ bs) ++ l) (drop_grown old (offset + length (b ∷ bs)))
