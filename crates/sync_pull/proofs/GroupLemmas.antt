-- Blocks that were hashed together.
use Rattle.std.proofs.Common.{◌≡◌, ℕ, ◌-◌, ◌*◌, ◌<◌, ◌≤◌, List, [], ◌∷◌, length, take, drop, get_or, min, Some, None, zero, suc, sym, ap, ◌∙◌, arith, inl, inr}
use Rattle.std.specs.Prelude.{slice_get}
use Rattle.std.proofs.lemmas.Bool.{cases_lt}
use Rattle.std.proofs.lemmas.List.{length-drop, take_min}
use Rattle.std.proofs.lemmas.Option.{slice_get_cases}
use Rattle.sha2.specs.Sha256.{sha256}
use Rattle.sync_blocks.specs.declared.block.Block.{Block}
use Rattle.sync_blocks.specs.BlockList.{block_list}
use Rattle.sync_blocks.specs.Groups.{blocks_from}

none-some : (b : Block) → None ≡ Some b → ⊥
none-some b e = cc

some-is : (a b : Block) → Some a ≡ Some b → a ≡ b
some-is a b e = cc

-- a block of bytes: its digest is that of the bytes where it is
at-each : (bytes : List ℕ) (s i : ℕ) (b : Block)
    → Some (record { offset = i * s; size = min s (length bytes - i * s); hash = sha256 (take s (drop (i * s) bytes)) }) ≡ Some b
    → b.hash ≡ sha256 (take b.size (drop b.offset bytes))
at-each bytes s i b e =
    let is = some-is _ b e in
    let size : b.size ≡ min s (length (drop (i * s) bytes)) = sym (ap (λ (x : Block). x.size) is) ∙ ap (min s) (sym (length-drop (i * s) bytes)) in
    sym (ap (λ (x : Block). x.hash) is)
    ∙ ap sha256 (sym (take_min s (drop (i * s) bytes)) ∙ ap (λ k. take k (drop (i * s) bytes)) (sym size) ∙ ap (λ k. take b.size (drop k bytes)) (ap (λ (x : Block). x.offset) is))

pub cut-hash : ((first s : ℕ) → 1 ≤ s → blocks_from first [] s ≡ [])
    → ((bytes : List ℕ) (s : ℕ) → 1 ≤ s → 1 ≤ length bytes → blocks_from 0 bytes s ≡ block_list bytes s)
    → ((bytes : List ℕ) (s i : ℕ) → 1 ≤ s → i * s < length bytes → slice_get (block_list bytes s) i
    ≡ Some (record { offset = i * s; size = min s (length bytes - i * s); hash = sha256 (take s (drop (i * s) bytes)) }))
    → ((bytes : List ℕ) (s i : ℕ) → 1 ≤ s → 1 ≤ i → length bytes ≤ i * s → slice_get (block_list bytes s) i ≡ None)
    → (bytes : List ℕ) (s i : ℕ) (b : Block) → 1 ≤ s → slice_get (blocks_from 0 bytes s) i ≡ Some b
    → b.hash ≡ sha256 (take b.size (drop b.offset bytes))
cut-hash none whole each no_other [] s i b some e =
    absurd (none-some b (sym (ap (λ (l : List Block). slice_get l i) (none 0 s some)) ∙ e))
cut-hash none whole each no_other (x ∷ xs) s zero b some e =
    at-each (x ∷ xs) s 0 b (sym (each (x ∷ xs) s 0 some (omega arith)) ∙ ap (λ l. slice_get l 0) (sym (whole (x ∷ xs) s some (omega arith))) ∙ e)
cut-hash none whole each no_other (x ∷ xs) s (suc i) b some e =
    let is : slice_get (block_list (x ∷ xs) s) (suc i) ≡ Some b = ap (λ l. slice_get l (suc i)) (sym (whole (x ∷ xs) s some (omega arith))) ∙ e in
    elim (cases_lt (suc i * s) (length (x ∷ xs))) [
      | inl lt ↦ at-each (x ∷ xs) s (suc i) b (sym (each (x ∷ xs) s (suc i) some lt) ∙ is)
      | inr le ↦ absurd (none-some b (sym (no_other (x ∷ xs) s (suc i) some (omega arith) le) ∙ is))
    ]

-- an element that is looked up
pub looked-up : (bs : List Block) (i : ℕ) (b : Block) → i < length bs → ((d : Block) → b ≡ get_or bs i d) → slice_get bs i ≡ Some b
looked-up bs i b within is = elim ((slice_get_cases bs i).1) [
  | inl at ↦ at.2 ∙ ap Some (sym (is at.0 ∙ at.3))
  | inr past ↦ absurd (omega (arith, within, past.0))
]
