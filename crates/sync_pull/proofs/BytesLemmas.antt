-- What bytes blocks describe, as a file is read or written block after block.
use Rattle.std.proofs.Common.{◌-◌, min, eq-eqb, ◌≡◌, ◌≢◌, ℕ, Bool, true, false, ◌+◌, ◌<◌, ◌≤◌, List, [], ◌∷◌, length, take, drop, refl, sym, ap, subst, ◌∙◌, arith}
use Rattle.std.specs.Prelude.{◌↔◌, ◌==◌, IsTrue, MatchBool, nat_eq}
use Rattle.std.specs.Cmp.Lexicographic.{pointwise, told_text}
use Rattle.std.proofs.lemmas.Bool.{eqb-true, false≢true}
use Rattle.std.proofs.lemmas.List.{length-take-le, length-take, drop-drop, drop_all, length-drop}
use Rattle.std.proofs.Math.Seq.{take-length}
use Rattle.sha2.specs.Sha256.{sha256}
use Rattle.sync_blocks.specs.declared.block.Block.{Block}
use Rattle.sync_pull.specs.Bytes.{AreOf, HasBlock}

-- ---- a block that is read

module _ (b : Block) (n : ℕ) (part rest : List ℕ) (whole : length part ≡ b.size) (fits : n ≤ length part) (read : take n part ≡ take b.size rest) where
  -- fewer bytes are there than the block has
  pub short-has_not : n < b.size → HasBlock b rest → ⊥
  short-has_not less h =
      let taken : length (take n part) ≡ n = length-take-le n part fits in
      let same : length (take n part) ≡ length (take b.size rest) = ap length read in
      let size = h.size in
      omega arith

  -- all of them are there
  pub full-is : b.size ≤ n → part ≡ take b.size rest
  full-is more =
      let same : n ≡ length part = omega arith in
      sym (take-length part) ∙ sym (ap (λ k. take k part) same) ∙ read

-- the test of the digests says whether the block's bytes are there
pub has-exactly : (r : Bool) (b : Block) (part rest : List ℕ) → part ≡ take b.size rest → length part ≡ b.size
    → r ≡ pointwise nat_eq (sha256 part) b.hash → IsTrue r ↔ HasBlock b rest
has-exactly r b part rest is whole told = by r (told_text (sha256 part) b.hash r told)
  where
    by : (r : Bool) → MatchBool r (sha256 part ≡ b.hash) (sha256 part ≢ b.hash) → IsTrue r ↔ HasBlock b rest
    by true same = (λ _. record { size = sym (ap length is) ∙ whole; digest = sym (ap sha256 is) ∙ same }, λ _. refl)
    by false apart = (λ no. absurd (false≢true no), λ has. absurd (apart (ap sha256 is ∙ has.digest)))

-- ---- a file that is read block after block

-- of a block that is there the rest decides
pub rest-decides : (b : Block) (bs : List Block) (at : ℕ) (bytes : List ℕ) (P : Type 0) → (P ↔ AreOf (b ∷ bs) (drop at bytes))
    → HasBlock b (drop at bytes) → P ↔ AreOf bs (drop (at + b.size) bytes)
rest-decides b bs at bytes P e has =
    let same : drop b.size (drop at bytes) ≡ drop (at + b.size) bytes = drop-drop b.size at bytes in
    (λ p. subst (AreOf bs) same (e.0 p).1, λ rest. e.1 (has, subst (AreOf bs) (sym same) rest))

-- a block that is not there is none of theirs
pub lacks-block : (b : Block) (bs : List Block) (bytes : List ℕ) (P : Type 0) → (P ↔ AreOf (b ∷ bs) bytes) → (HasBlock b bytes → ⊥)
    → IsTrue false ↔ P
lacks-block b bs bytes P e lacks = (λ no. absurd (false≢true no), λ p. absurd (lacks (e.0 p).0))

-- after the last block nothing is left
pub end-decides : (at size : ℕ) (bytes : List ℕ) (P : Type 0) → size ≡ length bytes → at ≤ size → (P ↔ (drop at bytes ≡ []))
    → IsTrue (at == size) ↔ P
end-decides at size bytes P whole within e = (
  λ t. e.1 (drop_all at bytes (let same : at ≡ size = eqb-true at size t in omega arith)),
  λ p.
      let left : length (drop at bytes) ≡ length bytes - at = length-drop at bytes in
      let none : length (drop at bytes) ≡ 0 = ap length (e.0 p) in
      let same : at ≡ size = omega arith in
      eq-eqb at size same,
)

-- more bytes than are left are not there
pub past-has_not : (b : Block) (at size : ℕ) (bytes : List ℕ) → size ≡ length bytes → size - at < b.size → HasBlock b (drop at bytes) → ⊥
past-has_not b at size bytes whole past h =
    let taken : length (take b.size (drop at bytes)) ≡ min b.size (length (drop at bytes)) = length-take b.size (drop at bytes) in
    let left : length (drop at bytes) ≡ length bytes - at = length-drop at bytes in
    let is = h.size in
    omega arith
