-- A buffer that is filled by reads in turn, and the bytes that they take.
use Rattle.std.proofs.Common.{◌≡◌, ℕ, ◌+◌, ◌-◌, ◌<◌, ◌≤◌, List, ◌++◌, Option, length, take, drop, arith, sym, ap, subst, ◌∙◌, le_refl, drop_at, length-take-le}
use Rattle.std.proofs.lemmas.List.{append-nil, length-append, take-append-le}
use Rattle.std.proofs.lemmas.Slice.{take-put_mid_below}
use Rattle.std.specs.Io.KnownBytes.{Consumes, Keeps}
use Rattle.std.proofs.KnownBytes.{Consumes-trans, Consumes-kept}
use borrow.Rule.Slice.PartMut.{put_mid, post_of}
use Rattle.rayon.specs.Shown.{take-add}
use Rattle.sync_blocks.specs.Reading.{TakesFront}

module _ (at n : ℕ) (buffer part : List ℕ) (within : at ≤ length buffer) where
  -- the bytes before a place, and those that a read put there
  take-filled : n ≤ length part → take (at + n) (put_mid at (length buffer - at) buffer part) ≡ take at buffer ++ take n part
  take-filled fits =
      let room = length buffer - at in
      let after = post_of at room buffer in
      let new = put_mid at room buffer part in
      let low : take at new ≡ take at buffer = take-put_mid_below at room buffer part at (le_refl at) within in
      let high : drop at new ≡ part ++ after = drop_at (take at buffer) (part ++ after) at (length-take-le at buffer within) in
      take-add at n new ∙ (λ t. low t ++ take n (high t)) ∙ ap (λ l. take at buffer ++ l) (take-append-le n part after fits)

  -- a read that gave n bytes
  pub filled_more : (a b c : Option (List ℕ)) → n ≤ length part → Consumes a b (take at buffer) → Consumes b c (take n part)
      → Consumes a c (take (at + n) (put_mid at (length buffer - at) buffer part))
  filled_more a b c fits p q = subst (Consumes a c) (sym (take-filled fits)) (Consumes-trans a b c _ _ p q)

  -- a read that failed
  pub filled_kept : (a b c : Option (List ℕ)) → Consumes a b (take at buffer) → Keeps b c
      → Consumes a c (take at (put_mid at (length buffer - at) buffer part))
  filled_kept a b c p q =
      let same = take-put_mid_below at (length buffer - at) buffer part at (le_refl at) within in
      subst (Consumes a c) (sym same) (Consumes-kept a b c _ p q)

-- bytes that were taken, and others after them
pub taken_more : (a b c : Option (List ℕ)) (front : List ℕ) → Consumes a b front → TakesFront b c → TakesFront a c
taken_more a b c front p t = (front ++ t.0, Consumes-trans a b c front t.0 p t.1)

-- a read that gave nothing
pub read_none : (a b c : Option (List ℕ)) (bytes buffer : List ℕ) (n : ℕ) → n ≤ 0 → Consumes a b bytes → Consumes b c (take n buffer)
    → Consumes a c bytes
read_none a b c bytes buffer n none p q =
    let zero_read : n ≡ 0 = omega arith in
    let nothing : bytes ++ take n buffer ≡ bytes = ap (λ k. bytes ++ take k buffer) zero_read ∙ append-nil bytes in
    subst (Consumes a c) nothing (Consumes-trans a b c bytes (take n buffer) p q)

-- a read of one more byte
pub one_more : (a b c : Option (List ℕ)) (bytes buffer : List ℕ) (size n : ℕ) → length bytes ≡ size → 0 < n → n ≤ length buffer → length buffer ≡ 1 → Consumes a b bytes → Consumes b c (take n buffer)
    → (taken : List ℕ) × Consumes a c taken × (length taken ≡ size + 1)
one_more a b c bytes buffer size n long some within one p q =
    let count : n ≡ 1 = omega arith in
    let read : length (take n buffer) ≡ 1 = length-take-le n buffer within ∙ count in (
      bytes ++ take n buffer,
      Consumes-trans a b c bytes (take n buffer) p q,
      length-append bytes (take n buffer) ∙ (λ t. long t + read t),
    )
