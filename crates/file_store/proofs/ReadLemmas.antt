-- A buffer that is filled by reads in turn.
use Rattle.std.proofs.Common.{◌≡◌, ℕ, ◌+◌, ◌-◌, ◌≤◌, List, [], ◌++◌, append-nil, length, take, drop, ◌<◌, Result, Ok, Err, arith, sym, ap, subst, ◌∙◌, le_refl, drop_at, length-take-le}
use Rattle.std.proofs.lemmas.List.{take-append-le, drop-drop, drop_all, length-drop, take_all}
use Rattle.std.proofs.lemmas.Slice.{take-put_mid_below}
use Rattle.std.proofs.Math.Seq.{take-add}
use Rattle.file_store.specs.declared.refusal.StoreRefusal.{StoreRefusal}
use Rattle.file_store.specs.Asked.{Call, Value, ReadAt}
use Rattle.file_store.specs.FullReads.{Fills, FillsAll, gave, ended, refused}
use Rattle.file_store.specs.Names.{Name}
use borrow.Rule.Slice.PartMut.{mid_of, put_mid, post_of}

module _ (at n : ℕ) (buffer part : List ℕ) (within : at ≤ length buffer) where
  -- the bytes before a place, and those that a read put there
  take-filled : n ≤ length part → take (at + n) (put_mid at (length buffer - at) buffer part) ≡ take at buffer ++ take n part
  take-filled fits =
      let room = length buffer - at in
      let after = post_of at room buffer in
      let new = put_mid at room buffer part in
      let low : take at new ≡ take at buffer = take-put_mid_below at room buffer part at (le_refl at) within in
      let high : drop at new ≡ part ++ after = drop_at (take at buffer) (part ++ after) at (length-take-le at buffer within) in
      take-add at n new ∙ (λ t. low t ++ take n (high t)) ∙ ap (λ l. take at buffer ++ l) (take-append-le n part after fits)

  -- the next bytes of a file are read behind those that were read from an offset on
  pub filled-more : (offset : ℕ) (file : List ℕ) → n ≤ length part → take at buffer ≡ take at (drop offset file)
      → take n part ≡ take n (drop (offset + at) file)
      → take (at + n) (put_mid at (length buffer - at) buffer part) ≡ take (at + n) (drop offset file)
  filled-more offset file fits before now =
      let behind : drop (offset + at) file ≡ drop at (drop offset file) = sym (drop-drop at offset file) in
      take-filled fits ∙ (λ t. before t ++ now t) ∙ ap (λ l. take at (drop offset file) ++ take n l) behind
      ∙ sym (take-add at n (drop offset file))

-- what was read is all that the file has there, if it has no more
pub filled-all : (at size offset : ℕ) (file : List ℕ) → length file ≤ offset + at → at ≤ size
    → take at (drop offset file) ≡ take size (drop offset file)
filled-all at size offset file none fits =
    let long = length-drop offset file in
    take_all at (drop offset file) (omega arith) ∙ sym (take_all size (drop offset file) (omega arith))

-- what was asked for is the rest of the buffer
pub rest-is : (at : ℕ) (buffer : List ℕ) → mid_of at (length buffer - at) buffer ≡ drop at buffer
rest-is at buffer = take_all (length buffer - at) (drop at buffer) (let long = length-drop at buffer in omega arith)

-- a read into the rest of the buffer puts its bytes behind those before
pub put-behind : (at : ℕ) (buffer part : List ℕ) → put_mid at (length buffer - at) buffer part ≡ take at buffer ++ part
put-behind at buffer part =
    let none : post_of at (length buffer - at) buffer ≡ [] = drop_all (length buffer - at) (drop at buffer) (let long = length-drop at buffer in omega arith) in
    ap (λ l. take at buffer ++ (part ++ l)) none ∙ ap (λ l. take at buffer ++ l) (append-nil part)

module _ {S : Type 0} (gives : S → (call : Call) → Result (Value call) StoreRefusal → S → Type 0) (n : Name) (offset : ℕ) (old : S) (before : List ℕ)
    (at : ℕ) (asked new : S) (buffer part : List ℕ) where
  asked-rest : (answer : Result ℕ StoreRefusal) → gives asked (ReadAt n (offset + at) (mid_of at (length buffer - at) buffer) part) answer new
      → gives asked (ReadAt n (offset + at) (drop at buffer) part) answer new
  asked-rest answer = subst (λ rest. gives asked (ReadAt n (offset + at) rest part) answer new) (rest-is at buffer)

  -- one read more gave some bytes
  pub gave-more : (count : ℕ) → Fills gives n offset old before at asked buffer
      → gives asked (ReadAt n (offset + at) (mid_of at (length buffer - at) buffer) part) (Ok count) new → 1 ≤ count → count ≤ length part
      → Fills gives n offset old before (at + count) new (put_mid at (length buffer - at) buffer part)
  gave-more count fills given some fits = subst (Fills gives n offset old before (at + count) new) (sym (put-behind at buffer part))
      (gave at count asked new buffer part fills (asked-rest (Ok count) given) some fits)

  -- one read more gave none
  pub gave-none : Fills gives n offset old before at asked buffer → at < length buffer
      → gives asked (ReadAt n (offset + at) (mid_of at (length buffer - at) buffer) part) (Ok 0) new
      → FillsAll gives n offset old before (Ok at) new (put_mid at (length buffer - at) buffer part)
  gave-none fills room given = subst (FillsAll gives n offset old before (Ok at) new) (sym (put-behind at buffer part))
      (ended at asked new buffer part fills room (asked-rest (Ok 0) given))

  -- one read more was refused
  pub gave-refusal : (refusal : StoreRefusal) → Fills gives n offset old before at asked buffer → at < length buffer
      → gives asked (ReadAt n (offset + at) (mid_of at (length buffer - at) buffer) part) (Err refusal) new
      → FillsAll gives n offset old before (Err refusal) new (put_mid at (length buffer - at) buffer part)
  gave-refusal refusal fills room given = subst (FillsAll gives n offset old before (Err refusal) new) (sym (put-behind at buffer part))
      (refused at refusal asked new buffer part fills room (asked-rest (Err refusal) given))
