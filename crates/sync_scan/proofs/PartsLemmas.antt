-- A file that is read and hashed in parts of whole blocks.
use Rattle.std.proofs.Common.{◌≡◌, ◌≢◌, ℕ, ◌+◌, ◌-◌, ◌*◌, ◌<◌, ◌≤◌, List, [], ◌∷◌, ◌++◌, length, take, drop, min, arith, refl, sym, ap, ◌∙◌, ◌⊎◌, inl, inr, ⊎_elim}
use Rattle.std.proofs.lemmas.Bool.{cases_lt}
use Rattle.std.proofs.lemmas.List.{length-drop, length-take, take_all}
use Rattle.std.proofs.Math.Seq.{take-add}
use Rattle.sync_blocks.specs.declared.block.Block.{Block}
use Rattle.sync_blocks.specs.BlockList.{block_list}
use Rattle.sync_blocks.specs.Groups.{blocks_from}

-- what is read is whole blocks, unless it is all
pub stays-whole : (s done size group whole next : ℕ) → 0 < s → done < size → (done ≡ size) ⊎ ((n : ℕ) × (done ≡ n * s))
    → group ≡ min size whole → ((m : ℕ) × (whole ≡ m * s)) → next ≡ min group (size - done)
    → (done + next ≡ size) ⊎ ((n : ℕ) × (done + next ≡ n * s))
stays-whole s done size group whole next some more (inl all) g (m, w) e = absurd (omega arith)
stays-whole s done size group whole next some more (inr (n, d)) g (m, w) e = ⊎_elim
    (λ lt. let full : next ≡ m * s = omega arith in
    let product : (n + m) * s ≡ n * s + m * s = grind arith in
    inr (n + m, omega arith))
    (λ ge. inl (omega arith))
    (cases_lt group (size - done))

-- the blocks of what was read so far, and of the next part
pub more-blocks : (bytes part : List ℕ) (s done size : ℕ) (old new : List Block)
    → ((n : ℕ) → length bytes ≡ n * s → blocks_from 0 (bytes ++ part) s ≡ blocks_from 0 bytes s ++ blocks_from (0 + length bytes) part s)
    → length bytes ≡ done → done < size → (done ≡ size) ⊎ ((n : ℕ) × (done ≡ n * s)) → old ≡ blocks_from 0 bytes s
    → new ≡ old ++ blocks_from done part s → new ≡ blocks_from 0 (bytes ++ part) s
more-blocks bytes part s done size old new joined long more (inl all) first next = absurd (omega arith)
more-blocks bytes part s done size old new joined long more (inr (n, whole)) first next =
    let place : done ≡ 0 + length bytes = omega arith in
    next ∙ (λ t. first t ++ blocks_from (place t) part s) ∙ sym (joined n (long ∙ whole))

-- the bytes of a file up to a place, and the next ones
pub more-bytes : (file bytes part : List ℕ) (done next : ℕ) → bytes ≡ take done file → part ≡ take next (drop done file)
    → bytes ++ part ≡ take (done + next) file
more-bytes file bytes part done next before now = (λ t. before t ++ now t) ∙ sym (take-add done next file)

module _ (file now part old : List ℕ) (n done next : ℕ) (read : take n part ≡ take (length old) (drop done now)) (same : now ≡ file)
    (kept : length part ≡ length old) (room : length old ≡ next) where
  reads : take n part ≡ take next (drop done file)
  reads = read ∙ (λ t. take (room t) (drop done (same t)))

  -- a part that was read whole is what the file has there
  pub is-part : next ≤ n → part ≡ take next (drop done file)
  is-part all = sym (take_all n part (omega arith)) ∙ reads

  -- a file that ends before a part does is shorter
  pub is-shorter : (size : ℕ) → n < next → done + next ≤ size → length file ≢ size
  is-shorter size less within is =
      let a = length-take n part in
      let b = length-take next (drop done file) in
      let d = length-drop done file in
      let e = ap length reads in
      absurd (omega arith)

-- a file that ends at its size has been read whole
pub is-whole : (file now bytes part : List ℕ) (n done size : ℕ) → bytes ≡ take done file → length bytes ≡ done → done ≡ size
    → take n part ≡ take 1 (drop size now) → now ≡ file → n ≤ 0 → bytes ≡ file
is-whole file now bytes part n done size read long all after same none =
    let a = length-take n part in
    let b = length-take 1 (drop size file) in
    let d = length-drop size file in
    let e = ap length (after ∙ ap (λ f. take 1 (drop size f)) same) in
    read ∙ take_all done file (omega arith)

-- a list without elements
empty-of : (bytes : List ℕ) → length bytes ≡ 0 → bytes ≡ []
empty-of [] e = refl
empty-of (x ∷ xs) e = absurd (omega arith)

-- an empty file has its one block
pub list-of-none : (bytes : List ℕ) (s : ℕ) (old new : List Block) (e : Block) → length bytes ≡ 0 → old ≡ blocks_from 0 bytes s
    → new ≡ old ++ e ∷ [] → blocks_from 0 [] s ≡ [] → block_list [] s ≡ e ∷ [] → new ≡ block_list bytes s
list-of-none bytes s old new e none first next nothing one =
    let empty = empty-of bytes none in
    next ∙ ap (λ l. l ++ e ∷ []) (first ∙ ap (λ b. blocks_from 0 b s) empty ∙ nothing) ∙ sym one ∙ ap (λ b. block_list b s) (sym empty)
