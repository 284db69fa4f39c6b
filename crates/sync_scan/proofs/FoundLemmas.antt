-- A file that was read, and the block size by which it is cut.
use Rattle.std.proofs.Common.{◌≡◌, ℕ, ◌≤◌, List, length, true, false, Bool, Option, Some, None, arith, refl, sym, ap, subst, ◌∙◌}
use Rattle.std.specs.Prelude.{if◌then◌else◌, nat_lt}
use Rattle.std.proofs.lemmas.Bool.{le-ltb}
use Rattle.sync_blocks.specs.declared.block.Block.{Block}
use Rattle.sync_blocks.specs.BlockList.{block_list}
use Rattle.sync_blocks.specs.Sizes.{block_size_for}
use Rattle.sync_record.specs.Records.{FileRecord}
use Rattle.file_store.specs.Names.{Name}
use Rattle.file_store.specs.declared.node.Stat.TheVariants as stat
use Rattle.sync_scan.specs.Looks.{LeadsTo, are_recorded, block_size_of, chosen_block_size, file_finding, look_of_file, max_file_size, recorded_block_size}
use Rattle.sync_scan.specs.Told.{Giving, ReadsWhole}
use Rattle.sync_scan.specs.declared.scanned.Look.{Look}
use Rattle.sync_scan.specs.declared.scanned.Look.TheVariants.{Found, Skipped}

module _ (local : Option FileRecord) (bytes : List ℕ) (size : ℕ) (long : length bytes ≡ size) where
  by-recorded : (o : Option ℕ) → recorded_block_size local size ≡ o → block_size_of local bytes ≡ chosen_block_size local bytes o
  by-recorded o is = ap (chosen_block_size local bytes) (ap (recorded_block_size local) long ∙ is)

  -- no block size is recorded
  pub size-of-new : recorded_block_size local size ≡ None → block_size_of local bytes ≡ block_size_for size
  size-of-new none = by-recorded None none ∙ ap block_size_for long

  module _ (recorded : ℕ) (blocks : List Block) (is : recorded_block_size local size ≡ Some recorded) (cut : blocks ≡ block_list bytes recorded) where
    by-blocks : (b : Bool) → are_recorded local size blocks ≡ b → block_size_of local bytes ≡ (if b then recorded else block_size_for size)
    by-blocks b same =
        let test : are_recorded local (length bytes) (block_list bytes recorded) ≡ b = ap (λ n. are_recorded local n (block_list bytes recorded)) long ∙ ap (are_recorded local size) (sym cut) ∙ same in
        by-recorded (Some recorded) is ∙ ap (λ t. if t then recorded else block_size_for (length bytes)) test ∙ ap (λ n. if b then recorded else block_size_for n) long

    -- the blocks are the recorded ones, or would be cut the same
    pub size-of-same : are_recorded local size blocks ≡ true → block_size_of local bytes ≡ recorded
    size-of-same = by-blocks true

    pub size-of-other : are_recorded local size blocks ≡ false → block_size_of local bytes ≡ block_size_for size
    size-of-other = by-blocks false

    pub size-of-own : recorded ≡ block_size_for size → block_size_of local bytes ≡ recorded
    size-of-own own = by (are_recorded local size blocks) refl
      where
        by : (b : Bool) → are_recorded local size blocks ≡ b → block_size_of local bytes ≡ recorded
        by true e = by-blocks true e
        by false e = by-blocks false e ∙ sym own

module _ {S : Type 0} (gives : Giving S) (n : Name) (local : Option FileRecord) (size modified : ℕ) (result : Look) (within : size ≤ max_file_size)
    (first bytes : List ℕ) (block_size : ℕ) (first_long : length first ≡ size) (long : length bytes ≡ size) (chosen : block_size_of local first ≡ block_size)
    (is : result ≡ Found (file_finding block_size bytes modified)) where
  -- what was read of any store
  pub file-told : ReadsWhole gives n first → ReadsWhole gives n bytes → LeadsTo gives n local (stat.File size modified) result
  file-told first_read read = subst (LeadsTo gives n local (stat.File size modified)) (sym is) (
    within,
    record {
      first = first;
      bytes = bytes;
      first_read = first_read;
      read = read;
      first_long = first_long;
      long = long;
      is = ap (λ b. file_finding b bytes modified) (sym chosen);
    },
  )

  -- what is there
  pub file-there : (file : List ℕ) → first ≡ file → bytes ≡ file → result ≡ look_of_file local file modified
  file-there file one two =
      let small : nat_lt max_file_size (length bytes) ≡ false = le-ltb max_file_size (length bytes) (omega (arith, long, within)) in
      is ∙ (λ i. Found (file_finding (sym chosen i) bytes modified)) ∙ ap (λ f. Found (file_finding (block_size_of local f) bytes modified)) (one ∙ sym two)
      ∙ sym (ap (λ t. if t then Skipped else Found (file_finding (block_size_of local bytes) bytes modified)) small) ∙ ap (λ f. look_of_file local f modified) two
