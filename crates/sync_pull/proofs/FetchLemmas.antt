-- A file that is written block after block.
use Rattle.std.proofs.Common.{◌≡◌, ℕ, ◌+◌, ◌-◌, ◌<◌, ◌≤◌, Bool, true, false, ◌&&◌, inl, inr, List, [], ◌∷◌, ◌++◌, length, take, drop, min, get_or, Some, None, suc, zero, refl, sym, ap, subst, ◌∙◌, arith}
use Rattle.std.specs.Prelude.{◌↔◌, bytes_eq, not, ◌==◌, if◌then◌else◌, IfSome, IsTrue, slice_get, sum_by, ℤ, pos, negsuc, unwrap_or}
use Rattle.std.proofs.lemmas.Bool.{eqb-true, false≢true}
use Rattle.std.proofs.lemmas.List.{take_all, take-append-le, drop-append-le, drop_all, length-take, length-drop, take-append-drop, drop-drop}
use Rattle.std.proofs.lemmas.List.Sums.{sum_by-cons}
use Rattle.std.proofs.lemmas.Option.{slice_get_within, get_or_from_slice_get}
use Rattle.std.proofs.lemmas.Slice.Eq.{bytes_eq-Decides}
use Rattle.std.proofs.Math.Seq.{take-suc, drop-cons}
use Rattle.sha2.specs.Sha256.{sha256}
use Rattle.file_store.specs.Contents.{overwritten}
use Rattle.file_store.specs.Names.{Name}
use Rattle.file_store.specs.Trees.{Tree}
use Rattle.sync_blocks.specs.declared.block.Block.{Block}
use Rattle.sync_blocks.specs.Tiling.{Tiles, tiles}
use Rattle.sync_record.specs.Assemblies.{Assembling, put_answer}
use Rattle.sync_record.specs.Records.{FileRecord, is_live_file, kind_of}
use Rattle.sync_record.specs.declared.kind.Kind.TheVariants as kind
use Rattle.sync_pull.specs.Standing.{IsReadyAs, IsReadyBy}
use Rattle.sync_record.specs.Validity.{describes_file, is_valid}
use Rattle.sync_record.specs.declared.put.Put.TheVariants.{WrongSize, WrongHash, Ok}
use Rattle.sync_pull.specs.Bytes.{AreOf, HasBlock}
use Rattle.sync_pull.proofs.PuttingLemmas.{here}
use Rattle.sync_pull.specs.Fetching.{HoldsBlocks, IsWritten}

has-length : (b : Block) (bytes : List ℕ) → HasBlock b bytes → b.size ≤ length bytes
has-length b bytes h =
    let taken : length (take b.size bytes) ≡ min b.size (length bytes) = length-take b.size bytes in
    let is = h.size in
    omega arith

-- the blocks' bytes are as many as their sizes together
pub of-length : (bs : List Block) (bytes : List ℕ) → AreOf bs bytes → length bytes ≡ sum_by (λ c. c.size) bs
of-length [] bytes e = ap length e
of-length (b ∷ bs) bytes h =
    let rest : length (drop b.size bytes) ≡ sum_by (λ c. c.size) bs = of-length bs (drop b.size bytes) h.1 in
    let left : length (drop b.size bytes) ≡ length bytes - b.size = length-drop b.size bytes in
    let fits : b.size ≤ length bytes = has-length b bytes h.0 in
    let both : length bytes ≡ b.size + sum_by (λ c. c.size) bs = omega arith in
    both ∙ sym (sum_by-cons (λ (c : Block). c.size) b bs)

-- with the bytes of one block more
pub of-more : (bs : List Block) (b : Block) (bytes piece : List ℕ) → AreOf bs bytes → length piece ≡ b.size → sha256 piece ≡ b.hash → AreOf (bs ++ b ∷ []) (bytes ++ piece)
of-more [] b bytes piece e size digest =
    let all : take b.size piece ≡ piece = take_all b.size piece (omega arith) in
    let none : drop b.size piece ≡ [] = drop_all b.size piece (omega arith) in
    subst (λ bs. AreOf (b ∷ []) (bs ++ piece)) (sym e) (record { size = ap length all ∙ size; digest = ap sha256 all ∙ digest }, none)
of-more (c ∷ bs) b bytes piece h size digest =
    let fits : c.size ≤ length bytes = has-length c bytes h.0 in
    let front : take c.size (bytes ++ piece) ≡ take c.size bytes = take-append-le c.size bytes piece fits in
    let back : drop c.size (bytes ++ piece) ≡ drop c.size bytes ++ piece = drop-append-le c.size bytes piece fits in (
      record { size = ap length front ∙ h.0.size; digest = ap sha256 front ∙ h.0.digest },
      subst (AreOf (bs ++ b ∷ [])) (sym back) (of-more bs b (drop c.size bytes) piece h.1 size digest),
    )

-- a put that comes to Ok is of the block's bytes
answered : (b : Block) (bytes : List ℕ) (sized matched : Bool) → (length bytes == b.size) ≡ sized → bytes_eq (sha256 bytes) b.hash ≡ matched
    → (if not sized then WrongSize else (if not matched then WrongHash else Ok)) ≡ Ok → (length bytes ≡ b.size) × (sha256 bytes ≡ b.hash)
answered b bytes true true s m e = (eqb-true (length bytes) b.size s, (bytes_eq-Decides (sha256 bytes) b.hash).0 m)
answered b bytes true false s m e = absurd (cc)
answered b bytes false matched s m e = absurd (cc)

pub put-has : (b : Block) (bytes : List ℕ) → put_answer b bytes ≡ Ok → (length bytes ≡ b.size) × (sha256 bytes ≡ b.hash)
put-has b bytes e = answered b bytes (length bytes == b.size) (bytes_eq (sha256 bytes) b.hash) refl refl e

and-right : (a b : Bool) → (a && b) ≡ true → b ≡ true
and-right true b h = h
and-right false b h = absurd (false≢true h)

-- the blocks of a file that is described tile it
pub tiles-of : ((blocks : List Block) (size block_size : ℕ) → IsTrue (tiles blocks size block_size) ↔ Tiles blocks size block_size)
    → (size block_size : ℤ) (blocks : List Block) → IsTrue (describes_file size block_size blocks) → (s : ℕ) × (b : ℕ) × Tiles blocks s b
tiles-of law (pos s) (pos b) blocks h = (s, b, (law blocks s b).0 (and-right _ (tiles blocks s b) h))
tiles-of law (pos s) (negsuc n) blocks h = absurd (false≢true h)
tiles-of law (negsuc n) b blocks h = absurd (false≢true h)

split-at : (bs : List Block) (i : ℕ) (b : Block) → slice_get bs i ≡ Some b → bs ≡ take i bs ++ b ∷ drop (suc i) bs
split-at bs i b e =
    let within : i < length bs = slice_get_within bs i b e in
    let is : get_or bs i b ≡ b = get_or_from_slice_get bs i b b e in
    sym (take-append-drop i bs) ∙ ap (λ r. take i bs ++ r) (drop-cons bs i b within ∙ ap (λ c. c ∷ drop (suc i) bs) is)

-- a block of a tiling begins where the blocks before it end
pub begins-at : (bs : List Block) (size block_size : ℕ) → Tiles bs size block_size → (i : ℕ) (b : Block) → slice_get bs i ≡ Some b
    → b.offset ≡ sum_by (λ c. c.size) (take i bs)
begins-at bs size block_size (inl t) i b e = t.begin (take i bs) (drop (suc i) bs) b (split-at bs i b e)
begins-at bs size block_size (inr t) i b e = only i (ap (λ l. slice_get l i) (sym t.one.1) ∙ e)
  where
    only : (i : ℕ) → slice_get (t.one.0 ∷ []) i ≡ Some b → b.offset ≡ sum_by (λ c. c.size) (take i bs)
    only zero e =
        let is : t.one.0 ≡ b = cc in
        sym (ap (λ (c : Block). c.offset) is) ∙ t.one.2
    only (suc i) e = absurd (none-some e)
      where
        none-some : None ≡ Some b → ⊥
        none-some e = cc

-- one block more, as a list
pub take-next : (bs : List Block) (i : ℕ) (b : Block) → slice_get bs i ≡ Some b → take (i + 1) bs ≡ take i bs ++ b ∷ []
take-next bs i b e =
    let within : i < length bs = slice_get_within bs i b e in
    let is : get_or bs i b ≡ b = get_or_from_slice_get bs i b b e in
    let one : i + 1 ≡ suc i = omega arith in
    ap (λ k. take k bs) one ∙ take-suc bs i b within ∙ ap (λ c. take i bs ++ c ∷ []) is

-- bytes that are written at the end are appended
pub holds-more : ((bytes piece : List ℕ) → overwritten bytes (length bytes) piece ≡ bytes ++ piece)
    → (bs : List Block) (size block_size : ℕ) → Tiles bs size block_size → (i : ℕ) (b : Block) → slice_get bs i ≡ Some b
    → (n : Name) (before after : Assembling) (old new : Tree) → before.target.blocks ≡ bs → HoldsBlocks (take i bs) n old
    → IsWritten i b n before after old new → HoldsBlocks (take (i + 1) bs) n new
holds-more appended bs size block_size t i b e n before after old new blocks held w =
    let put : IfSome (slice_get before.target.blocks i) (λ c. put_answer c w.bytes ≡ Ok) = w.put.own in
    let own : put_answer b w.bytes ≡ Ok = subst (λ o. IfSome o (λ c. put_answer c w.bytes ≡ Ok)) (ap (λ l. slice_get l i) blocks ∙ e) put in
    let has : (length w.bytes ≡ b.size) × (sha256 w.bytes ≡ b.hash) = put-has b w.bytes own in
    let offset : b.offset ≡ length held.bytes = begins-at bs size block_size t i b e ∙ sym (of-length (take i bs) held.bytes held.own) in
    let temps : new.temps n ≡ Some (overwritten (unwrap_or (old.temps n) []) b.offset w.bytes) =
    ap (λ (x : Tree). x.temps n) w.written ∙ here n (Some (overwritten (unwrap_or (old.temps n) []) b.offset w.bytes)) old.temps in
    record {
      bytes = held.bytes ++ w.bytes;
      held = temps ∙ ap (λ o. Some (overwritten (unwrap_or o []) b.offset w.bytes)) held.held
          ∙ ap (λ k. Some (overwritten held.bytes k w.bytes)) offset ∙ ap Some (appended held.bytes w.bytes);
      own = subst (λ l. AreOf l (held.bytes ++ w.bytes)) (sym (take-next bs i b e)) (of-more (take i bs) b held.bytes w.bytes held.own has.0 has.1);
    }

-- each block's bytes are where the blocks before it end
pub at-block : (bs : List Block) (bytes : List ℕ) → AreOf bs bytes → (i : ℕ) (b : Block) → slice_get bs i ≡ Some b
    → HasBlock b (drop (sum_by (λ c. c.size) (take i bs)) bytes)
at-block [] bytes h i b e = absurd (none-some e)
  where
    none-some : None ≡ Some b → ⊥
    none-some e = cc
at-block (c ∷ bs) bytes h zero b e =
    let is : c ≡ b = cc in
    subst (λ x. HasBlock x bytes) is h.0
at-block (c ∷ bs) bytes h (suc i) b e =
    let rest : HasBlock b (drop (sum_by (λ c. c.size) (take i bs)) (drop c.size bytes)) = at-block bs (drop c.size bytes) h.1 i b e in
    let both : drop (sum_by (λ c. c.size) (take i bs)) (drop c.size bytes) ≡ drop (sum_by (λ c. c.size) (c ∷ take i bs)) bytes =
    drop-drop (sum_by (λ c. c.size) (take i bs)) c.size bytes ∙ ap (λ k. drop k bytes) (sym (sum_by-cons (λ (c : Block). c.size) c (take i bs))) in
    subst (HasBlock b) both rest

-- and the sizes of a tiling's blocks are together the file's
pub tiled-size : (bs : List Block) (size block_size : ℕ) → Tiles bs size block_size → sum_by (λ c. c.size) bs ≡ size
tiled-size bs size block_size (inl t) = t.all
tiled-size bs size block_size (inr t) =
    let one : sum_by (λ (c : Block). c.size) bs ≡ sum_by (λ (c : Block). c.size) (t.one.0 ∷ []) = ap (sum_by (λ (c : Block). c.size)) t.one.1 in
    let first : sum_by (λ (c : Block). c.size) (t.one.0 ∷ []) ≡ t.one.0.size + sum_by (λ (c : Block). c.size) [] = sum_by-cons (λ (c : Block). c.size) t.one.0 [] in
    let none : sum_by (λ (c : Block). c.size) [] ≡ 0 = refl in
    let size_is = t.one.3 in
    let empty = t.empty in
    omega arith

pub some-at : (bs : List Block) (i : ℕ) → i < length bs → (b : Block) × (slice_get bs i ≡ Some b)
some-at [] i h = absurd (omega arith)
some-at (b ∷ bs) zero h = (b, refl)
some-at (b ∷ bs) (suc i) h = some-at bs i (omega arith)

and-left : (a b : Bool) → (a && b) ≡ true → a ≡ true
and-left true b h = refl
and-left false b h = absurd (false≢true h)

-- one block more is in the temporary file of a valid file
pub held-next : ((blocks : List Block) (size block_size : ℕ) → IsTrue (tiles blocks size block_size) ↔ Tiles blocks size block_size)
    → ((r : FileRecord) → IsTrue (is_valid r) → IsTrue (is_live_file r) → IsTrue (describes_file r.size r.block_size r.blocks))
    → ((bytes piece : List ℕ) → overwritten bytes (length bytes) piece ≡ bytes ++ piece)
    → (r : FileRecord) → IsTrue (is_valid r && is_live_file r) → (i : ℕ) → i < length r.blocks
    → (n : Name) (before after : Assembling) (old new : Tree) → before.target ≡ r → HoldsBlocks (take i r.blocks) n old
    → IfSome (slice_get before.target.blocks i) (λ b. IsWritten i b n before after old new) → HoldsBlocks (take (i + 1) r.blocks) n new
held-next tested whole appended r valid i within n before after old new target held written =
    let t = tiles-of tested r.size r.block_size r.blocks (whole r (and-left (is_valid r) (is_live_file r) valid) (and-right (is_valid r) (is_live_file r) valid)) in
    let at = some-at r.blocks i within in
    let blocks : before.target.blocks ≡ r.blocks = ap (λ (x : FileRecord). x.blocks) target in
    let w : IsWritten i at.0 n before after old new =
    subst (λ o. IfSome o (λ b. IsWritten i b n before after old new)) (ap (λ l. slice_get l i) blocks ∙ at.1) written in
    holds-more appended r.blocks t.0 t.1 t.2 i at.0 at.1 n before after old new blocks held w

-- bytes of the blocks of a file that is described are as many as it has
pub size-is : ((blocks : List Block) (size block_size : ℕ) → IsTrue (tiles blocks size block_size) ↔ Tiles blocks size block_size)
    → (size block_size : ℤ) (blocks : List Block) (bytes : List ℕ) → IsTrue (describes_file size block_size blocks) → AreOf blocks bytes → size ≡ pos (length bytes)
size-is law (pos s) (pos b) blocks bytes h own =
    let t : Tiles blocks s b = (law blocks s b).0 (and-right _ (tiles blocks s b) h) in
    ap pos (sym (of-length blocks bytes own ∙ tiled-size blocks s b t))
size-is law (pos s) (negsuc n) blocks bytes h own = absurd (false≢true h)
size-is law (negsuc n) b blocks bytes h own = absurd (false≢true h)

-- a valid live file whose blocks are in the temporary file can be put in place
pub ready-file : ((blocks : List Block) (size block_size : ℕ) → IsTrue (tiles blocks size block_size) ↔ Tiles blocks size block_size)
    → ((r : FileRecord) → IsTrue (is_valid r) → IsTrue (is_live_file r) → IsTrue (describes_file r.size r.block_size r.blocks))
    → (r : FileRecord) → IsTrue (is_valid r) → r.deleted ≡ false → kind_of r ≡ kind.File → (n : Name) (t : Tree) → HoldsBlocks r.blocks n t → IsReadyAs r.deleted r n t
ready-file tested whole r valid live file n t held =
    let live_file : IsTrue (is_live_file r) = grind arith in
    let size = size-is tested r.size r.block_size r.blocks held.bytes (whole r valid live_file) held.own in
    let to : IsReadyAs r.deleted r n t ≡ IsReadyBy kind.File r n t = ap (λ d. IsReadyAs d r n t) live ∙ ap (λ k. IsReadyBy k r n t) file in
    subst (λ X. X) (sym to) (held.bytes, held.held, record { size = size; blocks = inr held.own })
