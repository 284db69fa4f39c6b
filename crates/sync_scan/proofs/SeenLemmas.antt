-- What was seen of names ahead of their changes.
use Rattle.std.proofs.Common.{◌≡◌, ◌≢◌, ℕ, zero, suc, ◌≤◌, List, [], ◌∷◌, length, take, Option, Some, None, refl, sym, ap, subst, ◌∙◌}
use Rattle.std.specs.Prelude.{Result, unwrap_or}
use Rattle.std.specs.List.{AllZip}
use Rattle.sync_blocks.specs.declared.block.Block.{Block}
use Rattle.sync_blocks.specs.BlockList.{block_list}
use Rattle.sync_blocks.specs.Sizes.{block_size_for}
use Rattle.sync_record.specs.Records.{FileRecord, Name}
use Rattle.folder_calls.specs.Shared.{CallerView, Sees}
use Rattle.file_store.specs.Calls.{stat_of}
use Rattle.file_store.specs.Trees.{Tree, bytes_of}
use Rattle.file_store.specs.declared.node.Node.{Node}
use Rattle.file_store.specs.declared.node.Node.TheVariants.{Directory, File}
use Rattle.file_store.specs.declared.node.Stat.TheVariants as stat
use Rattle.file_store.specs.declared.refusal.StoreRefusal.{StoreRefusal}
use Rattle.sync_scan.specs.Ahead.{AreSeen, HasBlocks, IsSeen, Knows, SightIs}
use Rattle.sync_scan.specs.AllNames.{ScansOne}
use Rattle.sync_scan.specs.Stops.{counted}
use Rattle.sync_scan.specs.Looks.{MayFind, block_size_of, look_of, look_of_file, max_file_size, recorded_block_size, file_finding}
use Rattle.sync_scan.specs.Scans.{GoesOn}
use Rattle.sync_scan.specs.Told.{Giving, ReadsOther, ReadsWhole, Says}
use Rattle.sync_scan.specs.declared.ahead.Ahead.{Ahead}
use Rattle.sync_scan.specs.declared.ahead.Part.{Part}
use Rattle.sync_scan.specs.declared.ahead.Seen.{Seen}
use Rattle.sync_scan.specs.declared.ahead.Sight.{Sight}
use Rattle.sync_scan.specs.declared.ahead.Sight.TheVariants.{Read, Changing, Failed, Later}
use Rattle.sync_scan.specs.declared.scanned.Look.{Look}
use Rattle.sync_scan.specs.declared.scanned.Look.TheVariants as look
use Rattle.sync_scan.proofs.FoundLemmas.{file-there, file-told, size-of-new, size-of-own}
use Rattle.sync_scan.specs.declared.scanned.Scanned.{Scanned}
use Rattle.sync_scan.specs.declared.sum.ScanSum.{ScanSum}
use Rattle.sync_scan.proofs.EachLemmas.{Next, after-seen, one-weaker}
use Rattle.sync_scan.proofs.OnLemmas.{goes-itself, goes-then}

-- what was seen is said in other words
pub sight-weaker : (has other : Part → List ℕ → Type 0) (may can : Look → Type 0) (fails : StoreRefusal → Type 0) (s : Sight) → ((p : Part) (b : List ℕ) → has p b → other p b)
    → ((l : Look) → may l → can l) → SightIs has may fails s → SightIs other can fails s
sight-weaker has other may can fails (Read part) first second (bytes, long, holds, found) =
    (bytes, long, first part bytes holds, second (look.Found (file_finding (block_size_for part.size) bytes part.modified)) found)
sight-weaker has other may can fails Changing first second found = second look.Changing found
sight-weaker has other may can fails (Failed e) first second fail = fail
sight-weaker has other may can fails Later first second u = tt

pub seen-weaker : (has other : Part → List ℕ → Type 0) (before first last later : CallerView) (may can : Name → CallerView → Look → Type 0) (fails : Name → StoreRefusal → Type 0) (n : Name) (s : Seen)
    → ((p : Part) (b : List ℕ) → has p b → other p b) → GoesOn before first → GoesOn last later → ((m : Name) (v : CallerView) (l : Look) → may m v l → can m v l)
    → IsSeen has first last may fails n s → IsSeen other before later can fails n s
seen-weaker has other before first last later may can fails n s holds back on weaker seen =
    sight-weaker has other (Knows first last n (may n) s.local) (Knows before later n (can n) s.local) (fails n) s.sight holds
    (λ l k. record {
      read = k.read;
      since = goes-then before first k.read back k.since;
      until = goes-then k.read last later k.until on;
      is = k.is;
      may_be = weaker n k.read l k.may_be;
    }) seen

pub all-weaker : {X Y : Type 0} (R S : X → Y → Type 0) (xs : List X) (ys : List Y) → ((x : X) (y : Y) → R x y → S x y) → AllZip R xs ys → AllZip S xs ys
all-weaker R S [] [] turn all = tt
all-weaker R S [] (y ∷ ys) turn all = absurd all
all-weaker R S (x ∷ xs) [] turn all = absurd all
all-weaker R S (x ∷ xs) (y ∷ ys) turn all = (turn x y all.0, all-weaker R S xs ys turn all.1)

-- the first of what was seen, and the rest
pub seen-head : {X Y : Type 0} (R : X → Y → Type 0) (k : ℕ) (n : X) (ns : List X) (x : Y) (xs : List Y) → AllZip R (take k (n ∷ ns)) (x ∷ xs)
    → R n x × ((j : ℕ) × AllZip R (take j ns) xs)
seen-head R zero n ns x xs all = absurd all
seen-head R (suc k) n ns x xs all = (all.0, (k, all.1))

-- a file of which no other block size is recorded is cut by its own
pub own-size : (local : Option FileRecord) (bytes : List ℕ) (size : ℕ) → length bytes ≡ size → unwrap_or (recorded_block_size local size) (block_size_for size) ≡ block_size_for size
    → block_size_of local bytes ≡ block_size_for size
own-size local bytes size long own = by (recorded_block_size local size) refl own
  where
    by : (o : Option ℕ) → recorded_block_size local size ≡ o → unwrap_or o (block_size_for size) ≡ block_size_for size → block_size_of local bytes ≡ block_size_for size
    by None e own = size-of-new local bytes size long e
    by (Some b) e own = size-of-own local bytes size long b (block_list bytes b) e refl own ∙ own

-- what is there, by its stat
there-is : (local : Option FileRecord) (node : Option Node) (size modified : ℕ) → stat.File size modified ≡ stat_of node → look_of local node ≡ look_of_file local (bytes_of node) modified
there-is local None size modified e = absurd (cc)
there-is local (Some Directory) size modified e = absurd (cc)
there-is local (Some (File bytes at)) size modified e =
    let same : at ≡ modified = cc in
    ap (look_of_file local bytes) same

there-long : (node : Option Node) (size modified : ℕ) → stat.File size modified ≡ stat_of node → length (bytes_of node) ≡ size
there-long None size modified e = absurd (cc)
there-long (Some Directory) size modified e = absurd (cc)
there-long (Some (File bytes at)) size modified e = cc

-- the history went on after it was seen
pub are-on : (ahead : Ahead) (first last later : CallerView) (may : Name → CallerView → Look → Type 0) (fails : Name → StoreRefusal → Type 0) (names : List Name) → GoesOn last later
    → AreSeen ahead first last may fails names → AreSeen ahead first later may fails names
are-on ahead first last later may fails names on (k, all) =
    let has = HasBlocks ahead.blocks.items in (
      k,
      all-weaker (IsSeen has first last may fails) (IsSeen has first later may fails) (take k names) ahead.seen.items
          (λ (n : Name) (s : Seen). seen-weaker has has first first last later may may fails n s (λ p b h. h) (goes-itself first) on (λ m l f u. u)) all,
    )

-- a list without elements
pub empty-of : {X : Type 0} (xs : List X) → length xs ≡ 0 → xs ≡ []
empty-of [] e = refl
empty-of (x ∷ xs) e = absurd (cc)

-- nothing was seen
pub are-none : (ahead : Ahead) (first last : CallerView) (may : Name → CallerView → Look → Type 0) (fails : Name → StoreRefusal → Type 0) (names : List Name) → ahead.seen.items ≡ []
    → AreSeen ahead first last may fails names
are-none ahead first last may fails names none = (0, subst (AllZip (IsSeen (HasBlocks ahead.blocks.items) first last may fails) []) (sym none) tt)

-- what was seen of a name, in other words and by the same blocks
pub turn-seen : (old then : CallerView) (may can : Name → CallerView → Look → Type 0) (fails : Name → StoreRefusal → Type 0) (n : Name) (s : Seen) (blocks other : List Block) → other ≡ blocks
    → ((m : Name) (v : CallerView) (l : Look) → may m v l → can m v l) → IsSeen (HasBlocks blocks) old then may fails n s → IsSeen (HasBlocks other) old then can fails n s
turn-seen old then may can fails n s blocks other same into seen =
    subst (λ b. IsSeen (HasBlocks b) old then can fails n s) (sym same)
    (seen-weaker (HasBlocks blocks) (HasBlocks blocks) old old then then may can fails n s (λ p b h. h) (goes-itself old) (goes-itself then) into seen)

-- the turn of a name
pub turn-next : (old v then w : CallerView) (n : Name) (moment : ℕ) (may can : Name → CallerView → Look → Type 0) (fails : Name → StoreRefusal → Type 0) (sum more : ScanSum) (r : Result Scanned StoreRefusal)
    → Sees v then → ((m : Name) (v : CallerView) (l : Look) → can m v l → may m v l) → ScansOne old then n moment (can n) (fails n) r w → more ≡ counted sum r
    → Next old v moment may fails n sum more w
turn-next old v then w n moment may can fails sum more r sees back turned counts =
    (r, after-seen old moment may fails v then w n r sees (one-weaker old then w n moment (can n) (may n) (fails n) r (back n) turned), counts)

module _ {S : Type 0} (gives : Giving S) (keeps : Type 0) (tree : Tree) (n : Name) (local : Option FileRecord) (size modified : ℕ) (within : size ≤ max_file_size)
    (says : Says gives n (stat.File size modified)) (is_there : keeps → stat.File size modified ≡ stat_of (tree.names n)) where
  pub may-read : (bytes : List ℕ) → length bytes ≡ size → unwrap_or (recorded_block_size local size) (block_size_for size) ≡ block_size_for size → ReadsWhole gives n bytes
      → (keeps → bytes ≡ bytes_of (tree.names n)) → MayFind gives keeps tree n local (look.Found (file_finding (block_size_for size) bytes modified))
  may-read bytes long own reads there =
      let chosen = own-size local bytes size long own in
      let found = look.Found (file_finding (block_size_for size) bytes modified) in (
        (stat.File size modified, says, file-told gives n local size modified found within bytes bytes (block_size_for size) long long chosen refl reads reads),
        λ k. file-there gives n local size modified found within bytes bytes (block_size_for size) long long chosen refl (bytes_of (tree.names n)) (there k) (there k)
            ∙ sym (there-is local (tree.names n) size modified (is_there k)),
      )

  pub may-change : ReadsOther gives n size → (keeps → length (bytes_of (tree.names n)) ≢ size) → MayFind gives keeps tree n local look.Changing
  may-change reads apart = ((stat.File size modified, says, (within, reads)), λ k. absurd (apart k (there-long (tree.names n) size modified (is_there k))))

  -- what reading a file of this size came to
  pub sight-found : (has : Part → List ℕ → Type 0) (fails : StoreRefusal → Type 0) (s : Sight) → unwrap_or (recorded_block_size local size) (block_size_for size) ≡ block_size_for size
      → SightIs (λ part bytes. has part bytes × (part.size ≡ size) × (part.modified ≡ modified) × ReadsWhole gives n bytes × (keeps → bytes ≡ bytes_of (tree.names n)))
      (λ l. l ≡ look.Changing → ReadsOther gives n size × (keeps → length (bytes_of (tree.names n)) ≢ size)) fails s
      → SightIs has (MayFind gives keeps tree n local) fails s
  sight-found has fails (Read part) own (bytes, long, (holds, sized, dated, reads, there), found) = (bytes, long, holds, moved part.size part.modified sized dated)
    where
      moved : (z m : ℕ) → z ≡ size → m ≡ modified → MayFind gives keeps tree n local (look.Found (file_finding (block_size_for z) bytes m))
      moved z m e f =
          subst (λ (y : ℕ). MayFind gives keeps tree n local (look.Found (file_finding (block_size_for y) bytes m))) (sym e)
          (subst (λ (y : ℕ). MayFind gives keeps tree n local (look.Found (file_finding (block_size_for size) bytes y))) (sym f)
          (may-read bytes (long ∙ sized) own reads there))
  sight-found has fails Changing own other = let o = other refl in may-change o.0 o.1
  sight-found has fails (Failed e) own fail = fail
  sight-found has fails Later own u = tt
