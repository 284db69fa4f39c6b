-- Blocks that are asked for, and what is found of them.
use Rattle.std.proofs.Common.{◌≡◌, ◌≢◌, ℕ, ◌+◌, ◌-◌, ◌<◌, ◌≤◌, min, Bool, true, false, ◌&&◌, inl, inr, List, [], ◌∷◌, ◌++◌, length, take, drop, get_or, Some, None, suc, zero, refl, sym, ap, subst, ◌∙◌, arith}
use Rattle.std.specs.Prelude.{bytes_eq, not, ◌==◌, if◌then◌else◌, IsTrue, set, slice_get, Contains, IfSome, MatchBool, Option, option_map}
use Rattle.std.specs.List.{list_all}
use Rattle.std.specs.Option.{option_map_or}
use Rattle.std.proofs.lemmas.Bool.{false≢true}
use Rattle.std.proofs.lemmas.List.{take_all, take-append-le, drop-append-le, drop_all, get_or-drop, get_or-take, length-take, take_min, length-drop, drop-drop, get_or-set_same, get_or-set_other, length-map, length-set}
use Rattle.std.proofs.lemmas.List.Elements.{Contains-push_cases}
use Rattle.std.proofs.lemmas.Option.{slice_get_within, get_or_from_slice_get}
use Rattle.std.proofs.lemmas.Slice.Eq.{bytes_eq-Decides}
use Rattle.std.proofs.Math.Seq.{take-suc, drop-cons}
use Rattle.sha2.specs.Sha256.{sha256}
use Rattle.sync_blocks.specs.declared.block.Block.{Block}
use Rattle.sync_record.specs.Assemblies.{Assembling, is_complete, nothing_placed, put_answer, with_put}
use Rattle.sync_record.specs.Devices.{Identity}
use Rattle.folder_core.specs.Reads.{BestEntry, best_with_devices}
use Rattle.folder_core.specs.States.{FolderState}
use Rattle.folder_core.specs.declared.best.Best.{Best}
use Rattle.folder_calls.specs.Calls.{best_entry}
use Rattle.sync_record.specs.Records.{FileRecord, Name}
use Rattle.sync_record.specs.declared.put.Put.TheVariants.{WrongSize, WrongHash, Ok}
use Rattle.file_store.specs.Calls.{temp_written}
use Rattle.file_store.specs.Trees.{Tree}
use Rattle.sync_pull.specs.Faults.{StopCounts}
use Rattle.sync_pull.specs.declared.answer.PullFailure.TheVariants.{StoreFault, NoSource, LocalChanged, ConflictNameTaken, NotEmpty, BadParent}
use Rattle.sync_pull.specs.declared.answer.Stop.{Stop}
use Rattle.sync_pull.specs.declared.answer.Stop.TheVariants as stop
use Rattle.sync_pull.specs.Fetching.{AreFound, ArePut, BeginsWith, IsFound, IsPut, IsWritten}
use Rattle.sync_pull.specs.Sources.{AskedInVain, AsksOnly, Gives, HasNoBytes, IsOfNoUse, IsWronglyEmpty, Lacks, asked, in_vain, meanwhile, nobody, not_asked, this_device}
use Rattle.sync_pull.proofs.FetchLemmas.{put-has, some-at}

-- ---- what is asked

module _ {B : Type 0} (gives : Gives B) (n : Name) where
  pub asks-then : (a b c : B) → AsksOnly gives n a b → AsksOnly gives n b c → AsksOnly gives n a c
  asks-then a b _ x not_asked = x
  asks-then a b _ x (asked mid c d k given bytes y g) = asked mid c d k given bytes (asks-then a b mid x y) g

  pub asks-on : (a b c : B) (d : Identity) (k : Block) (given : Bool) (bytes : List ℕ) → AsksOnly gives n a b → gives b d n k given bytes c → AsksOnly gives n a c
  asks-on a b c d k given bytes x g = asked b c d k given bytes x g

  module _ (me : Identity) where
    pub no-bytes-on : (ds : List Identity) (b : Block) (before now : B) → AsksOnly gives n before now → HasNoBytes gives me n ds before b → HasNoBytes gives me n ds now b
    no-bytes-on ds b before now a (inl e) = inl e
    no-bytes-on ds b before now a (inr v) = inr (meanwhile ds before now v a)

    pub found-on : (ds : List Identity) (before now : B) → AsksOnly gives n before now → (b : Block) (bytes : List ℕ) (k : ℕ)
        → IsFound gives me n ds before b bytes k → IsFound gives me n ds now b bytes k
    found-on ds before now a b bytes k f = λ wrong. no-bytes-on (take k ds) b before now a (f wrong)

    -- each of the devices but this one was asked, and gave nothing of use
    pub asked-each : (b : Block) (ds : List Identity) (now : B) → AskedInVain gives me n b ds now → (d : Identity) → Contains ds d → d ≢ me
        → (before after : B) × (given : Bool) × (bytes : List ℕ) × gives before d n b given bytes after × IsOfNoUse b given bytes
    asked-each b _ _ (nobody now) d has apart = absurd (omega (arith, has.1))
    asked-each b _ _ (this_device ds now v) d has apart =
        elim (Contains-push_cases ds me d has) [
          | inl more ↦ asked-each b ds now v d more apart
          | inr same ↦ absurd (apart (sym same))
        ]
    asked-each b _ _ (in_vain ds before now x given bytes v gave vain) d has apart =
        elim (Contains-push_cases ds x d has) [
          | inl more ↦ asked-each b ds before v d more apart
          | inr same ↦ (before, now, given, bytes, subst (λ (y : Identity). gives before y n b given bytes now) same gave, vain)
        ]
    asked-each b _ _ (meanwhile ds before now v only) d has apart = asked-each b ds before v d has apart

    take-more : (ds : List Identity) (i : ℕ) (d : Identity) → i < length ds → take (i + 1) ds ≡ take i ds ++ get_or ds i d ∷ []
    take-more ds i d within =
        let one : i + 1 ≡ suc i = omega arith in
        ap (λ k. take k ds) one ∙ take-suc ds i d within

    -- one device more was asked
    pub vain-next : (b : Block) (ds : List Identity) (i : ℕ) (d : Identity) (given : Bool) (bytes : List ℕ) (before now : B) → i < length ds
        → AskedInVain gives me n b (take i ds) before → gives before (get_or ds i d) n b given bytes now → IsOfNoUse b given bytes → AskedInVain gives me n b (take (i + 1) ds) now
    vain-next b ds i d given bytes before now within v g useless =
        subst (λ l. AskedInVain gives me n b l now) (sym (take-more ds i d within)) (in_vain (take i ds) before now (get_or ds i d) given bytes v g useless)

    -- this device is left out
    pub vain-me : (b : Block) (ds : List Identity) (i : ℕ) (d : Identity) (now : B) → i < length ds → bytes_eq (get_or ds i d) me ≡ true
        → AskedInVain gives me n b (take i ds) now → AskedInVain gives me n b (take (i + 1) ds) now
    vain-me b ds i d now within is v =
        let same : get_or ds i d ≡ me = (bytes_eq-Decides (get_or ds i d) me).0 is in
        subst (λ l. AskedInVain gives me n b l now) (sym (take-more ds i d within ∙ ap (λ e. take i ds ++ e ∷ []) same)) (this_device (take i ds) now v)

    pub vain-all : (b : Block) (ds : List Identity) (i : ℕ) (now : B) → length ds ≤ i → AskedInVain gives me n b (take i ds) now → AskedInVain gives me n b ds now
    vain-all b ds i now all v = subst (λ l. AskedInVain gives me n b l now) (take_all i ds all) v

    pub no-bytes-next : (b : Block) (ds : List Identity) (i : ℕ) (d : Identity) (given : Bool) (bytes : List ℕ) (before now : B) → i < length ds
        → HasNoBytes gives me n (take i ds) before b → gives before (get_or ds i d) n b given bytes now → IsOfNoUse b given bytes → HasNoBytes gives me n (take (i + 1) ds) now b
    no-bytes-next b ds i d given bytes before now within (inl e) g useless = inl e
    no-bytes-next b ds i d given bytes before now within (inr v) g useless = inr (vain-next b ds i d given bytes before now within v g useless)

    pub no-bytes-me : (b : Block) (ds : List Identity) (i : ℕ) (d : Identity) (now : B) → i < length ds → bytes_eq (get_or ds i d) me ≡ true
        → HasNoBytes gives me n (take i ds) now b → HasNoBytes gives me n (take (i + 1) ds) now b
    no-bytes-me b ds i d now within is (inl e) = inl e
    no-bytes-me b ds i d now within is (inr v) = inr (vain-me b ds i d now within is v)

    pub no-bytes-all : (b : Block) (ds : List Identity) (i : ℕ) (now : B) → length ds ≤ i → HasNoBytes gives me n (take i ds) now b → HasNoBytes gives me n ds now b
    no-bytes-all b ds i now all (inl e) = inl e
    no-bytes-all b ds i now all (inr v) = inr (vain-all b ds i now all v)

-- bytes of another length are not the block's
pub other-length : (b : Block) (given : Bool) (bytes : List ℕ) → length bytes ≢ b.size → IsOfNoUse b given bytes
other-length b given bytes other = λ _ e. other (put-has b bytes e).0

-- what was not given
pub none-given : (X : Type 0) (given : Bool) → given ≡ false → given ≡ true → X
none-given X given refused was = absurd (false≢true (sym refused ∙ was))

is-put : (b : Block) (bytes : List ℕ) → length bytes ≡ b.size → sha256 bytes ≡ b.hash → put_answer b bytes ≡ Ok
is-put b bytes size hash =
    let sized : (length bytes == b.size) ≡ true = grind arith in
    let same : bytes_eq (sha256 bytes) b.hash ≡ true = (bytes_eq-Decides (sha256 bytes) b.hash).1 hash in
    ap (λ s. if not s then WrongSize else (if not (bytes_eq (sha256 bytes) b.hash) then WrongHash else Ok)) sized ∙ ap (λ s. if not s then WrongHash else Ok) same

-- an empty block whose bytes are not the empty ones has another digest
pub wrongly-empty : (b : Block) (bytes : List ℕ) → b.size ≡ 0 → bytes ≡ [] → put_answer b bytes ≢ Ok → IsWronglyEmpty b
wrongly-empty b bytes none e wrong =
    (none, λ same. wrong (subst (λ l. put_answer b l ≡ Ok) (sym e) (is-put b [] (sym none) (sym same))))

-- ---- what is found

module _ (P : Block → List ℕ → ℕ → Type 0) where
  pub found-as : (Q : Block → List ℕ → ℕ → Type 0) → ((b : Block) (bytes : List ℕ) (k : ℕ) → P b bytes k → Q b bytes k) → (bs : List Block) (bytes ks : List ℕ) → AreFound P bs bytes ks → AreFound Q bs bytes ks
  found-as Q f bs bytes [] h = h
  found-as Q f [] bytes (k ∷ ks) h = absurd h
  found-as Q f (b ∷ bs) bytes (k ∷ ks) h = (record { size = h.0.size; found = f b (take b.size bytes) k h.0.found }, found-as Q f bs (drop b.size bytes) ks h.1)

  begins-length : (b : Block) (bytes : List ℕ) (k : ℕ) → BeginsWith P b bytes k → b.size ≤ length bytes
  begins-length b bytes k h =
      let taken = length-take b.size bytes in
      let is = h.size in
      omega arith

  begins-longer : (b : Block) (bytes piece : List ℕ) (k : ℕ) → BeginsWith P b bytes k → BeginsWith P b (bytes ++ piece) k
  begins-longer b bytes piece k h =
      let front : take b.size (bytes ++ piece) ≡ take b.size bytes = take-append-le b.size bytes piece (begins-length b bytes k h) in
      record { size = ap length front ∙ h.size; found = subst (λ l. P b l k) (sym front) h.found }

  -- with the bytes of one block more
  pub found-more : (bs : List Block) (b : Block) (bytes piece ks : List ℕ) (k : ℕ) → length ks ≡ length bs → AreFound P bs bytes ks → length piece ≡ b.size → P b piece k
      → AreFound P (bs ++ b ∷ []) (bytes ++ piece) (ks ++ k ∷ [])
  found-more [] b bytes piece [] k each h size p =
      let all : take b.size piece ≡ piece = take_all b.size piece (omega arith) in
      let none : drop b.size piece ≡ [] = drop_all b.size piece (omega arith) in
      subst (λ front. AreFound P (b ∷ []) (front ++ piece) (k ∷ [])) (sym h)
      (record { size = ap length all ∙ size; found = subst (λ l. P b l k) (sym all) p }, none)
  found-more [] b bytes piece (j ∷ ks) k each h size p = absurd h
  found-more (c ∷ bs) b bytes piece [] k each h size p = absurd (omega arith)
  found-more (c ∷ bs) b bytes piece (j ∷ ks) k each h size p =
      let back : drop c.size (bytes ++ piece) ≡ drop c.size bytes ++ piece = drop-append-le c.size bytes piece (begins-length c bytes j h.0) in (
        begins-longer c bytes piece j h.0,
        subst (λ l. AreFound P (bs ++ b ∷ []) l (ks ++ k ∷ [])) (sym back) (found-more bs b (drop c.size bytes) piece ks k (omega arith) h.1 size p),
      )

  -- with blocks after those
  pub found-longer : (count : ℕ) (bs : List Block) (bytes ks : List ℕ) → AreFound P (take count bs) bytes ks → AreFound P bs bytes ks
  found-longer count bs bytes [] h = h
  found-longer zero bs bytes (k ∷ ks) h = absurd h
  found-longer (suc count) [] bytes (k ∷ ks) h = absurd h
  found-longer (suc count) (b ∷ bs) bytes (k ∷ ks) h = (h.0, found-longer count bs (drop b.size bytes) ks h.1)

  -- the first of what is left, and the rest
  pub found-at : (bs : List Block) (bytes ks : List ℕ) (place i offset : ℕ) (d : Block) → place < length bs → i < length ks
      → AreFound P (drop place bs) (drop offset bytes) (drop i ks)
      → BeginsWith P (get_or bs place d) (drop offset bytes) (get_or ks i 0) × AreFound P (drop (place + 1) bs) (drop (offset + (get_or bs place d).size) bytes) (drop (i + 1) ks)
  found-at bs bytes ks place i offset d within below h =
      let b = get_or bs place d in
      let one : place + 1 ≡ suc place = omega arith in
      let next : i + 1 ≡ suc i = omega arith in
      let all : AreFound P (b ∷ drop (suc place) bs) (drop offset bytes) (get_or ks i 0 ∷ drop (suc i) ks) =
      subst (λ l. AreFound P l (drop offset bytes) (get_or ks i 0 ∷ drop (suc i) ks)) (drop-cons bs place d within)
      (subst (λ l. AreFound P (drop place bs) (drop offset bytes) l) (drop-cons ks i 0 below) h) in (
        all.0,
        subst (λ k. AreFound P (drop k bs) (drop (offset + b.size) bytes) (drop (i + 1) ks)) (sym one)
            (subst (λ k. AreFound P (drop (suc place) bs) (drop (offset + b.size) bytes) (drop k ks)) (sym next)
            (subst (λ l. AreFound P (drop (suc place) bs) l (drop (suc i) ks)) (drop-drop b.size offset bytes) all.1)),
      )

  -- as many bytes are left as the block has
  pub begins-within : (b : Block) (bytes : List ℕ) (k offset : ℕ) → offset ≤ length bytes → BeginsWith P b (drop offset bytes) k → offset + b.size ≤ length bytes
  begins-within b bytes k offset within h =
      let fits = begins-length b (drop offset bytes) k h in
      let left = length-drop offset bytes in
      omega arith

  -- the same, of the blocks as they are named elsewhere
  pub found-here : (bs cs : List Block) (bytes ks : List ℕ) (place i offset : ℕ) (d : Block) → cs ≡ bs → place < length bs → i < length ks → offset ≤ length bytes
      → AreFound P (drop place bs) (drop offset bytes) (drop i ks)
      → (offset + (get_or cs place d).size ≤ length bytes) × P (get_or cs place d) (take (get_or cs place d).size (drop offset bytes)) (get_or ks i 0)
      × AreFound P (drop (place + 1) bs) (drop (offset + (get_or cs place d).size) bytes) (drop (i + 1) ks)
  found-here bs cs bytes ks place i offset d same within below fits h =
      let at = found-at bs bytes ks place i offset d within below h in
      subst (λ l. (offset + (get_or l place d).size ≤ length bytes) × P (get_or l place d) (take (get_or l place d).size (drop offset bytes)) (get_or ks i 0)
      × AreFound P (drop (place + 1) bs) (drop (offset + (get_or l place d).size) bytes) (drop (i + 1) ks)) (sym same)
      (begins-within (get_or bs place d) bytes (get_or ks i 0) offset fits at.0, at.0.found, at.1)

-- a front is the front of its own length
pub own-front : (k : ℕ) (xs : List ℕ) → take k xs ≡ take (length (take k xs)) xs
own-front k xs = sym (take_min k xs) ∙ ap (λ m. take m xs) (sym (length-take k xs))

-- a block of the first blocks is one of all
pub contains-at : (bs : List Block) (i : ℕ) (b : Block) → slice_get bs i ≡ Some b → Contains bs b
contains-at bs i b e = (i, slice_get_within bs i b e, get_or_from_slice_get bs i b b e)

-- ---- what was put

pub put-next : (a new : Assembling) (k : ℕ) → ArePut k a → k < length a.target.blocks → new ≡ with_put Ok k a → ArePut (k + 1) new
put-next a new k h within e = subst (ArePut (k + 1)) (sym e) (record {
  marks = length-set a.placed k true ∙ h.marks;
  each = λ i below. by i below;
})
  where
    by : (i : ℕ) → i < k + 1 → get_or (set a.placed k true) i false ≡ true
    by i below = grind (arith, get_or-set_same, get_or-set_other, h.each i, h.marks)

all-true : (bs : List Bool) → ((i : ℕ) → i < length bs → get_or bs i false ≡ true) → list_all (λ b. b) bs ≡ true
all-true [] h = refl
all-true (b ∷ bs) h =
    let first : b ≡ true = h 0 (omega arith) in
    subst (λ x. (x && list_all (λ b. b) bs) ≡ true) (sym first) (all-true bs (λ i below. h (suc i) (omega arith)))

pub put-all : (a : Assembling) → ArePut (length a.target.blocks) a → IsTrue (is_complete a)
put-all a h = all-true a.placed (λ i below. h.each i (subst (λ k. i < k) h.marks below))

-- what holds of the block at a place
pub at-place : (P : Block → Type 0) (bs cs : List Block) (i : ℕ) (d : Block) → cs ≡ bs → i < length bs → IfSome (slice_get bs i) P → P (get_or cs i d)
at-place P bs cs i d same within h =
    let at = some-at bs i within in
    let is : get_or cs i d ≡ at.0 = ap (λ l. get_or l i d) same ∙ get_or_from_slice_get bs i at.0 d at.1 in
    subst P (sym is) (subst (λ o. IfSome o P) at.1 h)

pub of-place : (P : Block → Type 0) (bs cs : List Block) (i : ℕ) (d : Block) → cs ≡ bs → i < length bs → P (get_or cs i d) → IfSome (slice_get bs i) P
of-place P bs cs i d same within h =
    let at = some-at bs i within in
    let is : get_or cs i d ≡ at.0 = ap (λ l. get_or l i d) same ∙ get_or_from_slice_get bs i at.0 d at.1 in
    subst (λ o. IfSome o P) (sym at.1) (subst P is h)

-- bytes that were refused as the block at a place are of no use
pub refused-at : (bs cs : List Block) (i : ℕ) (d : Block) (given : Bool) (bytes given_bytes : List ℕ) → cs ≡ bs → i < length bs → bytes ≡ given_bytes
    → IfSome (slice_get bs i) (λ b. put_answer b bytes ≢ Ok) → IsOfNoUse (get_or cs i d) given given_bytes
refused-at bs cs i d given bytes given_bytes same within e h = λ _.
    subst (λ l. put_answer (get_or cs i d) l ≢ Ok) e (at-place (λ b. put_answer b bytes ≢ Ok) bs cs i d same within h)

-- what follows of the block at a place
pub both-at : (bs : List Block) (i : ℕ) (P Q : Block → Type 0) → i < length bs → IfSome (slice_get bs i) (λ b. Q b → P b) → IfSome (slice_get bs i) Q → IfSome (slice_get bs i) P
both-at bs i P Q within f h =
    let at = some-at bs i within in
    subst (λ o. IfSome o P) (sym at.1) (subst (λ o. IfSome o (λ b. Q b → P b)) at.1 f (subst (λ o. IfSome o Q) at.1 h))

-- bytes that were put were written at the offset of the block
pub is-written : (bs cs : List Block) (i : ℕ) (d : Block) (n : Name) (before after : Assembling) (old new : Tree) (bytes : List ℕ) → cs ≡ bs → i < length bs → IsPut i bytes before after
    → new ≡ temp_written old n (get_or cs i d).offset bytes → IfSome (slice_get bs i) (λ b. IsWritten i b n before after old new)
is-written bs cs i d n before after old new bytes same within put written =
    of-place (λ b. IsWritten i b n before after old new) bs cs i d same within (record { bytes = bytes; put = put; written = written })

-- ---- why it stops

pub stop-wider : (source other parent above : Type 0) → (source → other) → (parent → above) → (s : Stop) (a b : ℕ) → StopCounts source parent s a b → StopCounts other above s a b
stop-wider source other parent above f p stop.OutOfMemory a b h = h
stop-wider source other parent above f p (stop.Failed StoreFault) a b h = h
stop-wider source other parent above f p (stop.Failed NoSource) a b h = (f h.0, h.1)
stop-wider source other parent above f p (stop.Failed LocalChanged) a b h = h
stop-wider source other parent above f p (stop.Failed ConflictNameTaken) a b h = h
stop-wider source other parent above f p (stop.Failed NotEmpty) a b h = h
stop-wider source other parent above f p (stop.Failed BadParent) a b h = (p h.0, h.1)

pub stop-source : (source other parent : Type 0) → (source → other) → (s : Stop) (a b : ℕ) → StopCounts source parent s a b → StopCounts other parent s a b
stop-source source other parent f s a b h = stop-wider source other parent parent f (λ x. x) s a b h

-- one of the blocks
pub lacks-at : {B : Type 0} (gives : Gives B) (me : Identity) (n : Name) (ds : List Identity) (now : B) (bs : List Block) (i : ℕ) → i < length bs
    → IfSome (slice_get bs i) (HasNoBytes gives me n ds now) → Lacks gives me n ds now bs
lacks-at gives me n ds now bs i within h =
    let at = some-at bs i within in
    (at.0, contains-at bs i at.0 at.1, subst (λ o. IfSome o (HasNoBytes gives me n ds now)) at.1 h)

pub matched : (b : Bool) (P Q : Type 0) → b ≡ true → MatchBool b P Q → P
matched b P Q is h = subst (λ x. MatchBool x P Q) is h

-- blocks of a part are among all
pub lacks-part : {B : Type 0} (gives : Gives B) (me : Identity) (n : Name) (ds : List Identity) (now : B) (bs : List Block) (from count : ℕ)
    → Lacks gives me n ds now (take count (drop from bs)) → Lacks gives me n ds now bs
lacks-part gives me n ds now bs from count h =
    let b = h.0 in
    let at = h.1 in
    let taken : length (take count (drop from bs)) ≡ min count (length (drop from bs)) = length-take count (drop from bs) in
    let left : length (drop from bs) ≡ length bs - from = length-drop from bs in
    let within = at.1 in
    let is : get_or bs (from + at.0) b ≡ b = sym (get_or-drop from bs at.0 b) ∙ sym (get_or-take count (drop from bs) at.0 b (omega arith)) ∙ at.2 in
    (b, (from + at.0, omega arith, is), h.2)

-- what is found of no blocks
pub found-none : (P : Block → List ℕ → ℕ → Type 0) (bs : List Block) (bytes ks : List ℕ) → bytes ≡ [] → ks ≡ [] → AreFound P bs bytes ks
found-none P bs bytes ks no_bytes no_ks = subst (AreFound P bs bytes) (sym no_ks) no_bytes

-- one block more is found
pub found-next : (P : Block → List ℕ → ℕ → Type 0) (bs : List Block) (i : ℕ) (d : Block) (bytes piece ks : List ℕ) (k : ℕ) → i < length bs → length ks ≡ i
    → AreFound P (take i bs) bytes ks → length piece ≡ (get_or bs i d).size → P (get_or bs i d) piece k
    → AreFound P (take (i + 1) bs) (bytes ++ piece) (ks ++ k ∷ [])
found-next P bs i d bytes piece ks k within each h size p =
    let one : i + 1 ≡ suc i = omega arith in
    let taken : length (take i bs) ≡ min i (length bs) = length-take i bs in
    subst (λ l. AreFound P l (bytes ++ piece) (ks ++ k ∷ [])) (sym (ap (λ m. take m bs) one ∙ take-suc bs i d within))
    (found-more P (take i bs) (get_or bs i d) bytes piece ks k (omega arith) h size p)

-- of the blocks of a part what was found is found of those from there on
pub found-part : (P : Block → List ℕ → ℕ → Type 0) (bs cs : List Block) (from count : ℕ) (bytes ks : List ℕ) → cs ≡ bs
    → AreFound P (take count (drop from cs)) bytes ks → AreFound P (drop from bs) bytes ks
found-part P bs cs from count bytes ks same h = found-longer P count (drop from bs) bytes ks (subst (λ l. AreFound P (take count (drop from l)) bytes ks) same h)

-- nothing was put yet
pub none-put : (r : FileRecord) → ArePut 0 (nothing_placed r)
none-put r = record { marks = length-map r.blocks (λ b. false); each = λ i below. absurd (omega arith) }

-- the devices that have the best of a name
abbrev pub devices_in : FolderState → Name → List Identity
devices_in s n = option_map_or (λ b. b.1) (best_with_devices s n) []

-- the devices of the best that was read
pub devices-read : (b : Option Best) (r : Option BestEntry) → option_map best_entry b ≡ r → option_map_or (λ (b : Best). b.devices) b [] ≡ option_map_or (λ (e : BestEntry). e.1) r []
devices-read None r e = ap (λ (o : Option BestEntry). option_map_or (λ e. e.1) o []) e
devices-read (Some b) r e = ap (λ (o : Option BestEntry). option_map_or (λ e. e.1) o []) e
