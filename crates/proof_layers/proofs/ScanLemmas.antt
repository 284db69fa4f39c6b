-- What a scan recorded is what stands there.
use Rattle.std.proofs.Common.{◌≡◌, ℕ, ◌≤◌, Bool, true, false, List, [], ◌∷◌, ◌++◌, length, nat_lt, Option, Some, None, Result, Ok, Err, refl, sym, ap, subst, ◌∙◌, ◌⊎◌, inl, inr, pos}
use Rattle.std.specs.Prelude.{IsTrue, if◌then◌else◌, unwrap_or}
use mathlib.Core.List.{IsPrefix}
use Rattle.sync_version.specs.Versions.{Vector}
use Rattle.sync_version.specs.Computed.{is_counter_full}
use Rattle.sync_record.specs.Devices.{short_id}
use Rattle.sync_blocks.specs.BlockList.{block_list}
use Rattle.sync_blocks.specs.declared.block.Block.{Block}
use Rattle.sync_record.specs.Records.{FileRecord, Name, is_directory, is_file}
use Rattle.sync_record.specs.declared.kind.Kind.TheVariants as kind
use Rattle.file_store.specs.Trees.{Tree}
use Rattle.file_store.specs.declared.node.Node.{Node}
use Rattle.file_store.specs.declared.node.Node.TheVariants.{Directory, File}
use Rattle.folder_core.specs.States.{FolderState, IsFolder, is_sequence_full, local, local_version}
use Rattle.folder_core.specs.Steps.{first_answer, is_accepted, scan_gone, step}
use Rattle.folder_core.specs.declared.answer.Answer.{Answer}
use Rattle.folder_core.specs.declared.answer.Answer.TheVariants.{Busy, CounterFull, HistoryFull, Moved, Recorded, SequenceFull, Unchanged}
use Rattle.folder_core.specs.declared.change.Change.{Change}
use Rattle.folder_core.specs.declared.change.Change.TheVariants.{ScanFound, ScanGone}
use Rattle.folder_core.specs.declared.finding.Finding.{Finding}
use Rattle.folder_core.specs.declared.finding.FoundContent.TheVariants.{Directory as FoundDirectory, File as FoundFile}
use Rattle.folder_core.specs.declared.scan.ScanAnswer.{ScanAnswer}
use Rattle.folder_core.specs.declared.scan.ScanAnswer.TheVariants as scan
use Rattle.folder_calls.specs.Calls.{scan_value}
use Rattle.folder_calls.specs.Histories.{state_after}
use Rattle.folder_calls.specs.Shared.{CallerView, Gets, IsLegalView, now, own_entry, seeing}
use Rattle.folder_calls.specs.declared.entry.Entry.{Entry}
use Rattle.folder_calls.specs.declared.refusal.ScanRefusal.{ScanRefusal}
use Rattle.sync_scan.specs.Looks.{MayFindAt, block_size_of, directory_finding, file_finding, look_of, max_file_size}
use Rattle.sync_scan.specs.Scans.{AsksFor, Scans}
use Rattle.sync_scan.specs.Told.{Giving}
use Rattle.sync_scan.specs.declared.scanned.Look.TheVariants as look
use Rattle.sync_scan.specs.declared.scanned.Scanned.{Scanned}
use Rattle.sync_scan.specs.declared.scanned.Scanned.TheVariants as scanned
use Rattle.sync_scan.proofs.RecordLemmas.{chosen-is, some-size}
use Rattle.sync_pull.specs.Bytes.{AreOf}
use Rattle.sync_pull.specs.Standing.{StandsAs}
use Rattle.proof_layers.proofs.AlikeLemmas.{directory-kind, file-kind, stands-deleted, stands-kind}
use Rattle.proof_layers.proofs.BytesLemmas.{own-blocks}
use Rattle.proof_layers.specs.Taken.{IsTaken}

-- ---- what a folder's laws say of its answers

-- a live record of a directory
pub record IsDirectoryRecord (r : FileRecord) : Type 0 where
  pub live : r.deleted ≡ false
  pub kind : IsTrue (is_directory r)

-- a live record of a file of so many bytes, and of these blocks where there are any
pub record IsFileRecord (size : ℕ) (blocks : List Block) (r : FileRecord) : Type 0 where
  pub live : r.deleted ≡ false
  pub kind : IsTrue (is_file r)
  pub size_is : r.size ≡ pos size
  pub blocks_are : (size ≡ 0) ⊎ (r.blocks ≡ blocks)

-- the answer says that the finding is recorded
pub data SaysRecorded : Answer → Type 0 where
  was_recorded : (k : ℕ) → SaysRecorded (Recorded k)
  was_unchanged : SaysRecorded Unchanged

pub record FolderLaws : Type 0 where
  pub opened : (old new : CallerView) (c : Change) (a : Answer) → Gets old c a new → new.opening ≡ old.opening
  pub accepted : (old new : CallerView) (c : Change) (a : Answer) → Gets old c a new → is_accepted a ≡ true
      → (front : List Entry) × IsPrefix old.seen front × (new.seen ≡ front ++ own_entry old c a ∷ [])
      × ((step (state_after old.opening front) c).0 ≡ a) × ((step (state_after old.opening front) c).1 ≡ now new)
  pub other : (old new : CallerView) (c : Change) (a : Answer) → Gets old c a new → is_accepted a ≡ false → (a ≡ HistoryFull) ⊎ ((step (now new) c).0 ≡ a)
  pub view : (v : CallerView) (es fs : List Entry) → IsLegalView (seeing v (es ++ fs)) → IsLegalView (seeing v es)
  pub folder : (v : CallerView) → IsLegalView v → IsFolder (state_after v.opening v.seen)

pub record ScanLaws : Type 0 where
  pub found_directory : (s : FolderState) (n : Name) (expected : Option Vector) (f : Finding) (moment k : ℕ) → f.content ≡ FoundDirectory
      → (step s (ScanFound n expected f moment)).0 ≡ Recorded k
      → (r : FileRecord) × (local (step s (ScanFound n expected f moment)).1 n ≡ Some r) × IsDirectoryRecord r
  pub found_file : (s : FolderState) (n : Name) (expected : Option Vector) (f : Finding) (size block_size : ℕ) (blocks : List Block) (moment k : ℕ)
      → f.content ≡ FoundFile size block_size blocks → (step s (ScanFound n expected f moment)).0 ≡ Recorded k
      → (r : FileRecord) × (local (step s (ScanFound n expected f moment)).1 n ≡ Some r) × IsFileRecord size blocks r
  pub same_directory : (s : FolderState) (n : Name) (expected : Option Vector) (f : Finding) (moment : ℕ) → f.content ≡ FoundDirectory
      → (step s (ScanFound n expected f moment)).0 ≡ Unchanged → (r : FileRecord) × (local s n ≡ Some r) × IsDirectoryRecord r
  pub same_file : (s : FolderState) (n : Name) (expected : Option Vector) (f : Finding) (size block_size : ℕ) (blocks : List Block) (moment : ℕ)
      → f.content ≡ FoundFile size block_size blocks → (step s (ScanFound n expected f moment)).0 ≡ Unchanged
      → (r : FileRecord) × (local s n ≡ Some r) × IsFileRecord size blocks r
  pub deletion : (s : FolderState) (n : Name) (expected : Option Vector) (moment k : ℕ) (r : FileRecord) → IsFolder s → local s n ≡ Some r
      → (step s (ScanGone n expected moment)).0 ≡ Recorded k
      → (q : FileRecord) × (local (step s (ScanGone n expected moment)).1 n ≡ Some q) × (q.deleted ≡ true)

-- ---- a name that is gone

abbrev tests_with : Bool → Bool → Bool → Bool → Bool → Option Vector → List (Bool × Answer)
tests_with busy moved same counter full v =
    (busy, Busy) ∷ (moved, Moved v) ∷ (same, Unchanged) ∷ (counter, CounterFull) ∷ (full, SequenceFull) ∷ []

-- Unchanged is answered only by the third test
only-same : (s t : FolderState) (v : Option Vector) (k : ℕ) (busy moved same counter full : Bool)
    → (first_answer s (tests_with busy moved same counter full v) (Recorded k, t)).0 ≡ Unchanged → same ≡ true
only-same s t v k busy moved true counter full e = refl
only-same s t v k true moved false counter full e = cc
only-same s t v k false true false counter full e = cc
only-same s t v k false false false true full e = cc
only-same s t v k false false false false true e = cc
only-same s t v k false false false false false e = cc

-- where the third test holds, nothing is recorded
never-recorded : (s t : FolderState) (v : Option Vector) (k : ℕ) (busy moved counter full : Bool)
    → (first_answer s (tests_with busy moved true counter full v) (Unchanged, t)).0 ≡ Recorded k → ⊥
never-recorded s t v k true moved counter full e = cc
never-recorded s t v k false true counter full e = cc
never-recorded s t v k false false counter full e = cc

gone-same : (s : FolderState) (n : Name) (expected : Option Vector) (moment : ℕ) (r : FileRecord) → local s n ≡ Some r
    → (step s (ScanGone n expected moment)).0 ≡ Unchanged → r.deleted ≡ true
gone-same s n expected moment r here e =
    only-same s _ (local_version s n) _ _ _ r.deleted _ _ (sym (ap (λ o. (scan_gone s n expected moment o).0) here) ∙ e)

gone-none : (s : FolderState) (n : Name) (expected : Option Vector) (moment k : ℕ) → local s n ≡ None
    → (step s (ScanGone n expected moment)).0 ≡ Recorded k → ⊥
gone-none s n expected moment k here e =
    never-recorded s s (local_version s n) k _ _ (is_counter_full (unwrap_or (local_version s n) []) (short_id s.me)) (is_sequence_full s) (sym (ap (λ o. (scan_gone s n expected moment o).0) here) ∙ e)

-- ---- what stands by the record

directory-stands : (o : Option FileRecord) (r : FileRecord) → o ≡ Some r → IsDirectoryRecord r → StandsAs o (Some Directory)
directory-stands o r is d =
    subst (λ x. StandsAs x (Some Directory)) (sym is)
    (subst (λ X. X) (sym (stands-kind r (Some Directory) kind.Directory d.live (directory-kind r d.kind))) refl)

file-stands : (o : Option FileRecord) (r : FileRecord) (bytes : List ℕ) (modified s : ℕ) → 1 ≤ s → o ≡ Some r
    → IsFileRecord (length bytes) (block_list bytes s) r → StandsAs o (Some (File bytes modified))
file-stands o r bytes modified s some is f =
    subst (λ x. StandsAs x (Some (File bytes modified))) (sym is)
    (subst (λ X. X) (sym (stands-kind r (Some (File bytes modified)) kind.File f.live (file-kind r f.kind)))
    (bytes, modified, refl, record { size = f.size_is; blocks = by f.blocks_are }))
  where
    by : (length bytes ≡ 0) ⊎ (r.blocks ≡ block_list bytes s) → (length bytes ≡ 0) ⊎ AreOf r.blocks bytes
    by (inl none) = inl none
    by (inr same) = inr (subst (λ bs. AreOf bs bytes) (sym same) (own-blocks bytes s some))

gone-stands : (o : Option FileRecord) (r : FileRecord) → o ≡ Some r → r.deleted ≡ true → StandsAs o None
gone-stands o r is gone = subst (λ x. StandsAs x None) (sym is) (subst (λ X. X) (sym (stands-deleted r None gone)) refl)

module _ (calls : FolderLaws) (laws : ScanLaws) (read new : CallerView) (n : Name) (expected : Option Vector) (moment : ℕ) where
  -- the folder at the point of an accepted change
  point-folder : (c : Change) (a : Answer) → Gets read c a new → (front : List Entry) → new.seen ≡ front ++ own_entry read c a ∷ []
      → IsFolder (state_after read.opening front)
  point-folder c a gets front is =
      let whole : IsLegalView (seeing new (front ++ own_entry read c a ∷ [])) = subst (λ es. IsLegalView (seeing new es)) is gets.legal in
      subst (λ s. IsFolder (state_after s front)) (calls.opened read new c a gets)
      (calls.folder (seeing new front) (calls.view new front (own_entry read c a ∷ []) whole))

  -- an answer that is not accepted, of the folder as the caller then knows it
  unchanged : (c : Change) → Gets read c Unchanged new → (step (now new) c).0 ≡ Unchanged
  unchanged c gets = by (calls.other read new c Unchanged gets refl)
    where
      by : (Unchanged ≡ HistoryFull) ⊎ ((step (now new) c).0 ≡ Unchanged) → (step (now new) c).0 ≡ Unchanged
      by (inl never) = cc
      by (inr is) = is

  directory-found : (a : Answer) → SaysRecorded a → Gets read (ScanFound n expected directory_finding moment) a new → StandsAs (local (now new) n) (Some Directory)
  directory-found a (was_recorded k) gets =
      let at = calls.accepted read new (ScanFound n expected directory_finding moment) (Recorded k) gets refl in
      let made = laws.found_directory (state_after read.opening at.0) n expected directory_finding moment k refl at.3 in
      subst (λ t. StandsAs (local t n) (Some Directory)) at.4 (directory-stands _ made.0 made.1 made.2)
  directory-found a was_unchanged gets =
      let same = laws.same_directory (now new) n expected directory_finding moment refl (unchanged (ScanFound n expected directory_finding moment) gets) in
      directory-stands _ same.0 same.1 same.2

  file-found : (bytes : List ℕ) (modified s : ℕ) → 1 ≤ s → (a : Answer) → SaysRecorded a
      → Gets read (ScanFound n expected (file_finding s bytes modified) moment) a new → StandsAs (local (now new) n) (Some (File bytes modified))
  file-found bytes modified s some a (was_recorded k) gets =
      let f = file_finding s bytes modified in
      let at = calls.accepted read new (ScanFound n expected f moment) (Recorded k) gets refl in
      let made = laws.found_file (state_after read.opening at.0) n expected f (length bytes) s (block_list bytes s) moment k refl at.3 in
      subst (λ t. StandsAs (local t n) (Some (File bytes modified))) at.4 (file-stands _ made.0 bytes modified s some made.1 made.2)
  file-found bytes modified s some a was_unchanged gets =
      let f = file_finding s bytes modified in
      let same = laws.same_file (now new) n expected f (length bytes) s (block_list bytes s) moment refl (unchanged (ScanFound n expected f moment) gets) in
      file-stands _ same.0 bytes modified s some same.1 same.2

  gone-found : (a : Answer) → SaysRecorded a → Gets read (ScanGone n expected moment) a new → StandsAs (local (now new) n) None
  gone-found a (was_recorded k) gets = by (local s n) refl
    where
      c : Change
      c = ScanGone n expected moment

      at : (front : List Entry) × IsPrefix read.seen front × (new.seen ≡ front ++ own_entry read c (Recorded k) ∷ [])
          × ((step (state_after read.opening front) c).0 ≡ Recorded k) × ((step (state_after read.opening front) c).1 ≡ now new)
      at = calls.accepted read new c (Recorded k) gets refl

      s : FolderState
      s = state_after read.opening at.0

      by : (o : Option FileRecord) → local s n ≡ o → StandsAs (local (now new) n) None
      by None here = absurd (gone-none s n expected moment k here at.3)
      by (Some r) here =
          let made = laws.deletion s n expected moment k r (point-folder c (Recorded k) gets at.0 at.2) here at.3 in
          subst (λ t. StandsAs (local t n) None) at.4 (gone-stands _ made.0 made.1 made.2)
  gone-found a was_unchanged gets = by (local (now new) n) refl
    where
      by : (o : Option FileRecord) → local (now new) n ≡ o → StandsAs o None
      by None here = refl
      by (Some r) here =
          gone-stands (Some r) r refl (gone-same (now new) n expected moment r here (unchanged (ScanGone n expected moment) gets))

  answered : (known : Option FileRecord) (there : Option Node) (answer : Result ScanAnswer ScanRefusal) → SaysRecorded (scan_value answer)
      → AsksFor read n expected moment (look_of known there) (scanned.Answered answer) new → StandsAs (local (now new) n) there
  answered known None answer says asks = gone-found (scan_value answer) says asks
  answered known (Some Directory) answer says asks = directory-found (scan_value answer) says asks
  answered known (Some (File bytes modified)) answer says asks = by (nat_lt max_file_size (length bytes)) asks
    where
      size : ℕ
      size = block_size_of known bytes

      by : (b : Bool) → AsksFor read n expected moment (if b then look.Skipped else look.Found (file_finding size bytes modified)) (scanned.Answered answer) new
          → StandsAs (local (now new) n) (Some (File bytes modified))
      by true never = absurd never
      by false asks = file-found bytes modified size (some-size size (chosen-is known bytes)) (scan_value answer) says asks

  pub taken : (known : Option FileRecord) (there : Option Node) (result : Scanned) → IsTaken result
      → AsksFor read n expected moment (look_of known there) result new → StandsAs (local (now new) n) there
  taken known there (scanned.Answered (Ok (scan.Recorded k))) is asks = answered known there (Ok (scan.Recorded k)) (was_recorded k) asks
  taken known there (scanned.Answered (Ok scan.Unchanged)) is asks = answered known there (Ok scan.Unchanged) was_unchanged asks
  taken known there (scanned.Answered (Ok (scan.Moved v))) is asks = absurd is
  taken known there (scanned.Answered (Ok scan.Busy)) is asks = absurd is
  taken known there (scanned.Answered (Err fault)) is asks = absurd is
  taken known there scanned.Skipped is asks = absurd is
  taken known there scanned.Changing is asks = absurd is

-- where a scan took what it found, that is what the local record says
pub scan-stands : FolderLaws → ScanLaws → {S : Type 0} (gives : Giving S) (shown : S → CallerView → Type 0) (keeps : Type 0) (tree : Tree) (old new : CallerView) (n : Name) (moment : ℕ) (result : Scanned)
    → keeps → Scans old n moment (MayFindAt gives shown keeps tree n) result new → IsTaken result → StandsAs (local (now new) n) (tree.names n)
scan-stands calls laws gives shown keeps tree old new n moment result kept scans is =
    let known = local (now scans.read) n in
    let expected = local_version (now scans.read) n in
    taken calls laws scans.read new n expected moment known (tree.names n) result is
    (subst (λ l. AsksFor scans.read n expected moment l result new) (scans.may_be.2.1 kept) scans.asks)

-- ---- from the laws

pub directory-by : (o : Option FileRecord) (r : FileRecord) → o ≡ Some r → r.deleted ≡ false → IsTrue (is_directory r)
    → (q : FileRecord) × (o ≡ Some q) × IsDirectoryRecord q
directory-by o r is live kind = (r, is, record { live = live; kind = kind })

pub file-by : (size : ℕ) (blocks : List Block) (o : Option FileRecord) (r : FileRecord) → o ≡ Some r → r.deleted ≡ false → IsTrue (is_file r)
    → r.size ≡ pos size → (size ≡ 0) ⊎ (r.blocks ≡ blocks) → (q : FileRecord) × (o ≡ Some q) × IsFileRecord size blocks q
file-by size blocks o r is live kind size_is own = (r, is, record { live = live; kind = kind; size_is = size_is; blocks_are = own })

pub deleted-by : (o : Option FileRecord) (r : FileRecord) → o ≡ Some r → r.deleted ≡ true → (q : FileRecord) × (o ≡ Some q) × (q.deleted ≡ true)
deleted-by o r is gone = (r, is, gone)

pub drop-size : {P Q R : Type 0} → P ⊎ (Q × R) → P ⊎ R
drop-size (inl p) = inl p
drop-size (inr h) = inr h.1
