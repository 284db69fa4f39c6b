-- What a scan tests, and what it puts in an index, is the step's.
use Rattle.std.proofs.Common.{◌≡◌, ℕ, ◌+◌, ◌-◌, ◌^◌, ◌<◌, Bool, true, false, List, [], ◌∷◌, refl, sym, ap, subst, ◌∙◌, arith}
use Rattle.std.specs.Prelude.{bytes_eq, cond, IfSome, IsTrue, Option, Some, None, is_some, not, option_map, unwrap_or}
use Rattle.std.specs.FinMap.{get}
use Rattle.std.specs.FinSet.{contains}
use Rattle.std.specs.FinSet as set
use Rattle.std.specs.Option.{option_map_or}
use Rattle.std.proofs.lemmas.Bool.{leb-false}
use Rattle.sync_record.specs.Contents.{same_content}
use Rattle.sync_record.specs.Devices.{Identity, short_id}
use Rattle.sync_record.specs.Own.{deletion_of}
use Rattle.sync_record.specs.Records.{Name, FileRecord}
use Rattle.sync_record.specs.declared.own.Edit.{Edit}
use Rattle.sync_version.specs.Computed.{is_counter_full, raised}
use Rattle.sync_version.specs.Versions.{Vector}
use Rattle.folder_core.specs.Announced.{key}
use Rattle.folder_core.specs.Calls.{Changes, may_allocate}
use Rattle.folder_core.specs.Plain.{IsPlain, commits, folder_of, pulls_of}
use Rattle.folder_core.specs.PlainScans.{content_record, deletion_edit, edit_of, first_of, has_commit, is_full, is_gone, obstacle_answer, tests_of}
use Rattle.folder_core.specs.States.{FolderState, IsFolder, max_sequence, same_local_version}
use Rattle.folder_core.specs.Steps.{MayChange, found_record, gone_record, is_accepted, is_pull_committing, next_version, step, with_local}
use Rattle.folder_core.specs.declared.announcement.Announcement.{Announcement as Entry}
use Rattle.folder_core.specs.declared.answer.Answer.{Answer}
use Rattle.folder_core.specs.declared.answer.Answer.TheVariants.{Busy, Moved, Unchanged, CounterFull, SequenceFull, Recorded}
use Rattle.folder_core.specs.declared.change.Change.{Change}
use Rattle.folder_core.specs.declared.change.Change.TheVariants.{ScanFound, ScanGone}
use Rattle.folder_core.specs.declared.finding.Finding.{Finding}
use Rattle.folder_core.specs.declared.plain.pull.OpenPull.{OpenPull}
use Rattle.folder_core.specs.declared.plain.scan.Obstacle.{Obstacle}
use Rattle.folder_core.specs.declared.plain.scan.Obstacle.TheVariants as obstacle
use Rattle.folder_core.proofs.ChangeFolders.{step-folder}
use Rattle.folder_core.proofs.ListTests.{alike_bytes}
use Rattle.folder_core.proofs.PlainScan as plain
use Rattle.folder_index.specs.Indexes.{IndexState, counted, with_record}
use Rattle.folder_index.specs.Locals.{IsFree}
use Rattle.folder_db.specs.Indexed.{IsIndexed, choices_after, folder_with}
use Rattle.folder_db.proofs.Listing.{es, own-found, plain-is, room, state-is}
use Rattle.folder_db.proofs.Reserved.{commits-listed, none-removed, not-committing}

-- the last test fails, where all do
not-full : (b m u k full : Bool) (moved : Answer) → None ≡ first_of ((b, Busy) ∷ (m, moved) ∷ (u, Unchanged) ∷ (k, CounterFull) ∷ (full, SequenceFull) ∷ []) → full ≡ false
not-full true m u k full moved e = absurd (let f : None ≡ Some Busy = e in cc)
not-full false true u k full moved e = absurd (let f : None ≡ Some moved = e in cc)
not-full false false true k full moved e = absurd (let f : None ≡ Some Unchanged = e in cc)
not-full false false false true full moved e = absurd (let f : None ≡ Some CounterFull = e in cc)
not-full false false false false true moved e = absurd (let f : None ≡ Some SequenceFull = e in cc)
not-full false false false false false moved e = refl

module _ (s : IndexState) (last : ℕ) (ps : List OpenPull) (copies : List (Option FileRecord)) (is : IsIndexed s last ps copies) (n : Name)
    (me : Identity) (me-is : me ≡ s.me) (found : Option FileRecord) (there : found ≡ get s.announced (key n me)) (qs : List OpenPull) (qs-is : qs ≡ ps) (expected : Option Vector) (u : Bool) (first : Option Obstacle)
    (told : option_map (obstacle_answer (option_map (λ r. r.version) found)) first ≡ first_of (tests_of (has_commit n qs) (option_map (λ r. r.version) found) expected u (short_id me) (is_full last qs))) where
  abbrev pub state : FolderState
  state = folder_with s last (pulls_of ps)

  abbrev list : List Entry
  list = es s last ps copies is

  abbrev capacity : ℕ
  capacity = room s last ps copies is

  kept : IsPlain s.me list capacity last ps
  kept = plain-is s last ps copies is

  own : found ≡ plain.own s.me list capacity last ps kept n
  own = own-found s last ps copies is n me me-is found there

  same-state : folder_of s.me list last (pulls_of ps) ≡ state
  same-state = state-is s last ps copies is

  told-so : option_map (obstacle_answer (option_map (λ r. r.version) found)) first ≡ first_of (tests_of (has_commit n qs) (option_map (λ r. r.version) found) expected u (short_id s.me) (is_full last qs))
  told-so = told ∙ ap (λ m. first_of (tests_of (has_commit n qs) (option_map (λ r. r.version) found) expected u (short_id m) (is_full last qs))) me-is

  module _ (f : Finding) (moment : ℕ) (same : (m : Name) (e : Edit) → u ≡ option_map_or (same_content (content_record m e f.content)) found false) where
    pub found-told : (o : Obstacle) (version : Option Vector) (answer : Option Answer) → first ≡ Some o → version ≡ option_map (λ r. r.version) found → IfSome answer (λ a. a ≡ obstacle_answer version o) → Changes state (ScanFound n expected f moment) answer state
    found-told o version answer some v h =
        subst (λ x. Changes x (ScanFound n expected f moment) answer x) same-state
        (plain.found-told s.me list capacity last ps kept n found own qs qs-is expected u first told-so f moment same o version answer some v h)

    pub found-memory : (o : Obstacle) (version : Option Vector) → first ≡ Some o → version ≡ option_map (λ r. r.version) found → IsTrue (may_allocate (obstacle_answer version o)) → IsTrue (may_allocate (step state (ScanFound n expected f moment)).0)
    found-memory o version some v h =
        subst (λ x. IsTrue (may_allocate (step x (ScanFound n expected f moment)).0)) same-state
        (plain.found-memory s.me list capacity last ps kept n found own qs qs-is expected u first told-so f moment same o version some v h)

    pub found-made : first ≡ None → step state (ScanFound n expected f moment) ≡ (Recorded (last + 1), with_local state (found_record state n (next_version state n moment) f))
    found-made none =
        subst (λ x. step x (ScanFound n expected f moment) ≡ (Recorded (last + 1), with_local x (found_record x n (next_version x n moment) f))) same-state
        (plain.found-made s.me list capacity last ps kept n found own qs qs-is expected u first told-so f moment same none)

    pub found-may : first ≡ None → IsTrue (may_allocate (step state (ScanFound n expected f moment)).0)
    found-may none = ap (λ (d : Answer × FolderState). may_allocate d.0) (found-made none)

    pub found-accepted : (b : Bool) → is_some first ≡ not b → b ≡ is_accepted (step state (ScanFound n expected f moment)).0
    found-accepted b none =
        subst (λ x. b ≡ is_accepted (step x (ScanFound n expected f moment)).0) same-state
        (plain.found-accepted s.me list capacity last ps kept n found own qs qs-is expected u first told-so f moment same b none)

    pub found-record : (v : Vector) (id : ℕ) (made : FileRecord) → v ≡ raised (unwrap_or (option_map (λ r. r.version) found) []) id moment → id ≡ short_id me
        → made ≡ content_record n (edit_of v id f) f.content → made ≡ found_record state n (next_version state n moment) f
    found-record v id made vis idis made_is =
        subst (λ x. made ≡ found_record x n (next_version x n moment) f) same-state
        (plain.found-record s.me list capacity last ps kept n found own qs qs-is expected u first told-so f moment same v id made vis (idis ∙ ap short_id me-is) made_is)

  module _ (moment : ℕ) (unchanged : u ≡ is_gone found) where
    pub gone-told : (o : Obstacle) (version : Option Vector) (answer : Option Answer) → first ≡ Some o → version ≡ option_map (λ r. r.version) found → IfSome answer (λ a. a ≡ obstacle_answer version o) → Changes state (ScanGone n expected moment) answer state
    gone-told o version answer some v h =
        subst (λ x. Changes x (ScanGone n expected moment) answer x) same-state
        (plain.gone-told s.me list capacity last ps kept n found own qs qs-is expected u first told-so moment unchanged o version answer some v h)

    pub gone-memory : (o : Obstacle) (version : Option Vector) → first ≡ Some o → version ≡ option_map (λ r. r.version) found → IsTrue (may_allocate (obstacle_answer version o)) → IsTrue (may_allocate (step state (ScanGone n expected moment)).0)
    gone-memory o version some v h =
        subst (λ x. IsTrue (may_allocate (step x (ScanGone n expected moment)).0)) same-state
        (plain.gone-memory s.me list capacity last ps kept n found own qs qs-is expected u first told-so moment unchanged o version some v h)

    pub gone-made : (r : FileRecord) → found ≡ Some r → first ≡ None → step state (ScanGone n expected moment) ≡ (Recorded (last + 1), with_local state (gone_record state r (next_version state n moment) moment))
    gone-made r some none =
        subst (λ x. step x (ScanGone n expected moment) ≡ (Recorded (last + 1), with_local x (gone_record x r (next_version x n moment) moment))) same-state
        (plain.gone-made s.me list capacity last ps kept n found own qs qs-is expected u first told-so moment unchanged r some none)

    pub gone-may : (r : FileRecord) → found ≡ Some r → first ≡ None → IsTrue (may_allocate (step state (ScanGone n expected moment)).0)
    gone-may r some none = ap (λ (d : Answer × FolderState). may_allocate d.0) (gone-made r some none)

    pub gone-accepted : (b : Bool) → is_some first ≡ not b → b ≡ is_accepted (step state (ScanGone n expected moment)).0
    gone-accepted b none =
        subst (λ x. b ≡ is_accepted (step x (ScanGone n expected moment)).0) same-state
        (plain.gone-accepted s.me list capacity last ps kept n found own qs qs-is expected u first told-so moment unchanged b none)

    pub gone-record : (r : FileRecord) (v : Vector) (id : ℕ) (made : FileRecord) → found ≡ Some r → v ≡ raised r.version id moment → id ≡ short_id me → made ≡ deletion_of r (deletion_edit v id moment)
        → made ≡ gone_record state r (next_version state n moment) moment
    gone-record r v id made some vis idis made_is =
        subst (λ x. made ≡ gone_record x r (next_version x n moment) moment) same-state
        (plain.gone-record s.me list capacity last ps kept n found own qs qs-is expected u first told-so moment unchanged r v id made some vis (idis ∙ ap short_id me-is) made_is)

  -- no commit of the name is open where the scan is recorded
  pub no-commit : first ≡ None → is_pull_committing state n ≡ false
  no-commit none =
      commits-listed s.me list capacity last ps kept n
      ∙ ap (has_commit n) (sym qs-is)
      ∙ not-committing (has_commit n qs) (option_map (λ r. r.version) found) expected u (short_id me) (is_full last qs) (sym (ap (option_map (obstacle_answer (option_map (λ r. r.version) found))) none) ∙ told)

  -- a sequence is left where it is
  pub fits-next : first ≡ None → last + 1 < 2 ^ 63
  fits-next none =
      let full = not-full (has_commit n qs) (not (same_local_version (option_map (λ r. r.version) found) expected)) u (is_counter_full (unwrap_or (option_map (λ r. r.version) found) []) (short_id me)) (is_full last qs) (Moved (option_map (λ r. r.version) found))
      (sym (ap (option_map (obstacle_answer (option_map (λ r. r.version) found))) none) ∙ told) in
      let less = leb-false (max_sequence - last) (commits qs) full in
      omega arith

-- ---- what is recorded

-- a local record under the next sequence
pub free-next : (s : IndexState) (last : ℕ) (ps : List OpenPull) (copies : List (Option FileRecord)) → IsIndexed s last ps copies → (n : Name) (q : ℕ) → q ≡ last + 1 → IsFree s n q
free-next s last ps copies is n q next m r there other same = let range = is.folder.numbered.in_range m r there in omega arith

module _ (s : IndexState) (last : ℕ) (ps : List OpenPull) (copies : List (Option FileRecord)) (is : IsIndexed s last ps copies)
    (c : Change) (may : MayChange s.me c) (r made : FileRecord) (name : Name) (named : r.name ≡ name) (free : is_pull_committing (folder_with s last (pulls_of ps)) name ≡ false)
    (answer : step (folder_with s last (pulls_of ps)) c ≡ (Recorded (last + 1), with_local (folder_with s last (pulls_of ps)) r))
    (me : Identity) (me-is : me ≡ s.me) (sequence : ℕ) (next : sequence ≡ last + 1) (new : IndexState) (put : new ≡ with_record me made s) (same : made ≡ record r { sequence = sequence }) where
  abbrev numbered : FileRecord
  numbered = record r { sequence = last + 1 }

  made-is : made ≡ numbered
  made-is = same ∙ ap (λ k. record r { sequence = k }) next

  new-is : new ≡ with_record s.me numbered s
  new-is = put ∙ (λ i. with_record (me-is i) (made-is i) s)

  own_bytes : bytes_eq s.me s.me ≡ true
  own_bytes = alike_bytes s.me s.me refl

  -- nothing was reserved for the name
  promises : (with_record s.me numbered s).promised ≡ s.promised
  promises =
      ap (λ b. cond b (set.remove s.promised r.name) s.promised) own_bytes
      ∙ ap (set.remove s.promised) named
      ∙ none-removed s.promised name (is.reserved name ∙ free)

  state-new : folder_with new sequence (pulls_of ps) ≡ with_local (folder_with s last (pulls_of ps)) r
  state-new = (λ i. folder_with (new-is i) (next i) (pulls_of ps))

  pub recorded : step (folder_with s last (pulls_of ps)) c ≡ (Recorded sequence, folder_with new sequence (pulls_of ps))
  recorded = answer ∙ (λ i. (Recorded (sym next i), sym state-new i))

  pub recorded-counted : new.choices ≡ counted s.choices
  recorded-counted = ap (λ (x : IndexState). x.choices) new-is

  pub recorded-indexed : IsIndexed new sequence ps copies
  recorded-indexed = record {
    pulls_rise = is.pulls_rise;
    folder = subst IsFolder (sym state-new) (subst IsFolder (ap (λ (d : Answer × FolderState). d.1) answer) (step-folder (folder_with s last (pulls_of ps)) c is.folder may));
    ready = is.ready;
    copied = is.copied;
    reserved = λ m. ap (λ (x : IndexState). contains x.promised m) new-is ∙ ap (λ p. contains p m) promises ∙ is.reserved m;
    counted = (let more = recorded-counted in omega arith);
  }

-- a scan that is not recorded chooses no best
pub told-choices : (version : Option Vector) (o : Obstacle) (answer : Option Answer) → IfSome answer (λ a. a ≡ obstacle_answer version o) → (n : ℕ) → n ≡ choices_after answer n
told-choices version o None told n = refl
told-choices version o (Some a) told n = sym (ap (λ x. choices_after (Some x) n) told ∙ by o)
  where
    by : (o : Obstacle) → choices_after (Some (obstacle_answer version o)) n ≡ n
    by obstacle.Busy = refl
    by obstacle.Moved = refl
    by obstacle.Unchanged = refl
    by obstacle.CounterFull = refl
    by obstacle.SequenceFull = refl
