-- What the plain folder's scans test and record is the step's.
use Rattle.std.proofs.Common.{◌≡◌, ℕ, ◌+◌, ◌-◌, ◌≤◌, Bool, true, false, List, [], ◌∷◌, length, refl, sym, ap, subst, ◌∙◌}
use Rattle.std.specs.Prelude.{bytes_eq, ◌&&◌, ◌||◌, cond, not, T, IfSome, IsTrue, nat_le, Option, Some, None, filter, is_some, map, option_map, unwrap_or}
use Rattle.std.specs.Bool.{passes}
use Rattle.std.specs.Option.{option_map_or}
use Rattle.std.specs.Ordering.{is_eq}
use Rattle.std.specs.Cmp.Lexicographic.{texts_ties}
use Rattle.std.specs.FinMap.{find, from_sorted, get-from_sorted, is_sorted, put}
use Rattle.std.specs.FinMap.Entries.{below_all}
use Rattle.sync_record.specs.Contents.{same_content}
use Rattle.sync_record.specs.Devices.{Identity, bytes_cmp, short_id}
use Rattle.sync_record.specs.Own.{deletion_of}
use Rattle.sync_record.specs.declared.own.Edit.{Edit}
use Rattle.sync_record.specs.Records.{Name, FileRecord}
use Rattle.sync_version.specs.Computed.{is_counter_full, raised}
use Rattle.sync_version.specs.Versions.{Vector}
use Rattle.folder_core.specs.declared.announcement.Announcement.{Announcement as Entry}
use Rattle.folder_core.specs.declared.plain.pull.OpenPull.{OpenPull}
use Rattle.folder_core.specs.declared.plain.scan.Obstacle.{Obstacle}
use Rattle.folder_core.specs.declared.plain.scan.Obstacle.TheVariants as obstacle
use Rattle.folder_core.specs.Announced.{Announced, key, key_cmp}
use Rattle.folder_core.specs.Codes.{Pulls}
use Rattle.folder_core.specs.Calls.{Changes, may_allocate}
use Rattle.folder_core.specs.Plain.{IsLastOfEach, IsPlain, Rises, commits, filed, folder_of, opened, pulled, pulls_of}
use Rattle.folder_core.specs.PlainReads.{record_from}
use Rattle.folder_core.specs.PlainScans.{content_record, deletion_edit, edit_of, first_of, is_gone, has_commit, is_full, obstacle_answer, tests_of}
use Rattle.folder_core.specs.States.{FolderState, IsFolder, is_committing, local, max_sequence, same_local_version}
use Rattle.folder_core.specs.declared.answer.Answer.{Answer}
use Rattle.folder_core.specs.declared.answer.Answer.TheVariants.{Busy, Moved, Unchanged, CounterFull, SequenceFull, Recorded}
use Rattle.folder_core.specs.declared.change.Change.{Change}
use Rattle.folder_core.specs.declared.change.Change.TheVariants.{ScanFound, ScanGone}
use Rattle.folder_core.specs.declared.finding.Finding.{Finding}
use Rattle.folder_core.specs.declared.finding.FoundContent.{FoundContent}
use Rattle.folder_core.specs.declared.finding.FoundContent.TheVariants.{Directory as FoundDirectory, File as FoundFile}
use Rattle.folder_core.specs.Steps.{MayChange, found_record, gone_record, is_accepted, scan_gone, next_version, first_answer, is_pull_committing, scan_tests, step, with_local}
use Rattle.folder_core.proofs.ChangeFolders.{step-folder}
use Rattle.folder_core.proofs.ListTests.{alike_bytes, by_or, is_less, parts, same_bytes}
use Rattle.folder_core.proofs.PlainChange.{announce-sorted, more_rises}
use Rattle.folder_core.proofs.PlainGroup.{is_named}
use Rattle.folder_core.proofs.PlainOwn.{local_is}
use Rattle.folder_core.proofs.PlainPulls.{commits-open, commits_stage}
use Rattle.folder_core.proofs.PlainTests.{accepted-answer, first-none, first-some}

-- ---- the tests of a scan

name_ties : (m n : Name) → is_eq (bytes_cmp n m) ≡ bytes_eq m n
name_ties m n = sym (texts_ties n m) ∙ turned
  where
    turned : bytes_eq n m ≡ bytes_eq m n
    turned = either (bytes_eq n m) (bytes_eq m n) (λ t. alike_bytes m n (sym (same_bytes n m t))) (λ t. alike_bytes n m (sym (same_bytes m n t)))
      where
        either : (a b : Bool) → (a ≡ true → b ≡ true) → (b ≡ true → a ≡ true) → a ≡ b
        either true b f g = sym (f refl)
        either false true f g = g refl
        either false false f g = refl

-- no pull of a list that is after a name has it
none_named : (n : Name) (ps : List OpenPull) → T (below_all bytes_cmp n (map pulled ps)) → has_commit n ps ≡ false
none_named n [] b = refl
none_named n (p ∷ ps) b =
    let other : bytes_eq p.target.name n ≡ false = sym (name_ties p.target.name n) ∙ ap is_eq (is_less _ (parts _ _ b).0) in
    ap (λ x. (x && is_some p.ready) || has_commit n ps) other ∙ none_named n ps (parts _ _ b).1

or_false : (b : Bool) → (b || false) ≡ b
or_false true = refl
or_false false = refl

commit-found : (n : Name) (ps : List OpenPull) → T (is_sorted bytes_cmp (map pulled ps)) → option_map_or is_committing (find bytes_cmp n (map pulled ps)) false ≡ has_commit n ps
commit-found n [] h = refl
commit-found n (p ∷ ps) h =
    by_or (bytes_eq p.target.name n) (option_map_or is_committing (find bytes_cmp n (map pulled (p ∷ ps))) false ≡ has_commit n (p ∷ ps))
    (λ is. ap (λ x. option_map_or is_committing (cond x (Some (opened p)) (find bytes_cmp n (map pulled ps))) false) (name_ties p.target.name n ∙ is)
    ∙ commits_stage p.ready p refl
    ∙ sym (ap (λ x. (x && is_some p.ready) || has_commit n ps) is
    ∙ ap (λ x. is_some p.ready || x) (none_named n ps (subst (λ m. T (below_all bytes_cmp m (map pulled ps))) (same_bytes p.target.name n is) (parts _ _ h).0))
    ∙ or_false (is_some p.ready)))
    (λ is. ap (λ x. option_map_or is_committing (cond x (Some (opened p)) (find bytes_cmp n (map pulled ps))) false) (name_ties p.target.name n ∙ is)
    ∙ commit-found n ps (parts _ _ h).1
    ∙ sym (ap (λ x. (x && is_some p.ready) || has_commit n ps) is))

module _ (me : Identity) (es : List Entry) (capacity last : ℕ) (ps : List OpenPull) (kept : IsPlain me es capacity last ps) (n : Name) where
  abbrev pub before : FolderState
  before = folder_of me es last (pulls_of ps)

  abbrev pub own : Option FileRecord
  own = record_from me (filter (is_named n) es)

  abbrev pub own_version : Option Vector
  own_version = option_map (λ r. r.version) own

  pub own-is : own ≡ local before n
  own-is = local_is me es last (pulls_of ps) kept.rises n

  committing-is : is_pull_committing before n ≡ has_commit n ps
  committing-is = ap (λ o. option_map_or is_committing o false) (get-from_sorted bytes_cmp (map pulled ps) n (passes _ kept.pulls_rise)) ∙ commit-found n ps (passes _ kept.pulls_rise)

  pub tests-are : (expected : Option Vector) (u : Bool) → scan_tests before n expected u ≡ tests_of (has_commit n ps) own_version expected u (short_id me) (is_full last ps)
  tests-are expected u = (λ i.
      tests_of (committing-is i) (option_map (λ r. r.version) (sym own-is i)) expected u (short_id me) (nat_le (max_sequence - last) (commits-open me es last ps kept.pulls_rise i)))

  -- a scan that is not recorded
  pub not-recorded : (expected : Option Vector) (u : Bool) (made : Answer × FolderState) (o : Obstacle) → Some (obstacle_answer own_version o) ≡ first_of (tests_of (has_commit n ps) own_version expected u (short_id me) (is_full last ps))
      → first_answer before (scan_tests before n expected u) made ≡ (obstacle_answer own_version o, before)
  not-recorded expected u made o e = first-some before (scan_tests before n expected u) made (obstacle_answer own_version o) (e ∙ ap first_of (sym (tests-are expected u)))

  -- and one that is
  pub recorded : (expected : Option Vector) (u : Bool) (made : Answer × FolderState) → None ≡ first_of (tests_of (has_commit n ps) own_version expected u (short_id me) (is_full last ps))
      → first_answer before (scan_tests before n expected u) made ≡ made
  recorded expected u made e = first-none before (scan_tests before n expected u) made (e ∙ ap first_of (sym (tests-are expected u)))

  -- the same from what the code has at hand: the local record, the open pulls and the first test that holds
  module _ (found : Option FileRecord) (found-is : found ≡ own) (qs : List OpenPull) (qs-is : qs ≡ ps) (expected : Option Vector) (u : Bool) (first : Option Obstacle)
      (told : option_map (obstacle_answer (option_map (λ r. r.version) found)) first ≡ first_of (tests_of (has_commit n qs) (option_map (λ r. r.version) found) expected u (short_id me) (is_full last qs))) where
    told-is : option_map (obstacle_answer own_version) first ≡ first_of (tests_of (has_commit n ps) own_version expected u (short_id me) (is_full last ps))
    told-is =
        (λ i. option_map (obstacle_answer (option_map (λ r. r.version) (sym found-is i))) first) ∙ told
        ∙ (λ i. first_of (tests_of (has_commit n (qs-is i)) (option_map (λ r. r.version) (found-is i)) expected u (short_id me) (is_full last (qs-is i))))

    pub answered-so : (o : Obstacle) (made : Answer × FolderState) → first ≡ Some o → first_answer before (scan_tests before n expected u) made ≡ (obstacle_answer own_version o, before)
    answered-so o made is = not-recorded expected u made o (sym (ap (option_map (obstacle_answer own_version)) is) ∙ told-is)

    pub recorded-so : (made : Answer × FolderState) → first ≡ None → first_answer before (scan_tests before n expected u) made ≡ made
    recorded-so made is = recorded expected u made (sym (ap (option_map (obstacle_answer own_version)) is) ∙ told-is)

-- an obstacle is no answer that is accepted
obstacle-refused : (version : Option Vector) (o : Obstacle) → is_accepted (obstacle_answer version o) ≡ false
obstacle-refused version obstacle.Busy = refl
obstacle-refused version obstacle.Moved = refl
obstacle-refused version obstacle.Unchanged = refl
obstacle-refused version obstacle.CounterFull = refl
obstacle-refused version obstacle.SequenceFull = refl

-- where nothing is changed, one of the first three tests holds
first-three : (a m : Bool) (moved : Answer) (ts : List (Bool × Answer)) → None ≡ first_of ((a, Busy) ∷ (m, moved) ∷ (true, Unchanged) ∷ ts) → ⊥
first-three true m moved ts e = let f : None ≡ Some Busy = e in cc
first-three false true moved ts e = let f : None ≡ Some moved = e in cc
first-three false false moved ts e = let f : None ≡ Some Unchanged = e in cc

unchanged-holds : (a : Bool) (version expected : Option Vector) (id : ℕ) (full : Bool) → None ≡ first_of (tests_of a version expected true id full) → ⊥
unchanged-holds a version expected id full e =
    first-three a (not (same_local_version version expected)) (Moved version) ((is_counter_full (unwrap_or version []) id, CounterFull) ∷ (full, SequenceFull) ∷ []) e

-- what is found, as a record
content-is : (s : FolderState) (n : Name) (v : Vector) (f : Finding) (c : FoundContent) → content_record n (edit_of v (short_id s.me) f) c ≡ found_record s n v (record f { content = c })
content-is s n v f FoundDirectory = refl
content-is s n v f (FoundFile size block_size blocks) = refl

pub found-is : (s : FolderState) (n : Name) (v : Vector) (f : Finding) → content_record n (edit_of v (short_id s.me) f) f.content ≡ found_record s n v f
found-is s n v f = content-is s n v f f.content

-- whether the content is the local one
pub same-so : (s : FolderState) (n : Name) (v : Vector) (f : Finding) (u : Bool) (found : Option FileRecord) → found ≡ local s n → ((m : Name) (e : Edit) → u ≡ option_map_or (same_content (content_record m e f.content)) found false)
    → u ≡ option_map_or (same_content (found_record s n v f)) (local s n) false
same-so s n v f u found is told =
    told n (edit_of v (short_id s.me) f)
    ∙ (λ i. option_map_or (same_content (found-is s n v f i)) (is i) false)

-- a scan's answer that leaves the state, or out of memory
pub changes-told : (s : FolderState) (c : Change) (a : Answer) (told : Option Answer) → step s c ≡ (a, s) → IfSome told (λ x. x ≡ a) → Changes s c told s
changes-told s c a None is h = refl
changes-told s c a (Some x) is h = is ∙ ap (λ y. (y, s)) (sym h)

-- ---- what is recorded

module _ (me : Identity) (es new : List Entry) (last : ℕ) (pulls : Pulls) (r : FileRecord) (rises : Rises es) (put_there : map filed new ≡ put key_cmp (key r.name me) (record r { sequence = last + 1 }) (map filed es)) where
  abbrev r' : FileRecord
  r' = record r { sequence = last + 1 }

  alone : IsLastOfEach (r' ∷ []) (r' ∷ [])
  alone = record { rise = refl; last = λ m. refl }

  pub with_local-is : with_local (folder_of me es last pulls) r ≡ folder_of me new (last + 1) pulls
  with_local-is =
      ap (λ (a : Announced). record (folder_of me es last pulls) { announced = a; last = last + 1 })
      (announce-sorted me (r' ∷ []) (r' ∷ []) (map filed es) alone (passes _ rises) ∙ ap from_sorted (sym put_there))

  pub local-rises : Rises new
  local-rises = more_rises me me es new last pulls (r' ∷ []) (r' ∷ []) alone rises put_there

-- the lists stay a plain folder's
pub plain_recorded : (me : Identity) (es new : List Entry) (old_capacity capacity last : ℕ) (ps : List OpenPull) (c : Change) (r : FileRecord) (sequence : ℕ) → IsPlain me es old_capacity last ps → MayChange me c
    → sequence ≡ last + 1 → map filed new ≡ put key_cmp (key r.name me) (record r { sequence = sequence }) (map filed es)
    → step (folder_of me es last (pulls_of ps)) c ≡ (Recorded (last + 1), with_local (folder_of me es last (pulls_of ps)) r) → length new + commits ps ≤ capacity → IsPlain me new capacity sequence ps
plain_recorded me es new old_capacity capacity last ps c r sequence old may next put_there is room =
    let there : map filed new ≡ put key_cmp (key r.name me) (record r { sequence = last + 1 }) (map filed es) = put_there ∙ ap (λ k. put key_cmp (key r.name me) (record r { sequence = k }) (map filed es)) next in
    let whole = with_local-is me es new last (pulls_of ps) r old.rises there in
    record {
      rises = local-rises me es new last (pulls_of ps) r old.rises there;
      pulls_rise = old.pulls_rise;
      folder = subst (λ k. IsFolder (folder_of me new k (pulls_of ps))) (sym next) (subst IsFolder (ap (λ (d : Answer × FolderState). d.1) is ∙ whole) (step-folder (folder_of me es last (pulls_of ps)) c old.folder may));
      ready = old.ready;
      room = room;
    }

pub step_recorded : (me : Identity) (es new : List Entry) (last : ℕ) (ps : List OpenPull) (c : Change) (r : FileRecord) (sequence : ℕ) → Rises es
    → sequence ≡ last + 1 → map filed new ≡ put key_cmp (key r.name me) (record r { sequence = sequence }) (map filed es)
    → step (folder_of me es last (pulls_of ps)) c ≡ (Recorded (last + 1), with_local (folder_of me es last (pulls_of ps)) r) → step (folder_of me es last (pulls_of ps)) c ≡ (Recorded sequence, folder_of me new sequence (pulls_of ps))
step_recorded me es new last ps c r sequence rises next put_there is =
    let there : map filed new ≡ put key_cmp (key r.name me) (record r { sequence = last + 1 }) (map filed es) = put_there ∙ ap (λ k. put key_cmp (key r.name me) (record r { sequence = k }) (map filed es)) next in
    is ∙ ap (λ s. (Recorded (last + 1), s)) (with_local-is me es new last (pulls_of ps) r rises there) ∙ ap (λ k. (Recorded k, folder_of me new k (pulls_of ps))) (sym next)

-- ---- the scans, from what the code has at hand

module _ (me : Identity) (es : List Entry) (capacity last : ℕ) (ps : List OpenPull) (kept : IsPlain me es capacity last ps) (n : Name)
    (found : Option FileRecord) (found_own : found ≡ own me es capacity last ps kept n) (qs : List OpenPull) (qs-is : qs ≡ ps) (expected : Option Vector) (u : Bool) (first : Option Obstacle)
    (told : option_map (obstacle_answer (option_map (λ r. r.version) found)) first ≡ first_of (tests_of (has_commit n qs) (option_map (λ r. r.version) found) expected u (short_id me) (is_full last qs))) where
  abbrev s : FolderState
  s = folder_of me es last (pulls_of ps)

  found_local : found ≡ local s n
  found_local = found_own ∙ own-is me es capacity last ps kept n

  answer-so : (o : Obstacle) (version : Option Vector) (a : Answer) → version ≡ option_map (λ r. r.version) found → a ≡ obstacle_answer version o → a ≡ obstacle_answer (option_map (λ r. r.version) (own me es capacity last ps kept n)) o
  answer-so o version a v is = is ∙ ap (λ w. obstacle_answer w o) (v ∙ ap (option_map (λ r. r.version)) found_own)

  if-so : (o : Obstacle) (version : Option Vector) (answer : Option Answer) → version ≡ option_map (λ r. r.version) found → IfSome answer (λ a. a ≡ obstacle_answer version o) → IfSome answer (λ a. a ≡ obstacle_answer (option_map (λ r. r.version) (own me es capacity last ps kept n)) o)
  if-so o version None v is = is
  if-so o version (Some a) v is = answer-so o version a v is

  module _ (f : Finding) (moment : ℕ) (same : (m : Name) (e : Edit) → u ≡ option_map_or (same_content (content_record m e f.content)) found false) where
    abbrev r : FileRecord
    r = found_record s n (next_version s n moment) f

    u-is : u ≡ option_map_or (same_content r) (local s n) false
    u-is = same-so s n (next_version s n moment) f u found found_local same

    found-step : (o : Obstacle) → first ≡ Some o → step s (ScanFound n expected f moment) ≡ (obstacle_answer (own_version me es capacity last ps kept n) o, s)
    found-step o is =
        ap (λ b. first_answer s (scan_tests s n expected b) (Recorded (last + 1), with_local s r)) (sym u-is)
        ∙ answered-so me es capacity last ps kept n found found_own qs qs-is expected u first told o (Recorded (last + 1), with_local s r) is

    pub found-told : (o : Obstacle) (version : Option Vector) (answer : Option Answer) → first ≡ Some o → version ≡ option_map (λ r. r.version) found → IfSome answer (λ a. a ≡ obstacle_answer version o) → Changes s (ScanFound n expected f moment) answer s
    found-told o version answer is v h =
        changes-told s (ScanFound n expected f moment) (obstacle_answer (own_version me es capacity last ps kept n) o) answer (found-step o is) (if-so o version answer v h)

    pub found-memory : (o : Obstacle) (version : Option Vector) → first ≡ Some o → version ≡ option_map (λ r. r.version) found → IsTrue (may_allocate (obstacle_answer version o)) → IsTrue (may_allocate (step s (ScanFound n expected f moment)).0)
    found-memory o version is v h = ap (λ (d : Answer × FolderState). may_allocate d.0) (found-step o is) ∙ ap may_allocate (sym (answer-so o version _ v refl)) ∙ h

    pub found-made : first ≡ None → step s (ScanFound n expected f moment) ≡ (Recorded (last + 1), with_local s r)
    found-made is =
        ap (λ b. first_answer s (scan_tests s n expected b) (Recorded (last + 1), with_local s r)) (sym u-is)
        ∙ recorded-so me es capacity last ps kept n found found_own qs qs-is expected u first told (Recorded (last + 1), with_local s r) is

    pub found-accepted : (b : Bool) → is_some first ≡ not b → b ≡ is_accepted (step s (ScanFound n expected f moment)).0
    found-accepted b is =
        accepted-answer (obstacle_answer (own_version me es capacity last ps kept n)) first b (step s (ScanFound n expected f moment)) is
        (obstacle-refused (own_version me es capacity last ps kept n)) (λ o some. ap (λ (d : Answer × FolderState). d.0) (found-step o some))
        (λ none. ap (λ (d : Answer × FolderState). is_accepted d.0) (found-made none))

    -- the record that the code makes
    pub found-record : (v : Vector) (id : ℕ) (made : FileRecord) → v ≡ raised (unwrap_or (option_map (λ r. r.version) found) []) id moment → id ≡ short_id me
        → made ≡ content_record n (edit_of v id f) f.content → made ≡ r
    found-record v id made vis idis is =
        is
        ∙ (λ i. content_record n (edit_of ((vis ∙ (λ j. raised (unwrap_or (option_map (λ r. r.version) (found_local j)) []) (idis j) moment)) i) (idis i) f) f.content)
        ∙ found-is s n (next_version s n moment) f

  -- ---- of a name that is gone
  module _ (moment : ℕ) (unchanged : u ≡ is_gone found) where
    gone-step : (o : Obstacle) → first ≡ Some o → step s (ScanGone n expected moment) ≡ (obstacle_answer (own_version me es capacity last ps kept n) o, s)
    gone-step o is = by (local s n) (unchanged ∙ ap is_gone found_local)
      where
        by : (l : Option FileRecord) → u ≡ is_gone l → scan_gone s n expected moment l ≡ (obstacle_answer (own_version me es capacity last ps kept n) o, s)
        by None same =
            ap (λ b. first_answer s (scan_tests s n expected b) (Unchanged, s)) (sym same)
            ∙ answered-so me es capacity last ps kept n found found_own qs qs-is expected u first told o (Unchanged, s) is
        by (Some r) same =
            ap (λ b. first_answer s (scan_tests s n expected b) (Recorded (last + 1), with_local s (gone_record s r (next_version s n moment) moment))) (sym same)
            ∙ answered-so me es capacity last ps kept n found found_own qs qs-is expected u first told o (Recorded (last + 1), with_local s (gone_record s r (next_version s n moment) moment)) is

    pub gone-told : (o : Obstacle) (version : Option Vector) (answer : Option Answer) → first ≡ Some o → version ≡ option_map (λ r. r.version) found → IfSome answer (λ a. a ≡ obstacle_answer version o) → Changes s (ScanGone n expected moment) answer s
    gone-told o version answer is v h =
        changes-told s (ScanGone n expected moment) (obstacle_answer (own_version me es capacity last ps kept n) o) answer (gone-step o is) (if-so o version answer v h)

    pub gone-memory : (o : Obstacle) (version : Option Vector) → first ≡ Some o → version ≡ option_map (λ r. r.version) found → IsTrue (may_allocate (obstacle_answer version o)) → IsTrue (may_allocate (step s (ScanGone n expected moment)).0)
    gone-memory o version is v h = ap (λ (d : Answer × FolderState). may_allocate d.0) (gone-step o is) ∙ ap may_allocate (sym (answer-so o version _ v refl)) ∙ h

    pub gone-made : (r : FileRecord) → found ≡ Some r → first ≡ None → step s (ScanGone n expected moment) ≡ (Recorded (last + 1), with_local s (gone_record s r (next_version s n moment) moment))
    gone-made r there is =
        ap (scan_gone s n expected moment) (sym found_local ∙ there)
        ∙ ap (λ b. first_answer s (scan_tests s n expected b) (Recorded (last + 1), with_local s (gone_record s r (next_version s n moment) moment))) (sym (unchanged ∙ ap is_gone there))
        ∙ recorded-so me es capacity last ps kept n found found_own qs qs-is expected u first told (Recorded (last + 1), with_local s (gone_record s r (next_version s n moment) moment)) is

    pub gone-accepted : (b : Bool) → is_some first ≡ not b → b ≡ is_accepted (step s (ScanGone n expected moment)).0
    gone-accepted b is =
        accepted-answer (obstacle_answer (own_version me es capacity last ps kept n)) first b (step s (ScanGone n expected moment)) is
        (obstacle-refused (own_version me es capacity last ps kept n)) (λ o some. ap (λ (d : Answer × FolderState). d.0) (gone-step o some)) (made found refl)
      where
        made : (l : Option FileRecord) → found ≡ l → first ≡ None → is_accepted (step s (ScanGone n expected moment)).0 ≡ true
        made None absent none =
            absurd (unchanged-holds (has_commit n qs) (option_map (λ r. r.version) found) expected (short_id me) (is_full last qs)
            (sym (ap (option_map (obstacle_answer (option_map (λ r. r.version) found))) none) ∙ told
            ∙ ap (λ x. first_of (tests_of (has_commit n qs) (option_map (λ r. r.version) found) expected x (short_id me) (is_full last qs))) (unchanged ∙ ap is_gone absent)))
        made (Some q) there none = ap (λ (d : Answer × FolderState). is_accepted d.0) (gone-made q there none)

    -- the record that the code makes
    pub gone-record : (r : FileRecord) (v : Vector) (id : ℕ) (made : FileRecord) → found ≡ Some r → v ≡ raised r.version id moment → id ≡ short_id me → made ≡ deletion_of r (deletion_edit v id moment)
        → made ≡ gone_record s r (next_version s n moment) moment
    gone-record r v id made there vis idis is =
        is
        ∙ (λ i. deletion_of r (deletion_edit ((vis ∙ (λ j. raised (unwrap_or (option_map (λ r. r.version) ((sym there ∙ found_local) j)) []) (idis j) moment)) i) (idis i) moment))
