-- What scans and commits record.
use Rattle.std.proofs.Common.{◌≡◌, ◌≢◌, ℕ, ◌+◌, true, false, List, [], refl, sym, ap, subst, ◌∙◌}
use Rattle.std.specs.Prelude.{Option, Some, None, unwrap_or, option_map, IsTrue, ⊤}
use Rattle.std.specs.FinMap.{get}
use Rattle.std.proofs.lemmas.Bool.{and_parts, eqb-true, true≢false}
use Rattle.sync_version.specs.Computed.{merge, raised}
use Rattle.sync_version.specs.Versions.{Vector}
use Rattle.sync_blocks.specs.declared.block.Block.{Block}
use Rattle.sync_record.specs.Devices.{short_id}
use Rattle.sync_record.specs.Records.{Name, FileRecord}
use Rattle.sync_record.specs.Validity.{is_valid}
use Rattle.folder_core.specs.declared.pull_stage.PullStage.{PullStage}
use Rattle.folder_core.specs.declared.pull_stage.PullStage.TheVariants.{Pulling, Committing}
use Rattle.folder_core.specs.Announced.{Key, key}
use Rattle.folder_core.specs.States.{FolderState, Pull, local, local_version, same_stage, IsFolder}
use Rattle.folder_core.specs.declared.answer.Answer.{Answer}
use Rattle.folder_core.specs.declared.answer.Answer.TheVariants.{Recorded, Done}
use Rattle.folder_core.specs.declared.change.Change.{Change}
use Rattle.folder_core.specs.declared.change.Change.TheVariants.{ScanFound, ScanGone, IndexFull, IndexMore, Forget, BeginPull, EnterCommit, Finish, GiveUp, Abort}
use Rattle.folder_core.specs.declared.finding.Finding.{Finding}
use Rattle.folder_core.specs.declared.finding.FoundContent.TheVariants.{Directory as FoundDirectory, File as FoundFile}
use Rattle.folder_core.specs.declared.pull_info.PullInfo.{PullInfo}
use Rattle.folder_core.specs.Steps.{is_accepted, step, with_local, without_pull, committed_record, gone_record, next_version}
use Rattle.folder_core.proofs.Orders.{keys_total, exact_keys, bytes_total, exact_names}
use Rattle.folder_core.proofs.AnnouncedMaps.{insert_here, insert_other, remove_here}
use Rattle.folder_core.proofs.PullOpen.{pull_of-is, pull_of-fits}
use Rattle.sync_record.proofs.Lemmas.{same_record-is}
use Rattle.folder_core.proofs.ChangeCases.{step-cases, found_now, gone_now}
use Rattle.folder_core.proofs.ChangeFolders.{found-name}

-- a record under the next sequence
abbrev pub numbered : FolderState → FileRecord → FileRecord
numbered s r = record r { sequence = s.last + 1 }

-- what is at its name, and at every other
pub local-here : (s : FolderState) (r : FileRecord) (n : Name) → r.name ≡ n → local (with_local s r) n ≡ Some (numbered s r)
local-here s r n here =
    subst (λ m. local (with_local s r) m ≡ Some (numbered s r)) here (insert_here keys_total exact_keys s.announced (key r.name s.me) (numbered s r))

pub local-elsewhere : (s : FolderState) (r : FileRecord) (n m : Name) → r.name ≡ n → m ≢ n → local (with_local s r) m ≡ local s m
local-elsewhere s r n m here other =
    insert_other keys_total exact_keys s.announced (key r.name s.me) (key m s.me) (numbered s r) (λ t. other (ap (λ (k : Key). k.name) t ∙ here))

-- the record that is at the name, and that no other name's changed
record Puts (s : FolderState) (n : Name) (r : FileRecord) (t : FolderState) : Type 0 where
  here : local t n ≡ Some (numbered s r)
  elsewhere : (m : Name) → m ≢ n → local t m ≡ local s m

puts : (s : FolderState) (n : Name) (r : FileRecord) → r.name ≡ n → Puts s n r (with_local s r)
puts s n r is = record { here = local-here s r n is; elsewhere = λ m other. local-elsewhere s r n m is other }

abbrev Recording : FolderState → Change → Answer × FolderState → Type 0
Recording s (ScanFound n expected f moment) d = (k : ℕ) → d.0 ≡ Recorded k → (k ≡ s.last + 1) × Puts s n (found_now s n f moment) d.1
Recording s (ScanGone n expected moment) d = (k : ℕ) (r : FileRecord) → d.0 ≡ Recorded k → local s n ≡ Some r → (k ≡ s.last + 1) × (r.name ≡ n → Puts s n (gone_now s n r moment) d.1)
Recording s _ d = ⊤

abbrev number_of : Answer → ℕ
number_of (Recorded k) = k
number_of (Done k) = k
number_of _ = 0

tested-records : (s : FolderState) (c : Change) (a : Answer) → is_accepted a ≡ false → Recording s c (a, s)
tested-records s (ScanFound n expected f moment) a fails = λ k is. absurd (true≢false (ap is_accepted (sym is) ∙ fails))
tested-records s (ScanGone n expected moment) a fails = λ k r is there. absurd (true≢false (ap is_accepted (sym is) ∙ fails))
tested-records s (IndexFull d rs) a fails = tt
tested-records s (IndexMore d rs) a fails = tt
tested-records s (Forget d) a fails = tt
tested-records s (BeginPull n) a fails = tt
tested-records s (EnterCommit t) a fails = tt
tested-records s (Finish t assembled) a fails = tt
tested-records s (GiveUp t) a fails = tt
tested-records s (Abort t) a fails = tt

recording : (s : FolderState) (c : Change) → Recording s c (step s c)
recording s = step-cases s (Recording s) (record {
  tested = tested-records s;
  found = λ n expected f moment _ k is. (ap number_of (sym is), puts s n (found_now s n f moment) (found-name s n (next_version s n moment) f f.content));
  gone = λ n expected moment r there _ k q is also.
      let same : r ≡ q = ap (λ o. unwrap_or o r) (sym there ∙ also) in
      (ap number_of (sym is), λ name. subst (λ x. Puts s n (gone_now s n x moment) (with_local s (gone_now s n r moment))) same (puts s n (gone_now s n r moment) (ap (λ (f : FileRecord). f.name) same ∙ name)));
  full = λ d rs. tt;
  more = λ d rs. tt;
  forgotten = λ d. tt;
  begun = λ n b _ _. tt;
  entered = λ t p _ _. tt;
  finished = λ t assembled p _. tt;
  given_up = λ t p _. tt;
  aborted = λ t p _. tt;
})

pub found-number : (s : FolderState) (n : Name) (expected : Option Vector) (f : Finding) (moment k : ℕ) → (step s (ScanFound n expected f moment)).0 ≡ Recorded k → k ≡ s.last + 1
found-number s n expected f moment k is = (recording s (ScanFound n expected f moment) k is).0

pub found-here : (s : FolderState) (n : Name) (expected : Option Vector) (f : Finding) (moment k : ℕ) → (step s (ScanFound n expected f moment)).0 ≡ Recorded k
    → local (step s (ScanFound n expected f moment)).1 n ≡ Some (numbered s (found_now s n f moment))
found-here s n expected f moment k is = (recording s (ScanFound n expected f moment) k is).1.here

pub found-elsewhere : (s : FolderState) (n : Name) (expected : Option Vector) (f : Finding) (moment k : ℕ) (m : Name) → (step s (ScanFound n expected f moment)).0 ≡ Recorded k
    → m ≢ n → local (step s (ScanFound n expected f moment)).1 m ≡ local s m
found-elsewhere s n expected f moment k m is other = (recording s (ScanFound n expected f moment) k is).1.elsewhere m other

module _ (s : FolderState) (n : Name) (expected : Option Vector) (moment k : ℕ) (r : FileRecord) where
  pub gone-number : (step s (ScanGone n expected moment)).0 ≡ Recorded k → local s n ≡ Some r → k ≡ s.last + 1
  gone-number is there = (recording s (ScanGone n expected moment) k r is there).0

  pub gone-here : IsFolder s → (step s (ScanGone n expected moment)).0 ≡ Recorded k → local s n ≡ Some r
      → local (step s (ScanGone n expected moment)).1 n ≡ Some (numbered s (gone_now s n r moment))
  gone-here folder is there = ((recording s (ScanGone n expected moment) k r is there).1 (folder.named (key n s.me) r there)).here

  pub gone-elsewhere : (m : Name) → IsFolder s → (step s (ScanGone n expected moment)).0 ≡ Recorded k → local s n ≡ Some r
      → m ≢ n → local (step s (ScanGone n expected moment)).1 m ≡ local s m
  gone-elsewhere m folder is there other = ((recording s (ScanGone n expected moment) k r is there).1 (folder.named (key n s.me) r there)).elsewhere m other

-- ---- written out

pub file-recorded : (s : FolderState) (n : Name) (expected : Option Vector) (f : Finding) (size block_size : ℕ) (blocks : List Block) (moment k : ℕ)
    → f.content ≡ FoundFile size block_size blocks → (step s (ScanFound n expected f moment)).0 ≡ Recorded k
    → local (step s (ScanFound n expected f moment)).1 n ≡ Some (numbered s (found_now s n (record f { content = FoundFile size block_size blocks }) moment))
file-recorded s n expected f size block_size blocks moment k found is =
    found-here s n expected f moment k is ∙ ap (λ c. Some (numbered s (found_now s n (record f { content = c }) moment))) found

pub directory-recorded : (s : FolderState) (n : Name) (expected : Option Vector) (f : Finding) (moment k : ℕ)
    → f.content ≡ FoundDirectory → (step s (ScanFound n expected f moment)).0 ≡ Recorded k
    → local (step s (ScanFound n expected f moment)).1 n ≡ Some (numbered s (found_now s n (record f { content = FoundDirectory }) moment))
directory-recorded s n expected f moment k found is =
    found-here s n expected f moment k is ∙ ap (λ c. Some (numbered s (found_now s n (record f { content = c }) moment))) found

pub gone-recorded : (s : FolderState) (n : Name) (expected : Option Vector) (moment k : ℕ) (r : FileRecord)
    → IsFolder s → local s n ≡ Some r → (step s (ScanGone n expected moment)).0 ≡ Recorded k
    → local (step s (ScanGone n expected moment)).1 n ≡ Some (numbered s (gone_record s r (raised r.version (short_id s.me) moment) moment))
gone-recorded s n expected moment k r folder there is =
    gone-here s n expected moment k r folder is there
    ∙ ap (λ o. Some (numbered s (gone_record s r (raised (unwrap_or (option_map (λ q. q.version) o) []) (short_id s.me) moment) moment))) there

-- ---- commits

committing : (st : PullStage) → same_stage st Committing ≡ true → st ≡ Committing
committing Pulling e = absurd (true≢false (sym e))
committing Committing e = refl

-- what a finish leaves, by the open pull
pub record Finishes (s : FolderState) (c : PullInfo) (k : ℕ) (t : FolderState) : Type 0 where
  pub pull : Pull
  pub open_pull : get s.pulls c.name ≡ Some pull
  pub stage : pull.stage ≡ Committing
  pub number : pull.number ≡ c.number
  pub target : pull.target ≡ c.target
  pub valid : IsTrue (is_valid c.target)
  pub unmoved : local_version s c.name ≡ pull.base
  pub given : k ≡ s.last + 1
  pub here : local t c.name ≡ Some (record c.target { version = merge (unwrap_or pull.base []) c.target.version; sequence = k })
  pub elsewhere : (m : Name) → m ≢ c.name → local t m ≡ local s m
  pub closed : get t.pulls c.name ≡ None

abbrev Finished : FolderState → Change → Answer × FolderState → Type 0
Finished s (Finish c assembled) d = (k : ℕ) → IsFolder s → d.0 ≡ Done k → Finishes s c k d.1
Finished s _ d = ⊤

finishes : (s : FolderState) (c : PullInfo) (p : Pull) (k : ℕ) → IsFolder s → (get s.pulls c.name ≡ Some p) → p.stage ≡ Committing → p.number ≡ c.number → p.target ≡ c.target → k ≡ s.last + 1
    → Finishes s c k (without_pull (with_local s (committed_record p.base p.target)) c.name)
finishes s c p k folder is stage number target given = record {
  pull = p;
  open_pull = is;
  stage = stage;
  number = number;
  target = target;
  valid = ap is_valid (sym target) ∙ (folder.targets c.name p is).1;
  unmoved = folder.unmoved c.name p is stage;
  given = given;
  here = local-here s (committed_record p.base p.target) c.name name
      ∙ (λ i. Some (record (target i) { version = merge (unwrap_or p.base []) (target i).version; sequence = sym given i }));
  elsewhere = λ m other. local-elsewhere s (committed_record p.base p.target) c.name m name other;
  closed = remove_here bytes_total exact_names s.pulls c.name;
}
  where
    name : p.target.name ≡ c.name
    name = (folder.targets c.name p is).0

finish-cases : (s : FolderState) (c : PullInfo) (assembled : FileRecord) → Finished s (Finish c assembled) (step s (Finish c assembled))
finish-cases s c assembled = step-cases s (Finished s) (record {
  tested = none;
  found = λ n expected f moment _. tt;
  gone = λ n expected moment r _ _. tt;
  full = λ d rs. tt;
  more = λ d rs. tt;
  forgotten = λ d. tt;
  begun = λ n b _ _. tt;
  entered = λ t p _ _. tt;
  finished = λ t assembled p found k folder is.
      let is_open = pull_of-is s t Committing p found in
      let fit = and_parts _ _ (pull_of-fits s t Committing p found) in
      let same = and_parts _ _ fit.0 in
      finishes s t p k folder is_open.0 (committing p.stage is_open.1) (eqb-true p.number t.number same.0)
      (same_record-is p.target t.target same.1) (ap number_of (sym is));
  given_up = λ t p _. tt;
  aborted = λ t p _. tt;
}) (Finish c assembled)
  where
    none : (x : Change) (a : Answer) → is_accepted a ≡ false → Finished s x (a, s)
    none (Finish t r) a fails = λ k folder is. absurd (true≢false (ap is_accepted (sym is) ∙ fails))
    none (ScanFound n expected f moment) a fails = tt
    none (ScanGone n expected moment) a fails = tt
    none (IndexFull d rs) a fails = tt
    none (IndexMore d rs) a fails = tt
    none (Forget d) a fails = tt
    none (BeginPull n) a fails = tt
    none (EnterCommit t) a fails = tt
    none (GiveUp t) a fails = tt
    none (Abort t) a fails = tt

pub finish-recorded : (s : FolderState) (c : PullInfo) (assembled : FileRecord) (k : ℕ) → IsFolder s → (step s (Finish c assembled)).0 ≡ Done k → Finishes s c k (step s (Finish c assembled)).1
finish-recorded s c assembled = finish-cases s c assembled
