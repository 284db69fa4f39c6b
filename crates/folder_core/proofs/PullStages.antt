-- The open pull of a name after a change of it.
use Rattle.std.proofs.Common.{◌≡◌, false, sym, ap, ◌∙◌}
use Rattle.std.specs.Prelude.{Some, None, option_map, ⊤}
use Rattle.std.specs.FinMap.{get}
use Rattle.std.proofs.lemmas.Bool.{true≢false}
use Rattle.sync_record.specs.Records.{Name}
use Rattle.folder_core.specs.declared.pull_stage.PullStage.TheVariants.{Pulling, Committing}
use Rattle.folder_core.specs.States.{FolderState, Pull}
use Rattle.folder_core.specs.declared.answer.Answer.{Answer}
use Rattle.folder_core.specs.declared.answer.Answer.TheVariants.{Begun, Entered, Closed}
use Rattle.folder_core.specs.declared.change.Change.{Change}
use Rattle.folder_core.specs.declared.change.Change.TheVariants.{ScanFound, ScanGone, IndexFull, IndexMore, Forget, BeginPull, EnterCommit, Finish, GiveUp, Abort}
use Rattle.folder_core.specs.declared.pull_info.PullInfo.{PullInfo}
use Rattle.folder_core.specs.Steps.{is_accepted, step, next_ticket}
use Rattle.folder_core.proofs.Orders.{bytes_total, exact_names}
use Rattle.folder_core.proofs.AnnouncedMaps.{insert_here, remove_here}
use Rattle.folder_core.proofs.PullOpen.{pull_of-is}
use Rattle.folder_core.proofs.ChangeCases.{step-cases}
use Rattle.folder_core.proofs.ListTests.{inside}

-- the pull that a ticket begins
abbrev pub begun_pull : PullInfo → Pull
begun_pull t = record { number = t.number; base = option_map (λ r. r.version) t.base; target = t.target; stage = Pulling }

abbrev ticket_in : PullInfo → Answer → PullInfo
ticket_in t (Begun u) = u
ticket_in t _ = t

abbrev Opens : FolderState → Change → Answer × FolderState → Type 0
Opens s (BeginPull n) d = (t : PullInfo) → d.0 ≡ Begun t → get d.1.pulls n ≡ Some (begun_pull t)
Opens s (EnterCommit t) d = (p : Pull) → get s.pulls t.name ≡ Some p → d.0 ≡ Entered t → get d.1.pulls t.name ≡ Some (record p { stage = Committing })
Opens s (GiveUp t) d = d.0 ≡ Closed → get d.1.pulls t.name ≡ None
Opens s (Abort t) d = d.0 ≡ Closed → get d.1.pulls t.name ≡ None
Opens s _ d = ⊤

no-pull : (s : FolderState) (c : Change) (a : Answer) → is_accepted a ≡ false → Opens s c (a, s)
no-pull s (BeginPull n) a unmade = λ t is. absurd (true≢false (ap is_accepted (sym is) ∙ unmade))
no-pull s (EnterCommit t) a unmade = λ p g is. absurd (true≢false (ap is_accepted (sym is) ∙ unmade))
no-pull s (GiveUp t) a unmade = λ is. absurd (true≢false (ap is_accepted (sym is) ∙ unmade))
no-pull s (Abort t) a unmade = λ is. absurd (true≢false (ap is_accepted (sym is) ∙ unmade))
no-pull s (ScanFound n expected f moment) a unmade = tt
no-pull s (ScanGone n expected moment) a unmade = tt
no-pull s (IndexFull d rs) a unmade = tt
no-pull s (IndexMore d rs) a unmade = tt
no-pull s (Forget d) a unmade = tt
no-pull s (Finish t r) a unmade = tt

opens : (s : FolderState) (c : Change) → Opens s c (step s c)
opens s = step-cases s (Opens s) (record {
  tested = no-pull s;
  found = λ n expected f moment _. tt;
  gone = λ n expected moment r _ _. tt;
  full = λ d rs. tt;
  more = λ d rs. tt;
  forgotten = λ d. tt;
  begun = λ n b _ _ t is. insert_here bytes_total exact_names s.pulls n (begun_pull (next_ticket s n b.1)) ∙ ap (λ a. Some (begun_pull (ticket_in t a))) is;
  entered = λ t p found _ q g _.
      insert_here bytes_total exact_names s.pulls t.name (record p { stage = Committing })
      ∙ ap (λ (x : Pull). Some (record x { stage = Committing })) (inside p q (sym (pull_of-is s t Pulling p found).0 ∙ g));
  finished = λ t assembled p _. tt;
  given_up = λ t p _ _. remove_here bytes_total exact_names s.pulls t.name;
  aborted = λ t p _ _. remove_here bytes_total exact_names s.pulls t.name;
})

pub begin-opens : (s : FolderState) (n : Name) (t : PullInfo) → (step s (BeginPull n)).0 ≡ Begun t → get (step s (BeginPull n)).1.pulls n ≡ Some (begun_pull t)
begin-opens s n t is = opens s (BeginPull n) t is

pub enter-commits : (s : FolderState) (t : PullInfo) (p : Pull) → get s.pulls t.name ≡ Some p → (step s (EnterCommit t)).0 ≡ Entered t
    → get (step s (EnterCommit t)).1.pulls t.name ≡ Some (record p { stage = Committing })
enter-commits s t p g is = opens s (EnterCommit t) p g is

pub give_up-closes : (s : FolderState) (t : PullInfo) → (step s (GiveUp t)).0 ≡ Closed → get (step s (GiveUp t)).1.pulls t.name ≡ None
give_up-closes s t is = opens s (GiveUp t) is

pub abort-closes : (s : FolderState) (t : PullInfo) → (step s (Abort t)).0 ≡ Closed → get (step s (Abort t)).1.pulls t.name ≡ None
abort-closes s t is = opens s (Abort t) is
