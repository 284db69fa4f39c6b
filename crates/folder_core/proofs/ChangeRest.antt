-- What a change leaves as it is.
use Rattle.std.proofs.Common.{◌≡◌, ◌≢◌, ℕ, true, false, List, refl, sym, ap, ◌∙◌, ◌⊎◌, inl, inr}
use Rattle.std.specs.Prelude.{bytes_eq, Option}
use Rattle.std.specs.FinMap.{get}
use Rattle.std.proofs.lemmas.Bool.{cases_Bool, true≢false}
use Rattle.std.proofs.lemmas.Slice.Eq.{bytes_eq-Decides}
use Rattle.sync_record.specs.Devices.{Identity}
use Rattle.sync_record.specs.Records.{Name, FileRecord}
use Rattle.folder_core.specs.declared.pull_stage.PullStage.TheVariants.{Committing}
use Rattle.folder_core.specs.Announced.{Key, key}
use Rattle.sync_version.specs.Versions.{Vector}
use Rattle.folder_core.specs.States.{FolderState, local, IsFolder}
use Rattle.folder_core.specs.declared.change.Change.{Change}
use Rattle.folder_core.specs.declared.change.Change.TheVariants.{ScanFound, ScanGone, IndexFull, IndexMore, Forget, BeginPull, EnterCommit, Finish, GiveUp, Abort}
use Rattle.folder_core.specs.declared.finding.Finding.{Finding}
use Rattle.folder_core.specs.declared.pull_info.PullInfo.{PullInfo}
use Rattle.folder_core.specs.Steps.{MayChange, next_version, step, with_local, committed_record}
use Rattle.folder_core.proofs.Orders.{keys_total, exact_keys, bytes_total, exact_names}
use Rattle.folder_core.proofs.AnnouncedMaps.{insert_other, remove_other}
use Rattle.folder_core.proofs.PullOpen.{pull_of-is}
use Rattle.folder_core.proofs.AnnouncedIndexes.{get-announce, get-without_other, get-index_other}
use Rattle.folder_core.proofs.ChangeFolders.{found-name}
use Rattle.folder_core.proofs.ScanRecords.{numbered, local-elsewhere}
use Rattle.folder_core.proofs.ChangeCases.{step-cases, found_now, gone_now}

pub step-me : (s : FolderState) (c : Change) → (step s c).1.me ≡ s.me
step-me s = step-cases s (λ _ d. d.1.me ≡ s.me) (record {
  tested = λ _ a _. refl;
  found = λ n expected f moment _. refl;
  gone = λ n expected moment r _ _. refl;
  full = λ d rs. refl;
  more = λ d rs. refl;
  forgotten = λ d. refl;
  begun = λ n b _ _. refl;
  entered = λ t p _ _. refl;
  finished = λ t assembled p _. refl;
  given_up = λ t p _. refl;
  aborted = λ t p _. refl;
})

-- the change is an index of the device, or forgets it
abbrev pub Announces : Change → Identity → Type 0
Announces c d = ((rs : List FileRecord) × (c ≡ IndexFull d rs)) ⊎ (((rs : List FileRecord) × (c ≡ IndexMore d rs)) ⊎ (c ≡ Forget d))

-- two byte strings are one, or apart
pub same_or_not : {P : Type 0} (x y : List ℕ) → (x ≡ y → P) → (x ≢ y → P) → P
same_or_not {P} x y f g = by (cases_Bool (bytes_eq x y))
  where
    by : (bytes_eq x y ≡ true) ⊎ (bytes_eq x y ≡ false) → P
    by (inl t) = f ((bytes_eq-Decides x y).0 t)
    by (inr t) = g (λ s. true≢false (sym ((bytes_eq-Decides x y).1 s) ∙ t))

-- records of other devices change by their indexes alone
pub step-devices : (s : FolderState) (c : Change) (n : Name) (d : Identity) → d ≢ s.me
    → (get (step s c).1.announced (key n d) ≡ get s.announced (key n d)) ⊎ Announces c d
step-devices s = step-cases s (λ x o. (n : Name) (d : Identity) → d ≢ s.me → (get o.1.announced (key n d) ≡ get s.announced (key n d)) ⊎ Announces x d) (record {
  tested = λ _ a _ n d _. inl refl;
  found = λ m expected f moment _ n d other. inl (local-only (found_now s m f moment) n d other);
  gone = λ m expected moment r _ _ n d other. inl (local-only (gone_now s m r moment) n d other);
  full = λ e rs n d _. same_or_not e d (λ same. inr (inl (rs, ap (λ x. IndexFull x rs) same))) (λ apart. inl (get-index_other e rs s.announced d n apart));
  more = λ e rs n d _. same_or_not e d (λ same. inr (inr (inl (rs, ap (λ x. IndexMore x rs) same)))) (λ apart. inl (get-announce e rs s.announced d n apart));
  forgotten = λ e n d _. same_or_not e d (λ same. inr (inr (inr (ap Forget same)))) (λ apart. inl (get-without_other e s.announced d n apart));
  begun = λ m b _ _ n d _. inl refl;
  entered = λ t p _ _ n d _. inl refl;
  finished = λ t assembled p _ n d other. inl (local-only (committed_record p.base p.target) n d other);
  given_up = λ t p _ n d _. inl refl;
  aborted = λ t p _ n d _. inl refl;
})
  where
    local-only : (r : FileRecord) (n : Name) (d : Identity) → d ≢ s.me → get (with_local s r).announced (key n d) ≡ get s.announced (key n d)
    local-only r n d other = insert_other keys_total exact_keys s.announced (key r.name s.me) (key n d) (numbered s r) (λ t. other (ap (λ (k : Key). k.device) t))

-- the change is of a pull of the name
abbrev pub PullsAt : Change → Name → Type 0
PullsAt c n =
    (c ≡ BeginPull n)
    ⊎ ((t : PullInfo) × (t.name ≡ n) × ((c ≡ EnterCommit t) ⊎ (((r : FileRecord) × (c ≡ Finish t r)) ⊎ ((c ≡ GiveUp t) ⊎ (c ≡ Abort t)))))

-- and pulls by theirs
pub step-pulls : (s : FolderState) (c : Change) (n : Name) → (get (step s c).1.pulls n ≡ get s.pulls n) ⊎ PullsAt c n
step-pulls s = step-cases s (λ x o. (n : Name) → (get o.1.pulls n ≡ get s.pulls n) ⊎ PullsAt x n) (record {
  tested = λ _ a _ n. inl refl;
  found = λ m expected f moment _ n. inl refl;
  gone = λ m expected moment r _ _ n. inl refl;
  full = λ e rs n. inl refl;
  more = λ e rs n. inl refl;
  forgotten = λ e n. inl refl;
  begun = λ m b _ _ n. same_or_not m n (λ same. inr (inl (ap BeginPull same)))
      (λ apart. inl (insert_other bytes_total exact_names s.pulls m n _ (λ t. apart (sym t))));
  entered = λ t p _ _ n. same_or_not t.name n (λ same. inr (inr (t, same, inl refl)))
      (λ apart. inl (insert_other bytes_total exact_names s.pulls t.name n _ (λ e. apart (sym e))));
  finished = λ t assembled p _ n. same_or_not t.name n (λ same. inr (inr (t, same, inr (inl (assembled, refl)))))
      (λ apart. inl (remove_other bytes_total exact_names s.pulls t.name n (λ e. apart (sym e))));
  given_up = λ t p _ n. same_or_not t.name n (λ same. inr (inr (t, same, inr (inr (inl refl)))))
      (λ apart. inl (remove_other bytes_total exact_names s.pulls t.name n (λ e. apart (sym e))));
  aborted = λ t p _ n. same_or_not t.name n (λ same. inr (inr (t, same, inr (inr (inr refl)))))
      (λ apart. inl (remove_other bytes_total exact_names s.pulls t.name n (λ e. apart (sym e))));
})

-- the change is of the local record of the name
abbrev pub LocalAt : Change → Name → Type 0
LocalAt c n =
    ((expected : Option Vector) × (f : Finding) × (moment : ℕ) × (c ≡ ScanFound n expected f moment))
    ⊎ (((expected : Option Vector) × (moment : ℕ) × (c ≡ ScanGone n expected moment))
    ⊎ ((t : PullInfo) × (r : FileRecord) × (t.name ≡ n) × (c ≡ Finish t r)))

-- local records change by scans and finishes of their names alone
pub step-locals : (s : FolderState) → IsFolder s → (c : Change) (n : Name) → MayChange s.me c → (local (step s c).1 n ≡ local s n) ⊎ LocalAt c n
step-locals s folder = step-cases s (λ x o. (n : Name) → MayChange s.me x → (local o.1 n ≡ local s n) ⊎ LocalAt x n) (record {
  tested = λ _ a _ n _. inl refl;
  found = λ m expected f moment _ n _. same_or_not m n (λ same. inr (inl (expected, f, moment, ap (λ x. ScanFound x expected f moment) same)))
      (λ apart. inl (local-elsewhere s (found_now s m f moment) m n (found-name s m (next_version s m moment) f f.content) (λ e. apart (sym e))));
  gone = λ m expected moment r is _ n _. same_or_not m n (λ same. inr (inr (inl (expected, moment, ap (λ x. ScanGone x expected moment) same))))
      (λ apart. inl (local-elsewhere s (gone_now s m r moment) m n (folder.named (key m s.me) r is) (λ e. apart (sym e))));
  full = λ d rs n may. inl (get-index_other d rs s.announced s.me n may);
  more = λ d rs n may. inl (get-announce d rs s.announced s.me n may);
  forgotten = λ d n may. inl (get-without_other d s.announced s.me n may);
  begun = λ m b _ _ n _. inl refl;
  entered = λ t p _ _ n _. inl refl;
  finished = λ t assembled p found n _. same_or_not t.name n (λ same. inr (inr (inr (t, assembled, same, refl))))
      (λ apart. inl (local-elsewhere s (committed_record p.base p.target) t.name n (folder.targets t.name p (pull_of-is s t Committing p found).0).0 (λ e. apart (sym e))));
  given_up = λ t p _ n _. inl refl;
  aborted = λ t p _ n _. inl refl;
})
