-- What a pull puts in place is what was scanned.
use Rattle.std.proofs.Common.{◌≡◌, ◌≢◌, Bool, true, false, List, [], ◌∷◌, Option, Some, refl, sym, ap, subst, ◌∙◌, ◌⊎◌, inl, inr}
use Rattle.std.specs.Prelude.{IsTrue, bytes_eq, ℤ, ℕ}
use Rattle.std.specs.FinMap.{entries, get}
use Rattle.std.proofs.lemmas.Slice.Eq.{bytes_eq-Decides}
use Rattle.sync_version.specs.Versions.{Dominates}
use Rattle.sync_record.specs.Contents.{same_content}
use Rattle.sync_record.specs.Devices.{Identity}
use Rattle.sync_record.specs.Records.{FileRecord, Name}
use Rattle.sync_record.specs.Validity.{is_valid}
use Rattle.file_store.specs.Asked.{Call}
use Rattle.file_store.specs.Trees.{Tree}
use Rattle.file_store.specs.declared.node.Node.{Node}
use Rattle.folder_core.specs.Announced.{Announced, IsBest, KeyedRecord, best, key}
use Rattle.folder_core.specs.States.{FolderState, IsFolder, local}
use Rattle.folder_core.specs.Steps.{is_accepted, step}
use Rattle.folder_core.specs.declared.answer.Answer.{Answer}
use Rattle.folder_core.specs.declared.answer.Answer.TheVariants.{Begun}
use Rattle.folder_core.specs.declared.change.Change.{Change}
use Rattle.folder_core.specs.declared.change.Change.TheVariants.{BeginPull}
use Rattle.folder_core.specs.declared.pull_info.PullInfo.{PullInfo}
use Rattle.folder_calls.specs.Adds.{Adds, Asked}
use Rattle.folder_calls.specs.Shared.{CallerView, Sees, now}
use Rattle.sync_scan.specs.Scans.{GoesOn, IsScanOf}
use Rattle.sync_pull.specs.Chains.{AsksAndSees}
use Rattle.sync_pull.specs.Ends.{IsNotBegun}
use Rattle.sync_pull.specs.Pulled.{Comes, IfDone}
use Rattle.sync_pull.specs.Standing.{StandsAs}
use Rattle.sync_pull.specs.declared.answer.PullAnswer.{PullAnswer}
use Rattle.sync_pull.specs.declared.answer.PullAnswer.TheVariants.{Done, NotNeeded, Busy, Unsupported, LocalMoved, Superseded, Refused, Failed}
use Rattle.sync_pull.specs.declared.answer.PullRefusal.TheVariants.{OutOfMemory}
use Rattle.proof_layers.specs.Alike.{AreAlike}
use Rattle.proof_layers.specs.Alone.{IsAlone}
use Rattle.proof_layers.specs.Carried.{AsksToPull, Carries, PullsTarget}
use Rattle.proof_layers.specs.Told.{IsNewest, told_by}
use Rattle.proof_layers.proofs.AloneLemmas.{AnswerLaws, alone-back, alone-front, goes-adds, goes-gets, goes-on, goes-sees, made-alone, still-now}

-- ---- a scan, and a pull

-- a caller that scans sees the history go on
pub scan-goes : (old new : CallerView) (n : Name) (moment : ℕ)
    → Adds old [] new ⊎ ((c : Change) × (a : Answer) × IsScanOf n moment c × (is_accepted a ≡ true) × Adds old ((c, a) ∷ []) new) → GoesOn old new
scan-goes old new n moment (inl adds) = goes-adds old new [] adds
scan-goes old new n moment (inr x) = goes-adds old new ((x.0, x.1) ∷ []) x.4

pub pull-goes : AnswerLaws → (asked : List Asked) (old new : CallerView) → AsksAndSees old asked new → GoesOn old new
pull-goes laws [] old new sees = goes-sees old new sees
pull-goes laws (m ∷ ms) old new x =
    goes-on old x.0 new (goes-sees old x.0 x.2)
    (goes-on x.0 x.1 new (goes-gets laws x.0 x.1 m.0 m.1 x.3) (pull-goes laws ms x.1 new x.4))

not-done : (old : CallerView) (n : Name) (k : ℕ) (new : CallerView) → IsNotBegun old n (Done k) new → ⊥
not-done old n k new (inl x) = x.1
not-done old n k new (inr x) = never x.0
  where
    never : Done k ≡ Refused OutOfMemory → ⊥
    never e = cc

-- a pull that is done was begun
pub pulled : AnswerLaws → (most : ℤ) (moment : ℕ) (n : Name) (keeps counted : Type 0) (sourceless : FileRecord → CallerView → Type 0) (dropped : Type 0) (refused : Tree → Call → Type 0) (result : PullAnswer)
    (old : CallerView) (before : Tree) (new : CallerView) (after : Tree)
    → Comes most moment n keeps counted sourceless dropped refused result old before new after → keeps → IfDone result (PullsTarget old n (after.names n) new)
pulled laws most moment n keeps counted sourceless dropped refused (Done k) old before new after (inl x) kept = absurd (not-done old n k new x.0)
pulled laws most moment n keeps counted sourceless dropped refused (Done k) old before new after (inr x) kept = record {
  ticket = x.0;
  next = x.1;
  begun = x.2;
  since = pull-goes laws x.3.ends.0 x.1 new x.3.ends.2;
  stands = (x.3.done kept).there;
}
pulled laws most moment n keeps counted sourceless dropped refused NotNeeded old before new after x kept = tt
pulled laws most moment n keeps counted sourceless dropped refused Busy old before new after x kept = tt
pulled laws most moment n keeps counted sourceless dropped refused Unsupported old before new after x kept = tt
pulled laws most moment n keeps counted sourceless dropped refused LocalMoved old before new after x kept = tt
pulled laws most moment n keeps counted sourceless dropped refused Superseded old before new after x kept = tt
pulled laws most moment n keeps counted sourceless dropped refused (Refused r) old before new after x kept = tt
pulled laws most moment n keeps counted sourceless dropped refused (Failed f) old before new after x kept = tt

-- whatever it came to, the folder was asked for it
pub asks-to-pull : (most : ℤ) (moment : ℕ) (n : Name) (keeps counted : Type 0) (sourceless : FileRecord → CallerView → Type 0) (dropped : Type 0) (refused : Tree → Call → Type 0) (result : PullAnswer)
    (old : CallerView) (before : Tree) (new : CallerView) (after : Tree)
    → Comes most moment n keeps counted sourceless dropped refused result old before new after → AsksToPull old n result new
asks-to-pull most moment n keeps counted sourceless dropped refused result old before new after (inl x) = inl x.0
asks-to-pull most moment n keeps counted sourceless dropped refused result old before new after (inr x) = inr (x.0, x.1, x.2, x.3.ends)

-- ---- the target of the pull

pub record BestLaws : Type 0 where
  pub begun : (s : FolderState) (n : Name) (t : PullInfo) → (step s (BeginPull n)).0 ≡ Begun t
      → (e : KeyedRecord) × (best (entries s.announced) n ≡ Some e) × (t.target ≡ e.1)
  pub found : (a : Announced) (n : Name) (e : KeyedRecord) → best (entries a) n ≡ Some e → (e.0.name ≡ n) × IsBest a n e.0.device e.1
  pub undominated : (a : Announced) (n : Name) (e : KeyedRecord) (d : Identity) (r : FileRecord) → best (entries a) n ≡ Some e
      → get a (key n d) ≡ Some r → IsTrue (is_valid r) → Dominates r.version e.1.version → ⊥

-- of a name of which a device has the newest record, that is the best
best-mine : BestLaws → (s before : FolderState) (me : Identity) (n : Name) (mine : Option FileRecord) → IsNewest before me n mine → told_by me s n ≡ mine
    → ((e : Identity) → me ≢ e → told_by e s n ≡ told_by e before n) → ((r : FileRecord) → mine ≡ Some r → IsTrue (is_valid r))
    → (e : KeyedRecord) → best (entries s.announced) n ≡ Some e → mine ≡ Some e.1
best-mine laws s before me n mine newest told kept valid e is = by (bytes_eq me e.0.device) refl
  where
    b : (e.0.name ≡ n) × IsBest s.announced n e.0.device e.1
    b = laws.found s.announced n e is

    decides : (x y : List ℕ) → (bytes_eq x y ≡ true → x ≡ y) × (x ≡ y → bytes_eq x y ≡ true)
    decides x y = bytes_eq-Decides x y

    by : (t : Bool) → bytes_eq me e.0.device ≡ t → mine ≡ Some e.1
    by true t = sym told ∙ ap (λ d. told_by d s n) ((decides me e.0.device).0 t) ∙ b.1.candidate.announced
    by false t =
        let apart : me ≢ e.0.device = λ same. other (sym t ∙ (decides me e.0.device).1 same) in
        let x = newest e.0.device e.1 apart (sym (kept e.0.device apart) ∙ b.1.candidate.announced) b.1.candidate.valid in
        absurd (laws.undominated s.announced n e me x.0 is (told ∙ x.1) (valid x.0 x.1) x.2)
      where
        other : false ≡ true → ⊥
        other x = cc

-- ---- the whole

module _ (answers : AnswerLaws) (laws : BestLaws) (alike : (r q : FileRecord) (one other : Option Node) → StandsAs (Some r) one → StandsAs (Some q) other
    → IsTrue (same_content r q) → AreAlike one other)
    (itself : (r : FileRecord) → IsTrue (same_content r r)) (me : Identity) (n : Name) (one scanned sent other mid done : CallerView) (here there : Option Node)
    (folder : IsFolder (now sent)) (goes : GoesOn one scanned) (stands : StandsAs (local (now scanned) n) here) (sees : Sees scanned sent)
    (heard : GoesOn other mid) (told : IsAlone other mid → told_by me (now mid) n ≡ local (now sent) n)
    (kept : IsAlone other mid → (e : Identity) → me ≢ e → told_by e (now mid) n ≡ told_by e (now other) n)
    (pulls : PullsTarget mid n there done) where
  rest : GoesOn mid done
  rest = goes-on mid pulls.next done (goes-gets answers mid pulls.next (BeginPull n) (Begun pulls.ticket) pulls.begun) pulls.since

  pub carries : Carries me n one sent other done here there
  carries alone apart newest =
      let first = goes-gets answers mid pulls.next (BeginPull n) (Begun pulls.ticket) pulls.begun in
      let heard-alone = alone-front other mid done heard rest apart in
      let made = made-alone answers mid pulls.next (BeginPull n) (Begun pulls.ticket) pulls.begun refl
      (alone-front mid pulls.next done first pulls.since (alone-back other mid done heard rest apart)) in
      let b = laws.begun (now mid) n pulls.ticket made.answer in
      let mine = best-mine laws (now mid) (now other) me n (local (now sent) n) newest (told heard-alone) (kept heard-alone) (λ r is. folder.valid n r is) b.0 b.1 in
      let same : local (now scanned) n ≡ Some b.0.1 =
      ap (λ s. local s n) (sym (still-now scanned sent sees (alone-back one scanned sent goes (goes-sees scanned sent sees) alone))) ∙ mine in
      alike b.0.1 b.0.1 here there (subst (λ o. StandsAs o here) same stands) (subst (λ r. StandsAs (Some r) there) b.2 pulls.stands) (itself b.0.1)

pub if_done_then : {P Q : Type 0} (result : PullAnswer) → (P → Q) → IfDone result P → IfDone result Q
if_done_then (Done k) f p = f p
if_done_then NotNeeded f p = tt
if_done_then Busy f p = tt
if_done_then Unsupported f p = tt
if_done_then LocalMoved f p = tt
if_done_then Superseded f p = tt
if_done_then (Refused r) f p = tt
if_done_then (Failed f) g p = tt
