-- What `begin_pull` answers.
use Rattle.std.proofs.Common.{◌≡◌, Bool, true, false, [], ◌∷◌, refl, sym, ap, ◌∙◌, ◌⊎◌, inl, inr}
use Rattle.std.specs.Prelude.{not, ◌&&◌, ◌||◌, Option, Some, None, is_some, Contains}
use Rattle.std.specs.FinMap.{get, entries}
use Rattle.std.proofs.lemmas.Bool.{and_from, and_left, and_right, or_from, or_left, or_right, not_from_true, not_from_false, false_from_ne_true}
use Rattle.sync_record.specs.Records.{Name, is_live, is_file, is_directory}
use Rattle.folder_core.specs.declared.pull_stage.PullStage.TheVariants.{Pulling}
use Rattle.folder_core.specs.Announced.{KeyedRecord, best}
use Rattle.folder_core.specs.States.{FolderState, Pull, is_needed, need}
use Rattle.folder_core.specs.declared.answer.Answer.{Answer}
use Rattle.folder_core.specs.declared.answer.Answer.TheVariants.{Busy, NotNeeded, Unsupported, Begun}
use Rattle.folder_core.specs.declared.change.Change.TheVariants.{BeginPull}
use Rattle.folder_core.specs.Steps.{step, begin_pull, next_ticket, with_pull, first_answer}
use Rattle.folder_core.proofs.ListTests.{inside}
use Rattle.folder_core.proofs.ChangeCases.{holds, fails}
use Rattle.folder_core.proofs.PullNeed.{needed-listed, listed-needed}

abbrev made : FolderState → Name → KeyedRecord → Answer × FolderState
made s n b = (Begun (next_ticket s n b.1), with_pull s (next_ticket s n b.1) Pulling)

abbrev needed_test : FolderState → KeyedRecord → Bool × Answer
needed_test s b = (not (is_needed s b), NotNeeded)

abbrev kind_test : KeyedRecord → Bool × Answer
kind_test b = (is_live b.1 && not (is_file b.1 || is_directory b.1), Unsupported)

module _ (s : FolderState) (n : Name) where
  busy-by : (b : Option KeyedRecord) (p : Pull) → get s.pulls n ≡ Some p → (begin_pull s n b).0 ≡ Busy
  busy-by None p g = ap (λ (d : Answer × FolderState). d.0) (holds s (is_some (get s.pulls n), Busy) [] (NotNeeded, s) (ap is_some g))
  busy-by (Some b) p g = ap (λ (d : Answer × FolderState). d.0) (holds s (is_some (get s.pulls n), Busy) (needed_test s b ∷ kind_test b ∷ []) (made s n b) (ap is_some g))

  pub begin-busy : (p : Pull) → get s.pulls n ≡ Some p → (step s (BeginPull n)).0 ≡ Busy
  begin-busy p g = busy-by (best (entries s.announced) n) p g

  module _ (free : get s.pulls n ≡ None) where
    past-busy : (b : KeyedRecord) → begin_pull s n (Some b) ≡ first_answer s (needed_test s b ∷ kind_test b ∷ []) (made s n b)
    past-busy b = fails s (is_some (get s.pulls n), Busy) (needed_test s b ∷ kind_test b ∷ []) (made s n b) (ap is_some free)

    unneeded-by : (b : Option KeyedRecord) → best (entries s.announced) n ≡ b → ¬ (Contains (need s) n) → (begin_pull s n b).0 ≡ NotNeeded
    unneeded-by None is absent = ap (λ (d : Answer × FolderState). d.0) (fails s (is_some (get s.pulls n), Busy) [] (NotNeeded, s) (ap is_some free))
    unneeded-by (Some b) is absent =
        ap (λ (d : Answer × FolderState). d.0)
        (past-busy b ∙ holds s (needed_test s b) (kind_test b ∷ []) (made s n b)
        (not_from_false (is_needed s b) (false_from_ne_true (is_needed s b) (λ t. absent (needed-listed s n b is t)))))

    pub begin-unneeded : ¬ (Contains (need s) n) → (step s (BeginPull n)).0 ≡ NotNeeded
    begin-unneeded absent = unneeded-by (best (entries s.announced) n) refl absent

    module _ (e : KeyedRecord) (is : best (entries s.announced) n ≡ Some e) (listed : Contains (need s) n) where
      needed : is_needed s e ≡ true
      needed =
          let h = listed-needed s n listed in
          ap (is_needed s) (inside e h.0 (sym is ∙ h.1)) ∙ h.3

      past-needed : step s (BeginPull n) ≡ first_answer s (kind_test e ∷ []) (made s n e)
      past-needed = ap (begin_pull s n) is ∙ past-busy e ∙ fails s (needed_test s e) (kind_test e ∷ []) (made s n e) (not_from_true (is_needed s e) needed)

      pub begin-unsupported : e.1.deleted ≡ false → is_file e.1 ≡ false → is_directory e.1 ≡ false → (step s (BeginPull n)).0 ≡ Unsupported
      begin-unsupported live file directory =
          ap (λ (d : Answer × FolderState). d.0)
          (past-needed ∙ holds s (kind_test e) [] (made s n e)
          (and_from _ _ (not_from_false _ live) (not_from_false _ (or_from _ _ file directory))))

      pub begin-begun : (e.1.deleted ≡ true) ⊎ ((is_file e.1 ≡ true) ⊎ (is_directory e.1 ≡ true)) → step s (BeginPull n) ≡ made s n e
      begin-begun kind = past-needed ∙ fails s (kind_test e) [] (made s n e) (by kind)
        where
          by : (e.1.deleted ≡ true) ⊎ ((is_file e.1 ≡ true) ⊎ (is_directory e.1 ≡ true)) → (is_live e.1 && not (is_file e.1 || is_directory e.1)) ≡ false
          by (inl deleted) = and_left _ _ (not_from_true _ deleted)
          by (inr (inl file)) = and_right _ _ (not_from_true _ (or_left _ _ file))
          by (inr (inr directory)) = and_right _ _ (not_from_true _ (or_right _ _ directory))
