-- Which faults lie in what is told.
use Rattle.std.proofs.Common.{◌≡◌, ◌≢◌, ℕ, ◌+◌, ◌<◌, List, ◌++◌, get_or, length, take, subst, refl, sym, ap, ◌∙◌}
use Rattle.std.specs.Prelude.{Option, map}
use Rattle.std.specs.List.{AllByRecursion}
use Rattle.bep_messages.specs.declared.file_info.FileInfo.{FileInfo}
use Rattle.folder_core.specs.States.{FolderState, IsFolder}
use Rattle.node_journal.specs.declared.part.Part.{Part}
use Rattle.node_journal.specs.declared.plan.Plan.{Plan}
use Rattle.node_state.specs.declared.state.StoredFolder.{StoredFolder}
use Rattle.sync_record.specs.Devices.{Identity}
use Rattle.sync_record.specs.Records.{FileRecord}
use Rattle.node_replay.specs.declared.fault.RecoverFault.{RecoverFault}
use Rattle.node_replay.specs.declared.fault.RecoverFault.TheVariants.{UnsafeName, BadPlan, NoIndexId, BadRecords, OutOfMemory}
use Rattle.node_replay.specs.Clear.{IsClearFrom, IsClearPart, IsClearPlan, IsClearRecord, IsNoFolder}
use Rattle.node_replay.specs.Recovered.{IsRecovered, folder_stored, number_stored}
use Rattle.node_replay.specs.Told.{lasts_told, number_after, plan_of, plans_told, records_told}
use Rattle.node_replay.specs.declared.plan.PullPlan.{PullPlan}
use Rattle.sync_record.specs.Infos.{record_of}
use Rattle.node_replay.proofs.Adding.{map-more, plans-push, records-push}
use Rattle.node_replay.proofs.All.{all-of, all-push, not-all, of-all-map}

-- out of memory is always allowed
pub no-record : (e : RecoverFault) (info : FileInfo) → e ≡ OutOfMemory → ¬ (IsClearRecord e info)
no-record e info is clear = subst (λ f. IsClearRecord f info) is clear

pub no-plan : (e : RecoverFault) (p : Plan) → e ≡ OutOfMemory → ¬ (IsClearPlan e p)
no-plan e p is clear = subst (λ f. IsClearPlan f p) is clear

-- a fault of a plan's target is one of the plan
pub of-target : (e : RecoverFault) (p : Plan) → ¬ (IsClearRecord e p.target) → ¬ (IsClearPlan e p)
of-target UnsafeName p h clear = h clear
of-target BadPlan p h clear = h tt
of-target NoIndexId p h clear = h tt
of-target BadRecords p h clear = h tt
of-target OutOfMemory p h clear = clear

module _ (me : Identity) (stored : Option StoredFolder) (parts : List Part) where
  pub no-memory : (e : RecoverFault) → e ≡ OutOfMemory → ¬ (IsClearFrom e me stored parts)
  no-memory e is clear = subst (λ f. IsClearFrom f me stored parts) is clear

  -- a fault of the parts is one of the folder
  pub of-parts : (e : RecoverFault) → ¬ (AllByRecursion (IsClearPart e) parts) → ¬ (IsClearFrom e me stored parts)
  of-parts UnsafeName h clear = h clear
  of-parts BadPlan h clear = h clear
  of-parts NoIndexId h clear = h (all-of (IsClearPart NoIndexId) (λ p. (all-of (IsClearRecord NoIndexId) (λ i. tt) p.records, all-of (IsClearPlan NoIndexId) (λ q. tt) p.plans)) parts)
  of-parts BadRecords h clear = h (all-of (IsClearPart BadRecords) (λ p. (all-of (IsClearRecord BadRecords) (λ i. tt) p.records, all-of (IsClearPlan BadRecords) (λ q. tt) p.plans)) parts)
  of-parts OutOfMemory h clear = clear

  -- and so is that there is no such folder
  pub of-folder : (e : RecoverFault) → IsNoFolder (records_told parts) (lasts_told parts) (folder_stored me stored) e → ¬ (IsClearFrom e me stored parts)
  of-folder UnsafeName h clear = h
  of-folder BadPlan h clear = h
  of-folder NoIndexId h clear = h
  of-folder BadRecords h clear = h clear.0 clear.1 clear.2
  of-folder OutOfMemory h clear = clear

  pub of-told : (told : List FileRecord) → told ≡ records_told parts → (e : RecoverFault) → IsNoFolder told (lasts_told parts) (folder_stored me stored) e → ¬ (IsClearFrom e me stored parts)
  of-told told is e h = of-folder e (subst (λ rs. IsNoFolder rs (lasts_told parts) (folder_stored me stored) e) is h)

  pub all-clear : AllByRecursion (IsClearPart UnsafeName) parts → AllByRecursion (IsClearPart BadPlan) parts → number_after (number_stored stored) parts ≢ 0
      → (t : FolderState) → IsFolder t → IsRecovered (records_told parts) (lasts_told parts) (folder_stored me stored) t
      → (e : RecoverFault) → e ≢ OutOfMemory → IsClearFrom e me stored parts
  all-clear safe pullable number t folder is UnsafeName other = safe
  all-clear safe pullable number t folder is BadPlan other = pullable
  all-clear safe pullable number t folder is NoIndexId other = number
  all-clear safe pullable number t folder is BadRecords other = (t, folder, is)
  all-clear safe pullable number t folder is OutOfMemory other = absurd (other refl)

-- a fault of what a part tells is one of all parts
module _ {R : Type 0} (part : R → Part) (ps : List R) (i : ℕ) (x : R) (lt : i < length ps) (at : x ≡ get_or ps i x) where
  pub of-records : (infos : List FileInfo) → infos ≡ (part x).records → (e : RecoverFault) → ¬ (AllByRecursion (IsClearRecord e) infos) → ¬ (AllByRecursion (IsClearPart e) (map part ps))
  of-records infos same e h all = not-all (λ p. IsClearPart e (part p)) ps i x lt at (λ clear. h (subst (AllByRecursion (IsClearRecord e)) (sym same) clear.0)) (of-all-map (IsClearPart e) part ps all)

  pub of-plans : (plans : List Plan) → plans ≡ (part x).plans → (e : RecoverFault) → ¬ (AllByRecursion (IsClearPlan e) plans) → ¬ (AllByRecursion (IsClearPart e) (map part ps))
  of-plans plans same e h all = not-all (λ p. IsClearPart e (part p)) ps i x lt at (λ clear. h (subst (AllByRecursion (IsClearPlan e)) (sym same) clear.1)) (of-all-map (IsClearPart e) part ps all)

  pub parts-safe : (infos : List FileInfo) (plans : List Plan) → infos ≡ (part x).records → plans ≡ (part x).plans
      → AllByRecursion (IsClearPart UnsafeName) (map part (take i ps)) → AllByRecursion (IsClearRecord UnsafeName) infos → AllByRecursion (IsClearPlan UnsafeName) plans
      → AllByRecursion (IsClearPart UnsafeName) (map part (take (i + 1) ps))
  parts-safe infos plans rs qs so_far safe named =
      subst (AllByRecursion (IsClearPart UnsafeName)) (sym (map-more ps i x lt at part))
      (all-push (IsClearPart UnsafeName) (map part (take i ps)) (part x) so_far (subst (AllByRecursion (IsClearRecord UnsafeName)) rs safe, subst (AllByRecursion (IsClearPlan UnsafeName)) qs named))

  pub parts-pullable : (plans : List Plan) → plans ≡ (part x).plans
      → AllByRecursion (IsClearPart BadPlan) (map part (take i ps)) → AllByRecursion (IsClearPlan BadPlan) plans
      → AllByRecursion (IsClearPart BadPlan) (map part (take (i + 1) ps))
  parts-pullable plans qs so_far pullable =
      subst (AllByRecursion (IsClearPart BadPlan)) (sym (map-more ps i x lt at part))
      (all-push (IsClearPart BadPlan) (map part (take i ps)) (part x) so_far (all-of (IsClearRecord BadPlan) (λ i. tt) (part x).records, subst (AllByRecursion (IsClearPlan BadPlan)) qs pullable))

  pub parts-records : (infos : List FileInfo) → infos ≡ (part x).records → (old : List FileRecord) → old ≡ records_told (map part (take i ps)) → old ++ map record_of infos ≡ records_told (map part (take (i + 1) ps))
  parts-records infos rs old is = (λ j. is j ++ map record_of (rs j)) ∙ sym (ap records_told (map-more ps i x lt at part) ∙ records-push (map part (take i ps)) (part x))

  pub parts-plans : (plans : List Plan) → plans ≡ (part x).plans → (old : List PullPlan) → old ≡ plans_told (map part (take i ps)) → old ++ map plan_of plans ≡ plans_told (map part (take (i + 1) ps))
  parts-plans plans qs old is = (λ j. is j ++ map plan_of (qs j)) ∙ sym (ap plans_told (map-more ps i x lt at part) ∙ plans-push (map part (take i ps)) (part x))
