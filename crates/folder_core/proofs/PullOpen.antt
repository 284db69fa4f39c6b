-- The open pull that a ticket is for.
use Rattle.std.proofs.Common.{◌≡◌, Bool, true, false, refl, sym, ap, ◌∙◌}
use Rattle.std.specs.Prelude.{cond, if◌then◌else◌, option_and_then, ◌&&◌, ◌==◌, Option, Some, None}
use Rattle.std.specs.FinMap.{get}
use Rattle.std.proofs.lemmas.Bool.{and_parts}
use Rattle.sync_record.specs.Same.{same_record}
use Rattle.folder_core.specs.declared.pull_stage.PullStage.{PullStage}
use Rattle.folder_core.specs.States.{FolderState, Pull, same_stage}
use Rattle.folder_core.specs.declared.pull_info.PullInfo.{PullInfo}
use Rattle.folder_core.specs.Steps.{pull_of}
use Rattle.folder_core.proofs.ListTests.{inside}

-- an open pull that a ticket is for
abbrev pub fits : PullInfo → PullStage → Pull → Bool
fits t stage q = (q.number == t.number) && same_record q.target t.target && same_stage q.stage stage

pull_by : (t : PullInfo) (stage : PullStage) (p q : Pull) (b : Bool) → fits t stage q ≡ b → cond b (Some q) None ≡ Some p → (q ≡ p) × (same_stage q.stage stage ≡ true)
pull_by t stage p q true f e = (inside q p e, (and_parts _ _ f).1)
pull_by t stage p q false f e = absurd (let h : None ≡ Some p = e in cc)

pull_from : (t : PullInfo) (stage : PullStage) (p : Pull) (o : Option Pull) → option_and_then (λ q. if fits t stage q then Some q else None) o ≡ Some p → (o ≡ Some p) × (same_stage p.stage stage ≡ true)
pull_from t stage p None e = absurd (let h : None ≡ Some p = e in cc)
pull_from t stage p (Some q) e =
    let x = pull_by t stage p q (fits t stage q) refl e in
    (ap Some x.0, ap (λ (y : Pull). same_stage y.stage stage) (sym x.0) ∙ x.1)

pub pull_of-is : (s : FolderState) (t : PullInfo) (stage : PullStage) (p : Pull) → pull_of s t stage ≡ Some p → (get s.pulls t.name ≡ Some p) × (same_stage p.stage stage ≡ true)
pull_of-is s t stage p e = pull_from t stage p (get s.pulls t.name) e

fits_by : (t : PullInfo) (stage : PullStage) (p q : Pull) (b : Bool) → fits t stage q ≡ b → cond b (Some q) None ≡ Some p → fits t stage p ≡ true
fits_by t stage p q true f e = ap (fits t stage) (sym (inside q p e)) ∙ f
fits_by t stage p q false f e = absurd (let h : None ≡ Some p = e in cc)

fits_from : (t : PullInfo) (stage : PullStage) (p : Pull) (o : Option Pull) → option_and_then (λ q. if fits t stage q then Some q else None) o ≡ Some p → fits t stage p ≡ true
fits_from t stage p None e = absurd (let h : None ≡ Some p = e in cc)
fits_from t stage p (Some q) e = fits_by t stage p q (fits t stage q) refl e

pub pull_of-fits : (s : FolderState) (t : PullInfo) (stage : PullStage) (p : Pull) → pull_of s t stage ≡ Some p → fits t stage p ≡ true
pull_of-fits s t stage p e = fits_from t stage p (get s.pulls t.name) e
