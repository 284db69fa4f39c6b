-- Each step on the slot of the blank token keeps its rule.
use Rattle.std.proofs.Common.{◌≡◌, ℕ, List, [], ◌∷◌, get_or, sym, refl, ◌∙◌, subst, arith, Option, Some, None, length-set, get_or-set_same}
use mathlib.Core.Logic.{dite}
use mathlib.Core.Option.{some}
use native.Mathlib.Decide.{ℕ_discrete}
use Rattle.atomic_table.specs.Table.{Me, keeps, takes, gives, Allows, Arrives}
use Rattle.atomic_table.proofs.Lists.{set_here}
use Rattle.folder_shared.specs.Blank.{Guarded, Seized}

module _ {T V : Type 0} (fits : T → Type 0) where
  pub frees : (id : ℕ) (m : Me (Option T) V) (v : V) (value : T) (more : List (ℕ × Option T)) → m ≡ (v, (0, Some value) ∷ more) → fits value
      → Allows (Guarded fits) 1 id m 0 (λ _. 0) (λ _ _. Unit {0})
  frees id m v value more e ok = subst (λ (x : Me (Option T) V). Allows (Guarded fits) 1 id x 0 (λ _. 0) (λ _ _. Unit {0})) (sym e)
      (λ s g wide me _. let long = g.0 in let zero = get_or-set_same s.words 0 0 0 (omega arith) in
      (v, gives, tt, (length-set s.words 0 0 ∙ long, (λ _. (value, set_here s.homes 0 (some (Some value)) (omega arith), ok)), (λ two. absurd (omega arith))), tt))

  pub seizes : (n : ℕ) (v : V) → Arrives (Guarded fits) n 0 (λ _. 1) (λ r m. (r ≡ 0 → Seized {V = V} fits m) × (r ≡ 2 → m.1 ≡ (0, None) ∷ []))
  seizes n v s g wide _ = let long = g.0 in let one = get_or-set_same s.words 0 1 0 (omega arith) in let kept = length-set s.words 0 1 ∙ long in
      dite (ℕ_discrete (get_or s.words 0 0) 0)
      (λ free. let t = g.1 free in (v, takes 0 (Some t.0), t.1, (kept, (λ e. absurd (omega arith)), (λ e. absurd (omega arith))), ((λ _. (t.0, refl, t.2)), (λ two. absurd (omega arith)))))
      (λ held. dite (ℕ_discrete (get_or s.words 0 0) 2)
      (λ two. (v, takes 0 None, g.2 two, (kept, (λ e. absurd (omega arith)), (λ e. absurd (omega arith))), ((λ e. absurd (held e)), (λ _. refl))))
      (λ else. (v, keeps, tt, (kept, (λ e. absurd (omega arith)), (λ e. absurd (omega arith))), ((λ e. absurd (held e)), (λ e. absurd (else e))))))
