use Rattle.std.proofs.Common.{◌≡◌, ◌<◌, ℕ, ◌∷◌, [], ℤ, List, length, refl, sym, ap, subst, ◌∙◌, rules}
use Rattle.bep_session.specs.Ids.{bit, ids_of}
use Rattle.bep_session.proofs.LowIds.{Above, none-ids_of}
use Rattle.bep_session.proofs.ids.OpenIds.new.Goals as goal

abbrev zeros : List ℕ
zeros = 0 ∷ 0 ∷ 0 ∷ 0 ∷ 0 ∷ 0 ∷ 0 ∷ 0 ∷ 0 ∷ 0 ∷ 0 ∷ 0 ∷ 0 ∷ 0 ∷ 0 ∷ 0 ∷ []

no_bit : (i : ℕ) → i < 1024 → bit zeros i ≡ 0
no_bit i lt = search rules

nothing : (above : List ℤ) → above ≡ [] → ids_of zeros above ≡ []
nothing above e = ap (ids_of zeros) e ∙ none-ids_of zeros no_bit

pub invariant_of-result : goal.invariant_of-result
invariant_of-result c = (subst (Above 1024) (sym c.new.ensures.empty) tt, ap (λ (l : List ℤ). length l) (sym (nothing c.new.result.keys c.new.ensures.empty)))

pub returns : goal.returns
returns c = nothing c.new.result.keys c.new.ensures.empty
