-- The last plan of each name, from the last one on.
use Rattle.std.proofs.Common.{◌≡◌, Bool, true, false, List, [], ◌∷◌, ◌++◌, reverse, refl, sym, ap, ◌∙◌}
use Rattle.std.specs.Prelude.{◌&&◌, ◌||◌, bytes_eq, cond, filter, not}
use Rattle.std.specs.BTreeSet.{BTreeSet, Updates, contains}
use Rattle.std.specs.List.{list_any}
use Rattle.std.proofs.lemmas.List.{reverse-append}
use Rattle.std.proofs.lemmas.Map.Text.{is_eq-slice_cmp}
use Rattle.folder_core.specs.States.{FolderState}
use Rattle.sync_record.specs.Devices.{bytes_cmp}
use Rattle.sync_record.specs.Records.{Name}
use Rattle.node_replay.specs.Open.{lasts, open_plans}
use Rattle.node_replay.specs.Settled.{is_open}
use Rattle.node_replay.specs.declared.plan.PullPlan.{PullPlan}

-- a plan of the name is among these
abbrev pub is_among : List PullPlan → Name → Bool
is_among ps n = list_any (λ (q : PullPlan). bytes_eq q.target.name n) ps

-- the set has the names of these plans
abbrev pub HasNames : BTreeSet Name → List PullPlan → Type 0
HasNames names ps = (n : Name) → contains bytes_cmp names n ≡ is_among ps n

either : (a b : Bool) → cond a true b ≡ (a || b)
either true b = refl
either false b = refl

module _ (p : PullPlan) (ps : List PullPlan) (names : BTreeSet Name) where
  pub has-more : (more : BTreeSet Name) → HasNames names ps → Updates bytes_cmp names more p.target.name true → HasNames more (p ∷ ps)
  has-more more has updates n =
      updates.0 n ∙ ap (λ b. cond b true (contains bytes_cmp names n)) (is_eq-slice_cmp p.target.name n)
      ∙ either (bytes_eq p.target.name n) (contains bytes_cmp names n) ∙ ap (λ b. bytes_eq p.target.name n || b) (has n)

module _ (s : FolderState) (p : PullPlan) (ps : List PullPlan) where
  chosen : (a b : Bool) → is_open s p ≡ b → cond (not a && b) (p ∷ []) [] ++ filter (is_open s) (lasts ps) ≡ filter (is_open s) (cond a (lasts ps) (p ∷ lasts ps))
  chosen true b e = refl
  chosen false true e = ap (λ b. cond b (p ∷ filter (is_open s) (lasts ps)) (filter (is_open s) (lasts ps))) (sym e)
  chosen false false e = ap (λ b. cond b (p ∷ filter (is_open s) (lasts ps)) (filter (is_open s) (lasts ps))) (sym e)

  single : (b : Bool) → reverse (cond b (p ∷ []) []) ≡ cond b (p ∷ []) []
  single true = refl
  single false = refl

  pub open-before : (names : BTreeSet Name) (left : List PullPlan) → HasNames names ps → reverse left ≡ open_plans s ps
      → reverse (left ++ cond (not (contains bytes_cmp names p.target.name) && is_open s p) (p ∷ []) []) ≡ open_plans s (p ∷ ps)
  open-before names left has e =
      let is_new = not (contains bytes_cmp names p.target.name) && is_open s p in
      reverse-append left (cond is_new (p ∷ []) []) ∙ ap (λ l. l ++ reverse left) (single is_new) ∙ ap (λ l. cond is_new (p ∷ []) [] ++ l) e
      ∙ ap (λ a. cond (not a && is_open s p) (p ∷ []) [] ++ open_plans s ps) (has p.target.name)
      ∙ chosen (is_among ps p.target.name) (is_open s p) refl
