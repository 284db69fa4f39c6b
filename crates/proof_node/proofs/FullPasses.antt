-- What the rule of the lock says of a folder that has no pass left.
use Rattle.std.proofs.Common.{◌≡◌, ◌≢◌, ◌∙◌, ◌≤◌, ℕ, zero, suc, List, [], ◌∷◌, inl, inr, sym, ap}
use mathlib.Core.Option.{none, some}
use lib.ListN.{get_elem?}
use Rattle.folder_calls.specs.declared.history.History.{History}
use Rattle.folder_shared.specs.Rule.{IsSame, RuleHolds, Runs, newcomer}
use Rattle.folder_shared.specs.declared.known.Known.{Known}
use Rattle.folder_shared.specs.declared.known.TokenState.TheVariants.{Idle, New, Spent}

alone : (v w : Known) (port : ℕ) → get_elem? (v ∷ []) port ≡ some w → v ≡ w
alone v w zero e = let f : some v ≡ some w = e in cc
alone v w (suc port) e = absurd (let f : none ≡ some w = e in cc)

module _ (items : List History) (views : List Known) (port : ℕ) (v : Known) (at : get_elem? views port ≡ some v) (idle : v.state ≡ Idle) where
  -- an idle token is not the new one
  pub idle-runs : RuleHolds items views → Runs items views
  idle-runs (inl h) =
      let same : newcomer ≡ v = alone newcomer v port (ap (λ (vs : List Known). get_elem? vs port) (sym h.1) ∙ at) in
      let new : New ≡ Idle = ap (λ (x : Known). x.state) same ∙ idle in
      absurd (cc)
  idle-runs (inr r) = r

  not-spent : v.state ≢ Spent
  not-spent spent = let both : Idle ≡ Spent = sym idle ∙ spent in cc

  pub passes-given : (r : Runs items views) → v.memo.passes ≤ r.now.passes
  passes-given r = (r.all port v at).grown not-spent

  pub same-folder : (r : Runs items views) → IsSame v.memo r.now
  same-folder r = (r.all port v at).same not-spent
