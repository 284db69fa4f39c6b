use Rattle.std.proofs.Common.{◌≡◌, Some, ⊎_elim, subst}
use Rattle.std.proofs.lemmas.Map.Keys.{Less-from_sorted}
use Rattle.folder_core.specs.States.{local}
use Rattle.folder_calls.specs.Shared.{CallerView, now}
use Rattle.sync_scan.proofs.MissingLemmas.{order, sees-both}
use Rattle.sync_scan.proofs.laws.missing_names_are_not_listed.Goals as goal

pub returns-clause-order : goal.returns-clause-order
returns-clause-order c old point listed names missing i j none lt within = Less-from_sorted order names i j none missing.order lt within

pub returns-clause-exactly : goal.returns-clause-exactly
returns-clause-exactly c point listed names missing n = (
  λ has.
      let had = missing.had n has in
      (missing.apart n has, (had.1, subst (λ (v : CallerView). local (now v) n ≡ Some had.1) (sees-both point had.0 had.2 had.3) had.4, had.5)),
  λ is. ⊎_elim (λ listed. absurd (is.0 listed)) (λ has. has) (missing.all n is.1.0 is.1.1 is.1.2),
)
