use Rattle.std.proofs.Common.{ap}
use Rattle.std.specs.FinMap.{entries}
use Rattle.folder_core.specs.Announced.{best, announce}
use Rattle.folder_core.proofs.AnnouncedListings.{listed_so}
use Rattle.folder_core.proofs.BestRule.{best_any_order}
use Rattle.folder_core.proofs.AnnouncedIndexes.{either_order, announce-only}
use Rattle.folder_core.proofs.laws.best.best_in_any_order.Goals as goal

pub returns-clause-listed : goal.returns-clause-listed
returns-clause-listed c = λ a es n has only. best_any_order a es (listed_so a es has only) n

pub returns-clause-announced : goal.returns-clause-announced
returns-clause-announced c = λ a d e xs ys n apart.
    ap (λ m. best (entries m) n) (either_order d e (announce d xs) (announce e ys) _ _ (announce-only d xs) (announce-only e ys) apart a)
