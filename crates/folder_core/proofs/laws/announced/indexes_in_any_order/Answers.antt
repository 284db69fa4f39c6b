use Rattle.std.proofs.Common.{ap, sym}
use Rattle.folder_core.specs.Announced.{announce, without}
use Rattle.folder_core.proofs.AnnouncedIndexes.{either_order, announce-only, index-only}
use Rattle.folder_core.proofs.laws.announced.indexes_in_any_order.Goals as goal

pub returns-clause-announced : goal.returns-clause-announced
returns-clause-announced c = λ a d e xs ys apart. either_order d e (announce d xs) (announce e ys) _ _ (announce-only d xs) (announce-only e ys) apart a

pub returns-clause-full : goal.returns-clause-full
returns-clause-full c = λ s d e xs ys apart.
    ap (λ a. record s { announced = a }) (sym (either_order d e (λ a. announce d xs (without d a)) (λ a. announce e ys (without e a)) _ _ (index-only d xs) (index-only e ys) apart s.announced))

pub returns-clause-more : goal.returns-clause-more
returns-clause-more c = λ s d e xs ys apart.
    ap (λ a. record s { announced = a }) (sym (either_order d e (announce d xs) (announce e ys) _ _ (announce-only d xs) (announce-only e ys) apart s.announced))

pub returns-clause-full_and_more : goal.returns-clause-full_and_more
returns-clause-full_and_more c = λ s d e xs ys apart.
    ap (λ a. record s { announced = a }) (sym (either_order d e (λ a. announce d xs (without d a)) (announce e ys) _ _ (index-only d xs) (announce-only e ys) apart s.announced))
