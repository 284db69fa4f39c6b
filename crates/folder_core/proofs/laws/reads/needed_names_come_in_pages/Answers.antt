use Rattle.std.proofs.Common.{◌≡◌, ◌⊎◌, ◌≤◌, length, sym, subst}
use Rattle.std.specs.Prelude.{Contains}
use Rattle.std.specs.List.Sorted.{IsStrictlySortedBy}
use Rattle.std.specs.declared.cmp.Ordering.TheVariants.{Less}
use Rattle.sync_record.specs.Devices.{bytes_cmp}
use Rattle.sync_record.specs.Records.{Name}
use Rattle.folder_core.proofs.ReadAnswers.{need-page_rises, need-page_fits, need-page_of, need-page_has}
use Rattle.folder_core.proofs.ReadWhole.{need-whole}
use Rattle.folder_core.proofs.laws.reads.needed_names_come_in_pages.Goals as goal

pub returns-clause-rise : goal.returns-clause-rise
returns-clause-rise c = λ s after limit names e.
    subst (λ ns. IsStrictlySortedBy bytes_cmp ns × (length ns ≤ limit)) (sym e) (need-page_rises s after limit, need-page_fits s after limit)

pub returns-clause-only : goal.returns-clause-only
returns-clause-only c = λ s after limit names n e listed. need-page_of s after limit n (subst (λ ns. Contains ns n) e listed)

pub returns-clause-all : goal.returns-clause-all
returns-clause-all c = λ s after limit names n e needed after_it.
    subst (λ ns. Contains ns n ⊎ ((length ns ≡ limit) × ((m : Name) → Contains ns m → bytes_cmp m n ≡ Less))) (sym e) (need-page_has s after limit n needed after_it)

pub returns-clause-whole : goal.returns-clause-whole
returns-clause-whole c = need-whole
