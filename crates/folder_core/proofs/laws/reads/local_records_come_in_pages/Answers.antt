use Rattle.std.proofs.Common.{◌⊎◌, ◌≤◌, length, sym, subst}
use Rattle.std.specs.Prelude.{Contains, map}
use Rattle.std.specs.Ordering.{nat_cmp}
use Rattle.std.specs.List.Sorted.{IsStrictlySortedBy}
use Rattle.folder_core.proofs.ReadPages.{blocks_of, Stops, page-rises, page-fits, page-of, page-has}
use Rattle.folder_core.proofs.ReadWhole.{local-whole}
use Rattle.folder_core.proofs.laws.reads.local_records_come_in_pages.Goals as goal

pub returns-clause-rise : goal.returns-clause-rise
returns-clause-rise c = λ s after limit page folder e.
    subst (λ rs. IsStrictlySortedBy nat_cmp (map (λ r. r.sequence) rs) × (length rs ≤ limit) × ((blocks_of rs ≤ 1000000) ⊎ (length rs ≤ 1))) (sym e)
    (let f = page-fits s after limit folder.numbered in (page-rises s after limit folder.numbered, f.0, f.1))

pub returns-clause-only : goal.returns-clause-only
returns-clause-only c = λ s after limit page r folder e listed. page-of s after limit folder.numbered r (subst (λ rs. Contains rs r) e listed)

pub returns-clause-all : goal.returns-clause-all
returns-clause-all c = λ s after limit page n r folder e g above.
    subst (λ rs. Contains rs r ⊎ Stops s after limit folder.numbered rs r) (sym e) (page-has s after limit folder.numbered n r g above)

pub returns-clause-whole : goal.returns-clause-whole
returns-clause-whole c = λ s after limit page folder. local-whole s after limit folder.numbered page
