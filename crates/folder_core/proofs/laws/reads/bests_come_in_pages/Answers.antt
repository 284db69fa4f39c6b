use Rattle.std.proofs.Common.{◌≡◌, ◌⊎◌, ◌≤◌, length, List, sym, subst, ◌∙◌, arith}
use Rattle.std.specs.Prelude.{map, Contains}
use Rattle.std.specs.List.Sorted.{IsStrictlySortedBy}
use Rattle.std.specs.declared.cmp.Ordering.TheVariants.{Less}
use Rattle.std.proofs.lemmas.List.{length-take}
use Rattle.sync_record.specs.Devices.{bytes_cmp}
use Rattle.folder_core.specs.Reads.{BestEntry, bests_after}
use Rattle.folder_core.proofs.BestPages.{bests_after-none, bests-page_end, bests-page_has, bests-page_of, bests-page_rises, pages-together}
use Rattle.folder_core.proofs.ReadWhole.{bests-whole, some-pages}
use Rattle.folder_core.proofs.laws.reads.bests_come_in_pages.Goals as goal

pub returns-clause-rise : goal.returns-clause-rise
returns-clause-rise c = λ s after limit page folder e.
    let cut = length-take limit (bests_after s after) in
    subst (λ (bs : List BestEntry). IsStrictlySortedBy bytes_cmp (map (λ b. b.0.name) bs) × (length bs ≤ limit)) (sym e) (bests-page_rises s folder.named after limit, omega arith)

pub returns-clause-only : goal.returns-clause-only
returns-clause-only c = λ s after limit page b folder e listed.
    bests-page_of s folder.named after limit b (subst (λ (bs : List BestEntry). Contains bs b) e listed)

pub returns-clause-all : goal.returns-clause-all
returns-clause-all c = λ s after limit page n b folder e best after_it.
    subst (λ (bs : List BestEntry). Contains bs b ⊎ ((length bs ≡ limit) × ((d : BestEntry) → Contains bs d → bytes_cmp d.0.name n ≡ Less))) (sym e)
    (bests-page_has s after n after_it folder.named limit b best)

pub returns-clause-end : goal.returns-clause-end
returns-clause-end c = λ s after limit n one e after_it. bests-page_end s after n after_it limit one e

pub returns-clause-together : goal.returns-clause-together
returns-clause-together c = λ s limit pages folder read. pages-together s folder.named limit _ pages read ∙ bests_after-none s

pub returns-clause-whole : goal.returns-clause-whole
returns-clause-whole c = λ s after limit page folder rise few.
    let cut = length-take limit (bests_after s after) in
    bests-whole s after limit page folder.named rise few (omega arith)

pub returns-clause-pages : goal.returns-clause-pages
returns-clause-pages c = λ s limit folder one. some-pages s folder.named limit one
