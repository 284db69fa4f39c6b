-- The records of pages, and those that are read again as they were.
use Rattle.std.proofs.Common.{◌≡◌, List, [], ◌∷◌, ◌++◌, sym, ap, subst, ◌∙◌, append-nil}
use Rattle.std.specs.Prelude.{map}
use Rattle.std.specs.List.{AllByRecursion}
use Rattle.std.proofs.lemmas.Grind.{flat_map-append}
use Rattle.index_sender.specs.Pages.{records_of}
use Rattle.index_sender.specs.declared.page.Page.{Page}
use Rattle.node_saver.specs.Saving.{IsReadAgain, records_in}
use Rattle.sync_record.specs.Infos.{info_of, record_of}
use Rattle.sync_record.specs.Records.{FileRecord}

pub push-all : {A : Type 0} (P : A → Type 0) (xs ys : List A) → AllByRecursion P xs → AllByRecursion P ys → AllByRecursion P (xs ++ ys)
push-all P [] ys front rest = rest
push-all P (x ∷ xs) ys front rest = (front.0, push-all P xs ys front.1 rest)

pub records-push : (pages : List Page) (page : Page) → records_in (pages ++ page ∷ []) ≡ records_in pages ++ records_of page
records-push pages page = flat_map-append records_of pages (page ∷ []) ∙ ap (λ l. records_in pages ++ l) (append-nil (records_of page))

-- with the records of one more page
pub again-push : (pages : List Page) (page : Page) → AllByRecursion IsReadAgain (records_in pages) → AllByRecursion IsReadAgain (records_of page)
    → AllByRecursion IsReadAgain (records_in (pages ++ page ∷ []))
again-push pages page front rest = subst (AllByRecursion IsReadAgain) (sym (records-push pages page)) (push-all IsReadAgain (records_in pages) (records_of page) front rest)

-- what is read again as a whole is so record by record
pub read-again : (rs : List FileRecord) → map record_of (map info_of rs) ≡ rs → AllByRecursion IsReadAgain rs
read-again [] e = tt
read-again (r ∷ rs) e = (cc, read-again rs cc)
