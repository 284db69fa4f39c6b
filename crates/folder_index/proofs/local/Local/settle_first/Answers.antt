use Rattle.std.proofs.Common.{◌≡◌, drop, subst, sym, ap, ◌∙◌}
use Rattle.std.specs.Prelude.{Some, slice_get}
use Rattle.folder_index.specs.declared.local.Local.{Local}
use Rattle.folder_index.specs.Latest.{Waiting}
use Rattle.folder_index.specs.Locals.{AreKept, with_filed}
use Rattle.folder_index.proofs.Indexed.{first_kept, unused_first}
use Rattle.folder_index.proofs.Lately.{first_of}
use Rattle.folder_index.proofs.local.Local.settle_first.Goals as goal

pub file-requires : goal.file-requires
file-requires c =
    let l = c.args.self.now in
    let r = c.in_ok-first.first in
    let first = first_of l.latest.records r (ap Some c.in_ok-first.ensures ∙ c.in-Some.ensures.value ∙ ap (λ xs. slice_get xs 0) c.records.ensures) in
    record { unused = unused_first l c.requires.kept r (drop 1 l.latest.records) first }

pub returns-clause-kept : goal.returns-clause-kept
returns-clause-kept c =
    let l = c.args.self.now in
    let r = c.in_ok-first.first in
    let first = first_of l.latest.records r (ap Some c.in_ok-first.ensures ∙ c.in-Some.ensures.value ∙ ap (λ xs. slice_get xs 0) c.records.ensures) in
    let filed : c.file.new.self ≡ with_filed r l = c.in_ok-file.ensures.ok in
    let left : Local → Waiting = λ k. record { records = drop 1 k.latest.records; promised = k.latest.promised } in
    let latest = c.remove_first.ensures ∙ ap left filed in
    subst AreKept (sym (λ i. record { records = (filed i).records; places = (filed i).places; numbers = (filed i).numbers; latest = latest i })) (first_kept l c.requires.kept r (drop 1 l.latest.records) first)
