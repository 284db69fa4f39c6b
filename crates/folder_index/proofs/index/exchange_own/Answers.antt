use Rattle.std.proofs.Common.{subst, sym, ap, ◌∙◌}
use Rattle.std.specs.FinMap.{contains_key}
use Rattle.sync_record.specs.Records.{FileRecord}
use Rattle.folder_index.specs.Digests.{HasNone}
use Rattle.folder_index.specs.Indexes.{with_record}
use Rattle.folder_index.specs.Locals.{with_exchanged, with_prepared, without_prepared}
use Rattle.folder_index.specs.Numbers.{other_number_of}
use Rattle.folder_index.proofs.Indexed.{index_exchanged, index_unprepared, is_prepared, low_there, settled_moved, unprepared}
use Rattle.folder_index.proofs.Results.{of_err, of_ok}
use Rattle.folder_index.proofs.index.exchange_own.Goals as goal

pub prepare-requires : goal.prepare-requires
prepare-requires c =
    let s = c.args.names.now in
    let l = c.args.local.now in
    let r = c.args.announced in
    let low = low_there s l.records c.requires.index.locals r.name r.sequence c.requires.replaced in
    subst (λ (x : FileRecord). HasNone (other_number_of l.numbers x.sequence) l.places) (sym c.in_ok-copied.ensures) (unprepared s l c.requires.index r low c.requires.free)

pub returns-then-is_err-clause-index : goal.returns-then-is_err-clause-index
returns-then-is_err-clause-index c =
    let s = c.args.names.now in
    let l = c.args.local.now in
    let r = c.args.announced in
    let low = low_there s l.records c.requires.index.locals r.name r.sequence c.requires.replaced in
    let same = c.in_ok-copied.ensures in
    let prepared = c.in_ok-prepare.ensures.ok ∙ ap (λ x. with_prepared x l) same in
    let names = of_err c.set.result (sym c.is_err.ensures.value ∙ c.if-is_err.true) c.set.ensures.err in
    settled_moved (sym names) (sym (c.unprepare.ensures ∙ (λ i. without_prepared (same i) (prepared i)))) (index_unprepared s l c.requires.index r low c.requires.free)

pub exchange-requires-clause-prepared : goal.exchange-requires-clause-prepared
exchange-requires-clause-prepared c =
    let s = c.args.names.now in
    let l = c.args.local.now in
    let r = c.args.announced in
    let low = low_there s l.records c.requires.index.locals r.name r.sequence c.requires.replaced in
    let same = c.in_ok-copied.ensures in
    let prepared = c.in_ok-prepare.ensures.ok ∙ ap (λ x. with_prepared x l) same in
    (λ i. contains_key (prepared i).numbers (same i).sequence) ∙ is_prepared s l c.requires.index r low c.requires.free c.requires.replaced

pub returns-clause-index : goal.returns-clause-index
returns-clause-index c =
    let s = c.args.names.now in
    let l = c.args.local.now in
    let r = c.args.announced in
    let low = low_there s l.records c.requires.index.locals r.name r.sequence c.requires.replaced in
    let same = c.in_ok-copied.ensures in
    let prepared = c.in_ok-prepare.ensures.ok ∙ ap (λ x. with_prepared x l) same in
    let names = of_ok c.set.result (sym c.is_err.ensures.value ∙ c.if-is_err.false) c.set.ensures.ok ∙ ap (λ d. with_record d r s) c.me.ensures in
    settled_moved (sym names) (sym (c.exchange.ensures ∙ (λ i. with_exchanged (same i) (prepared i)))) (index_exchanged s l c.requires.index r low c.requires.free c.requires.replaced)
