use Rattle.std.proofs.Common.{◌≡◌, sym, ap, ◌∙◌, arith, rules, map}
use Rattle.std.specs.FinMap.{len}
use Rattle.folder_core.specs.PlainRestores.{given}
use Rattle.folder_core.specs.Restores.{restored_folder}
use Rattle.folder_core.specs.States.{FolderState}
use Rattle.folder_core.proofs.ListTests.{alike_bytes}
use Rattle.folder_index.specs.Indexes.{IndexState}
use Rattle.folder_index.proofs.Announcing.{nothing_listed, unfiled}
use Rattle.std.proofs.lemmas.Bool.{true≢false}
use Rattle.folder_db.specs.Indexed.{counted_more}
use Rattle.folder_db.proofs.Filling.{closed-indexed, closed-state, known-own, lent-announced, lent-counted, lent-distinct, lent-rises}
use Rattle.folder_db.proofs.folder.IndexedFolder.restore.Goals as goal

pub filled-requires : goal.filled-requires
filled-requires c = record {
  rises = lent-rises c.in_ok-plain.plain c.records.result.now c.records.ensures;
  distinct = lent-distinct c.in_ok-plain.plain c.records.result.now c.records.ensures c.me.result c.me.ensures.me c.me.ensures.folder;
}

pub invariant_of-result : goal.invariant_of-result
invariant_of-result c =
    let p = c.in_ok-plain.plain in
    let is : p ≡ restored_folder c.args.me (map given c.args.records) c.args.last = search rules in
    let put = c.in_ok-index.ensures.made in
    let own = alike_bytes c.args.me p.me (sym (ap (λ (x : FolderState). x.me) is)) in
    closed-indexed p c.me.ensures.folder (ap (λ (x : FolderState). x.pulls) is) c.in_ok-index.index (ap (λ (s : IndexState). s.me) put ∙ c.me.ensures.me) (ap (λ (s : IndexState). s.announced) put ∙ lent-announced p c.records.result.now c.records.ensures)
    c.known.result (c.known.ensures ∙ known-own p c.args.me own) c.new.result.items c.new.ensures.items c.new-2.result.items c.new-2.ensures.items (ap (λ (s : IndexState). s.promised) put)
    (let many = ap (λ (s : IndexState). s.choices) put in omega arith)

pub returns-clause-restored : goal.returns-clause-restored
returns-clause-restored c =
    let p = c.in_ok-plain.plain in
    let is : p ≡ restored_folder c.args.me (map given c.args.records) c.args.last = search rules in
    let put = c.in_ok-index.ensures.made in
    let own = alike_bytes c.args.me p.me (sym (ap (λ (x : FolderState). x.me) is)) in
    closed-state p c.me.ensures.folder (ap (λ (x : FolderState). x.pulls) is) c.in_ok-index.index (ap (λ (s : IndexState). s.me) put ∙ c.me.ensures.me) (ap (λ (s : IndexState). s.announced) put ∙ lent-announced p c.records.result.now c.records.ensures)
    c.known.result (c.known.ensures ∙ known-own p c.args.me own) c.new.result.items c.new.ensures.items
    ∙ is

pub returns-clause-choices : goal.returns-clause-choices
returns-clause-choices c =
    let p = c.in_ok-plain.plain in
    let put = c.in_ok-index.ensures.made in
    ap (λ (s : IndexState). s.choices) put
    ∙ ap (counted_more 0) (lent-counted p c.records.result.now c.records.ensures ∙ ap len (sym (ap (λ (s : IndexState). s.announced) put ∙ lent-announced p c.records.result.now c.records.ensures)))

pub returns-in_err-index-clause-none : goal.returns-in_err-index-clause-none
returns-in_err-index-clause-none c = λ empty_list.
    let p = c.in_ok-plain.plain in
    let is : p ≡ restored_folder c.args.me (map given c.args.records) c.args.last = search rules in
    let none = ap (λ (x : FolderState). x.announced) is ∙ ap (λ rs. (restored_folder c.args.me (map given rs) c.args.last).announced) empty_list in
    absurd (true≢false (sym (c.in_err-index.ensures.none (unfiled c.records.result.now (c.records.ensures ∙ nothing_listed p.announced none)))))
