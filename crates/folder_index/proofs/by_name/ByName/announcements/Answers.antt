use Rattle.std.proofs.Common.{◌≡◌, [], sym, ap, ◌∙◌, arith, map}
use Rattle.std.specs.FinMap.{entries}
use Rattle.std.proofs.lemmas.Bool.{true≢false}
use Rattle.folder_core.specs.Plain.{filed}
use Rattle.folder_index.specs.Chunks.{groups_in, keyed}
use Rattle.folder_index.specs.Groups.{listed}
use Rattle.folder_index.specs.Indexes.{IndexState}
use Rattle.folder_index.proofs.Announcing.{all_chunked, entries_are, nothing_listed, part_entries, unfiled}
use Rattle.folder_index.proofs.Chunked.{item_in}
use Rattle.folder_index.proofs.by_name.ByName.announcements.Goals as goal

pub returns-in_err-push_copies-clause-none : goal.returns-in_err-push_copies-clause-none
returns-in_err-push_copies-clause-none c = λ none.
    let i = c.self.inside in
    let g = c.group-item.result in
    let there = item_in i.names c.as_slice-chunk-items.result.now c.as_slice-chunk-items.ensures.value c.loop-chunk.chunk-index c.chunk-item.result c.loop-chunk-test.true c.chunk-item.is c.as_slice-group-items.result.now c.as_slice-group-items.ensures.value c.loop-group.group-index g c.loop-group-test.true c.group-item.is in
    let no_entries : listed (groups_in i.names) ≡ [] =
    unfiled (listed (groups_in i.names)) (entries_are i.me (groups_in i.names) i.totals c.self.invariant.chunked.are i.choices
    ∙ ap (λ (s : IndexState). entries s.announced) c.self.view_is ∙ nothing_listed c.args.self.now.announced none) in
    absurd (true≢false (sym (c.in_err-push_copies.ensures.none (c.entries.ensures ∙ part_entries (groups_in i.names) (keyed g) there no_entries))))

pub returns-clause-all : goal.returns-clause-all
returns-clause-all c =
    let i = c.self.inside in
    let all = all_chunked i.names c.as_slice-chunk-items.result.now c.loop-chunk.chunk-index c.as_slice-chunk-items.ensures.value (let past = c.loop-chunk-test.false in omega arith) in
    ap (map filed) (c.from_vec.ensures ∙ c.loop-chunk.invariant ∙ all)
    ∙ entries_are i.me (groups_in i.names) i.totals c.self.invariant.chunked.are i.choices
    ∙ ap (λ (s : IndexState). entries s.announced) c.self.view_is
