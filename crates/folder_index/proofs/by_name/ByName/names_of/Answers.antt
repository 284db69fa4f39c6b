use Rattle.std.proofs.Common.{◌≡◌, [], List, sym, ap, ◌∙◌, arith}
use Rattle.std.specs.FinMap.{entries}
use Rattle.std.proofs.lemmas.Bool.{true≢false}
use Rattle.folder_core.specs.declared.announcement.Announcement.{Announcement as Entry}
use Rattle.folder_index.specs.Chunks.{groups_in, keyed}
use Rattle.folder_index.specs.Devices.{names_by, names_from}
use Rattle.folder_index.specs.Groups.{listed}
use Rattle.folder_index.specs.Indexes.{IndexState}
use Rattle.folder_index.proofs.Announcing.{all_chunked, names_are, part_names}
use Rattle.folder_index.proofs.Chunked.{item_in}
use Rattle.folder_index.proofs.by_name.ByName.names_of.Goals as goal

pub returns-in_err-push_names-clause-none : goal.returns-in_err-push_names-clause-none
returns-in_err-push_names-clause-none c = λ none.
    let i = c.self.inside in
    let g = c.group-item.result in
    let there = item_in i.names c.as_slice-chunk-items.result.now c.as_slice-chunk-items.ensures.value c.loop-chunk.chunk-index c.chunk-item.result c.loop-chunk-test.true c.chunk-item.is c.as_slice-group-items.result.now c.as_slice-group-items.ensures.value c.loop-group.group-index g c.loop-group-test.true c.group-item.is in
    let no_names : names_from c.args.device (listed (groups_in i.names)) ≡ [] =
    names_are i.me (groups_in i.names) i.totals c.self.invariant.chunked.are i.choices c.args.device
    ∙ ap (λ (s : IndexState). names_by c.args.device (entries s.announced)) c.self.view_is ∙ none in
    absurd (true≢false (sym (c.in_err-push_names.ensures.none (ap (λ (es : List Entry). names_from c.args.device es) c.entries.ensures ∙ part_names c.args.device (groups_in i.names) (keyed g) there no_names))))

pub returns-clause-names : goal.returns-clause-names
returns-clause-names c =
    let i = c.self.inside in
    let all = all_chunked i.names c.as_slice-chunk-items.result.now c.loop-chunk.chunk-index c.as_slice-chunk-items.ensures.value (let past = c.loop-chunk-test.false in omega arith) in
    c.from_vec.ensures ∙ c.loop-chunk.invariant ∙ ap (λ (es : List Entry). names_from c.args.device es) all
    ∙ names_are i.me (groups_in i.names) i.totals c.self.invariant.chunked.are i.choices c.args.device
    ∙ ap (λ (s : IndexState). names_by c.args.device (entries s.announced)) c.self.view_is
