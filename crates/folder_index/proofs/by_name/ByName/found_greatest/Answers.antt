use Rattle.std.proofs.Common.{List, ap, ◌∙◌, arith, max}
use Rattle.std.specs.FinMap.{entries}
use Rattle.std.specs.Prelude.{fold}
use Rattle.folder_core.specs.declared.announcement.Announcement.{Announcement as Entry}
use Rattle.folder_index.specs.Chunks.{groups_in}
use Rattle.folder_index.specs.Devices.{greatest_of, sequences_by, sequences_from}
use Rattle.folder_index.specs.Indexes.{IndexState}
use Rattle.folder_index.proofs.Announcing.{all_chunked, sequences_are}
use Rattle.folder_index.proofs.by_name.ByName.found_greatest.Goals as goal

pub returns : goal.returns
returns c =
    let i = c.self.inside in
    let all = all_chunked i.names c.as_slice-chunk-items.result.now c.loop-chunk.chunk-index c.as_slice-chunk-items.ensures.value (let past = c.loop-chunk-test.false in omega arith) in
    c.loop-chunk.invariant ∙ ap (λ (es : List Entry). fold max 0 (sequences_from c.args.device es)) all
    ∙ ap greatest_of (sequences_are i.me (groups_in i.names) i.totals c.self.invariant.chunked.are i.choices c.args.device)
    ∙ ap (λ (s : IndexState). greatest_of (sequences_by c.args.device (entries s.announced))) c.self.view_is
