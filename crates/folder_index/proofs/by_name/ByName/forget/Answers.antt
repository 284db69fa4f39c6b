use Rattle.std.proofs.Common.{◌≡◌, List, ap, ◌∙◌, arith}
use Rattle.std.specs.FinMap.{get}
use Rattle.std.proofs.lemmas.List.{take_all}
use Rattle.sync_record.specs.Records.{Name}
use Rattle.folder_core.specs.Announced.{key}
use Rattle.folder_index.specs.Devices.{without_device, without_names}
use Rattle.folder_index.specs.Indexes.{IndexState}
use Rattle.folder_index.proofs.Announcing.{forgotten, forgotten_none}
use Rattle.folder_index.proofs.by_name.ByName.forget.Goals as goal

pub note_nothing-requires : goal.note_nothing-requires
note_nothing-requires c = λ n.
    let d = c.args.device in
    let s = c.args.self.now in
    let items = c.as_slice-name-items.result.now in
    let gone : c.loop-name.self ≡ without_device d s =
    c.loop-name.invariant
    ∙ ap (λ (ns : List Name). without_names d ns s) (take_all c.loop-name.name-index items (let past = c.loop-name-test.false in omega arith) ∙ c.as_slice-name-items.ensures ∙ c.in_ok-names.ensures.names) in
    ap (λ (s : IndexState). get s.announced (key n d)) gone
    ∙ ap (λ a. get a (key n d)) (forgotten d s)
    ∙ forgotten_none d s.announced n
