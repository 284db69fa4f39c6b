use Rattle.std.proofs.Common.{map, ap, sym, ◌∙◌}
use Rattle.std.specs.Bool.{passes}
use Rattle.std.specs.FinMap.{entries, entries-from_sorted}
use Rattle.folder_core.specs.Announced.{key_cmp}
use Rattle.folder_core.specs.Plain.{filed}
use Rattle.folder_core.specs.States.{FolderState}
use Rattle.folder_core.proofs.plain.PlainFolder.records.Goals as goal

pub returns : goal.returns
returns c =
    ap (map filed) c.as_slice.ensures.value
    ∙ sym (entries-from_sorted key_cmp (map filed c.self.inside.entries.items) (passes _ c.self.invariant.rises))
    ∙ ap (λ (s : FolderState). entries s.announced) c.self.view_is
