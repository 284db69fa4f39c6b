use Rattle.std.proofs.Common.{map, ap, ◌∙◌}
use Rattle.std.specs.FinMap.{put}
use Rattle.folder_core.specs.Announced.{key, key_cmp}
use Rattle.folder_core.specs.Plain.{filed}
use Rattle.folder_index.proofs.Keeping.{name_put}
use Rattle.folder_index.proofs.name_entries.begun.Goals as goal

pub returns-clause-name : goal.returns-clause-name
returns-clause-name c =
    name_put c.args.device c.args.announced c.args.entries.now.items c.put.new.entries.items c.requires.named
    (c.put.ensures.placed ∙ ap (λ (v : _). put key_cmp (key c.args.announced.name c.args.device) c.args.announced (map filed v.items)) c.replace-list.ensures.value)
