use Rattle.std.proofs.Common.{◌≡◌, take}
use Rattle.std.specs.Prelude.{map}
use Rattle.bepd_run.proofs.starts.index_ids_of.Given as goal

abbrev pub invariant-loop-folder : goal.invariant-loop-folder
invariant-loop-folder l = l.ids.items ≡ map (λ f. f.settings.index_id) (take l.folder-index l.folders)
