use Rattle.std.specs.FinMap.{entries}
use Rattle.folder_index.specs.Devices.{names_by}
use Rattle.folder_index.proofs.Announcing.{forgotten, names_counted, names_me, names_promised}
use Rattle.folder_index.proofs.laws.forgotten_devices_announce_nothing.Goals as goal

pub returns : goal.returns
returns c = record {
  announced = λ s d. forgotten d s;
  me = λ s d. names_me d (names_by d (entries s.announced)) s;
  promised = λ s d. names_promised d (names_by d (entries s.announced)) s;
  choices = λ s d. names_counted d (names_by d (entries s.announced)) s;
}
