use Rattle.file_dir.proofs.VersionLemmas.{version_form}
use Rattle.file_dir.proofs.laws.moment_in_version_name.Goals as goal

pub returns : goal.returns
returns c = λ last name moment text v. version_form last name moment text v
