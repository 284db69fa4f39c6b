use Rattle.bep_frames.proofs.Lemmas.{reading_is_read, only_reading}
use Rattle.bep_frames.proofs.laws.one_reading.Goals as goal

pub returns-clause-read : goal.returns-clause-read
returns-clause-read c = reading_is_read

pub returns-clause-only : goal.returns-clause-only
returns-clause-only c = only_reading
