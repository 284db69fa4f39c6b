use Rattle.bep_frames.proofs.Lemmas.{no_hello_begins_another, no_later_begins_another}
use Rattle.bep_frames.proofs.laws.no_frame_begins_another.Goals as goal

pub returns-clause-hello : goal.returns-clause-hello
returns-clause-hello c = no_hello_begins_another

pub returns-clause-later : goal.returns-clause-later
returns-clause-later c = no_later_begins_another
