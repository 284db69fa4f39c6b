use Rattle.bep_frames.proofs.Lemmas.{fed_pieces, start_remaining, given_frame, given_fault, given_none}
use Rattle.bep_frames.proofs.laws.a_reader_gives_its_stream.Goals as goal

pub returns-clause-pieces : goal.returns-clause-pieces
returns-clause-pieces c = fed_pieces

pub returns-clause-starts : goal.returns-clause-starts
returns-clause-starts c = start_remaining

pub returns-clause-frame : goal.returns-clause-frame
returns-clause-frame c = given_frame

pub returns-clause-fault : goal.returns-clause-fault
returns-clause-fault c = given_fault

pub returns-clause-none : goal.returns-clause-none
returns-clause-none c = given_none
