use Rattle.bep_frames.proofs.Takes.{takes_whole, takes_faults, takes_known, empty_takes}
use Rattle.bep_frames.proofs.laws.which_frames_take_memory.Goals as goal

pub returns-clause-whole : goal.returns-clause-whole
returns-clause-whole c = takes_whole

pub returns-clause-faults : goal.returns-clause-faults
returns-clause-faults c = takes_faults

pub returns-clause-unknown : goal.returns-clause-unknown
returns-clause-unknown c = takes_known

pub returns-clause-empty : goal.returns-clause-empty
returns-clause-empty c = empty_takes
