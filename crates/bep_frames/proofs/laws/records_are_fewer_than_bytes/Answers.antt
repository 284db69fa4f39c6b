use Rattle.bep_frames.proofs.Lemmas.{index_records_few, update_records_few, frame_shorter}
use Rattle.bep_frames.proofs.laws.records_are_fewer_than_bytes.Goals as goal

pub returns-clause-index : goal.returns-clause-index
returns-clause-index c = index_records_few

pub returns-clause-update : goal.returns-clause-update
returns-clause-update c = update_records_few

pub returns-clause-frame_shorter : goal.returns-clause-frame_shorter
returns-clause-frame_shorter c = frame_shorter
