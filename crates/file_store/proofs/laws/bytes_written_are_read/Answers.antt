use Rattle.file_store.proofs.LeavesLemmas.{written_read, written_appended}
use Rattle.file_store.proofs.laws.bytes_written_are_read.Goals as goal

pub returns : goal.returns
returns c = record { read = written_read; appended = written_appended }
