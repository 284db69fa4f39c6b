use Rattle.file_store.proofs.LeavesLemmas.{put_read, put_no_temp}
use Rattle.file_store.proofs.laws.files_are_put.Goals as goal

pub returns : goal.returns
returns c = record { file = put_read; temporary = put_no_temp }
