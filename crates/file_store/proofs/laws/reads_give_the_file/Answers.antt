use Rattle.file_store.proofs.LawLemmas.{read_buffer, read_none, reads_whole}
use Rattle.file_store.proofs.laws.reads_give_the_file.Goals as goal

pub returns : goal.returns
returns c = record { buffer = read_buffer; none = read_none; whole = reads_whole }
