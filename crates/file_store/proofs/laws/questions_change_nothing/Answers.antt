use Rattle.file_store.proofs.laws.questions_change_nothing.Goals as goal

pub returns : goal.returns
returns c = record { list = λ old new r h. h.kept; stat = λ old new n r h. h.kept; read_at = λ old new n offset before after r h. h.kept }
