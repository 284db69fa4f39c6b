use Rattle.folder_core.proofs.laws.answers.tickets_come_back.Goals as goal

pub returns-clause-local_moved : goal.returns-clause-local_moved
returns-clause-local_moved c = λ given back. (λ x. x, λ x. x)

pub returns-clause-superseded : goal.returns-clause-superseded
returns-clause-superseded c = λ given back. (λ x. x, λ x. x)

pub returns-clause-sequence_full : goal.returns-clause-sequence_full
returns-clause-sequence_full c = λ given back. (λ x. x, λ x. x)

pub returns-clause-out_of_memory : goal.returns-clause-out_of_memory
returns-clause-out_of_memory c = λ given back. (λ x. x, λ x. x)
