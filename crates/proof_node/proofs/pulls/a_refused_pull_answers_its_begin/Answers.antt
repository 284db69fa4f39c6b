use Rattle.proof_node.proofs.Begins.{busy-begin, full-begin, memory-begin, needless-begin, unsupported-begin}
use Rattle.proof_node.proofs.pulls.a_refused_pull_answers_its_begin.Goals as goal

pub returns-clause-not_needed : goal.returns-clause-not_needed
returns-clause-not_needed g c = λ most moment n old new before after h. needless-begin most moment n _ _ _ _ _ old before new after h

pub returns-clause-busy : goal.returns-clause-busy
returns-clause-busy g c = λ most moment n old new before after h. busy-begin most moment n _ _ _ _ _ old before new after h

pub returns-clause-unsupported : goal.returns-clause-unsupported
returns-clause-unsupported g c = λ most moment n old new before after h. unsupported-begin most moment n _ _ _ _ _ old before new after h

pub returns-clause-history_full : goal.returns-clause-history_full
returns-clause-history_full g c = λ most moment n old new before after h. full-begin most moment n _ _ _ _ _ old before new after h

pub returns-clause-out_of_memory : goal.returns-clause-out_of_memory
returns-clause-out_of_memory g c = λ most moment n old new before after h. memory-begin most moment n _ _ _ _ _ old before new after h
