use Rattle.folder_calls.proofs.HistoryShared.{made-there, declined-there, read-there}
use Rattle.folder_calls.proofs.laws.calls.calls_may_be_answered_at_any_point.Goals as goal

pub returns-clause-made : goal.returns-clause-made
returns-clause-made c = λ old es x a longer own view may is accepted. made-there old es longer own view x a may is accepted

pub returns-clause-declined : goal.returns-clause-declined
returns-clause-declined c = λ old es x a longer own view is tested. declined-there old es longer own view x a is tested

pub returns-clause-read : goal.returns-clause-read
returns-clause-read c = λ old es q r longer own view reads. read-there old es longer own view q r reads
