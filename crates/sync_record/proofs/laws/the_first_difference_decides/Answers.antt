use Rattle.sync_record.proofs.FirstDifference.{life, second, nanosecond, author, id, value, more, device}
use Rattle.sync_record.proofs.laws.the_first_difference_decides.Goals as goal

pub returns-clause-life : goal.returns-clause-life
returns-clause-life c = life

pub returns-clause-second : goal.returns-clause-second
returns-clause-second c = second

pub returns-clause-nanosecond : goal.returns-clause-nanosecond
returns-clause-nanosecond c = nanosecond

pub returns-clause-author : goal.returns-clause-author
returns-clause-author c = author

pub returns-clause-id : goal.returns-clause-id
returns-clause-id c = id

pub returns-clause-value : goal.returns-clause-value
returns-clause-value c = value

pub returns-clause-more : goal.returns-clause-more
returns-clause-more c = more

pub returns-clause-device : goal.returns-clause-device
returns-clause-device c = device
