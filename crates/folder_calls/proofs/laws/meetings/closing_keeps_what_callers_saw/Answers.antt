use Rattle.folder_calls.proofs.HistoryMeetings.{close-all, close-folder, close-follows, close-only, may-close}
use Rattle.folder_calls.proofs.laws.meetings.closing_keeps_what_callers_saw.Goals as goal

pub returns-clause-follows : goal.returns-clause-follows
returns-clause-follows c = λ opening limit passes callers end v closes one. close-follows opening limit passes callers end closes v one

pub returns-clause-folder : goal.returns-clause-folder
returns-clause-folder c = λ opening limit passes callers end closes folder. close-folder opening limit passes callers end closes folder

pub returns-clause-only : goal.returns-clause-only
returns-clause-only c = close-only

pub returns-clause-may : goal.returns-clause-may
returns-clause-may c = may-close

pub returns-clause-all : goal.returns-clause-all
returns-clause-all c = close-all
