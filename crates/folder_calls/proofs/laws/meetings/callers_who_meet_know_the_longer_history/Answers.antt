use Rattle.folder_calls.proofs.HistoryMeetings.{may-meet, meet-legal, meet-longer, meet-own}
use Rattle.folder_calls.proofs.laws.meetings.callers_who_meet_know_the_longer_history.Goals as goal

pub returns-clause-longer : goal.returns-clause-longer
returns-clause-longer c = meet-longer

pub returns-clause-own : goal.returns-clause-own
returns-clause-own c = meet-own

pub returns-clause-legal : goal.returns-clause-legal
returns-clause-legal c = meet-legal

pub returns-clause-may : goal.returns-clause-may
returns-clause-may c = may-meet
