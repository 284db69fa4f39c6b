use Rattle.folder_core.proofs.Rows.{content-devices, invalid-passed, ring-best, ring-withdrawn, live-first, deletion-best, smaller-first, cut-candidate, cut-best, contents-best, nanoseconds-later, counters-greater, shared-devices}
use Rattle.folder_core.proofs.laws.rows.best_in_rows.Goals as goal

pub returns-clause-ring : goal.returns-clause-ring
returns-clause-ring c = ring-best

pub returns-clause-withdrawn : goal.returns-clause-withdrawn
returns-clause-withdrawn c = ring-withdrawn

pub returns-clause-live : goal.returns-clause-live
returns-clause-live c = live-first

pub returns-clause-deletion : goal.returns-clause-deletion
returns-clause-deletion c = deletion-best

pub returns-clause-modified_by : goal.returns-clause-modified_by
returns-clause-modified_by c = smaller-first

pub returns-clause-cut : goal.returns-clause-cut
returns-clause-cut c = cut-candidate

pub returns-clause-cut_alone : goal.returns-clause-cut_alone
returns-clause-cut_alone c = cut-best

pub returns-clause-contents : goal.returns-clause-contents
returns-clause-contents c = contents-best

pub returns-clause-versions : goal.returns-clause-versions
returns-clause-versions c = content-devices

pub returns-clause-invalid : goal.returns-clause-invalid
returns-clause-invalid c = invalid-passed

pub returns-clause-nanoseconds : goal.returns-clause-nanoseconds
returns-clause-nanoseconds c = nanoseconds-later

pub returns-clause-counters : goal.returns-clause-counters
returns-clause-counters c = counters-greater

pub returns-clause-shared : goal.returns-clause-shared
returns-clause-shared c = shared-devices
