use Rattle.folder_core.proofs.Same.{announcements, answers, bests, changes, counts, findings, places, infos}
use Rattle.folder_core.proofs.laws.values.comparison_is_equality.Goals as goal

pub returns-clause-changes : goal.returns-clause-changes
returns-clause-changes c = changes

pub returns-clause-answers : goal.returns-clause-answers
returns-clause-answers c = answers

pub returns-clause-infos : goal.returns-clause-infos
returns-clause-infos c = infos

pub returns-clause-findings : goal.returns-clause-findings
returns-clause-findings c = findings

pub returns-clause-places : goal.returns-clause-places
returns-clause-places c = places

pub returns-clause-bests : goal.returns-clause-bests
returns-clause-bests c = bests

pub returns-clause-announcements : goal.returns-clause-announcements
returns-clause-announcements c = announcements

pub returns-clause-counts : goal.returns-clause-counts
returns-clause-counts c = counts
