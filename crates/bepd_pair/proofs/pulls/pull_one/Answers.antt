use Rattle.bepd_pair.proofs.pulls.pull_one.Goals as goal

pub returns-clause-others : goal.returns-clause-others
returns-clause-others g c = c.answer_of-answer.ensures.others
