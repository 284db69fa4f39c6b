use Rattle.proof_journal.proofs.Given.{given-all}
use Rattle.proof_journal.proofs.appended.given_pages_are_updates.Goals as goal

pub returns : goal.returns
returns c = λ start told pages old new point first last were goes given again.
    given-all start (c.pages_keep_up.ensures.next start) (c.pages_of_a_start_are_updates.ensures.next start) told old point first were goes pages last new given again
