use Rattle.proof_journal.proofs.Joins.{saved-have}
use Rattle.proof_journal.proofs.appended.appended_pages_are_in_the_journal.Goals as goal

pub returns : goal.returns
returns g c = λ f frames_of first last told pages grows had saves. saved-have g.J.FrameJournal.appends frames_of grows f first told had pages last saves
