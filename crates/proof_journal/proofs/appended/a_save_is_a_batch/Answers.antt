use Rattle.std.proofs.Common.{subst, ◌∙◌}
use Rattle.index_sender.specs.declared.page.Page.TheVariants.{Nothing}
use Rattle.proof_journal.specs.Own.{SameOwn}
use Rattle.proof_journal.proofs.Given.{given-goes, given-legal}
use Rattle.proof_journal.proofs.Joins.{saved-body}
use Rattle.proof_journal.proofs.appended.a_save_is_a_batch.Goals as goal

pub returns : goal.returns
returns g c = λ f s frames_of before after told pages old new point first last grows same so goes saves given again all.
    let body = saved-body g.J.FrameJournal.appends frames_of grows f before pages after saves in
    let sends = c.given_pages_are_updates.ensures s.last told pages old new point first last so goes given again in
    let on = given-goes first old _ last new given in (
      body.0,
      body.1,
      record {
        legal = given-legal first old pages Nothing last new given;
        opened = subst (SameOwn s) (goes.opening ∙ on.opening) same;
        keeps = sends.keeps;
        all = all;
        updates = sends.updates;
        have = body.2;
        none_whole = body.3;
      },
      sends.owes,
    )
