use Rattle.std.proofs.Common.{[], ◌∷◌}
use Rattle.std.specs.Prelude.{◌≡◌, false}
use Rattle.node_journal.specs.declared.frame.Frame.{Frame}
use Rattle.node_saver.proofs.Records.{push-all}
use Rattle.proof_journal.specs.Appended.{other}
use Rattle.proof_journal.proofs.Joins.{none-behind}
use Rattle.proof_journal.proofs.appended.batches_may_have_other_frames.Goals as goal

pub returns-clause-before : goal.returns-clause-before
returns-clause-before c = λ f s told b frame is tells part. record {
  legal = is.legal;
  opened = is.opened;
  keeps = is.keeps;
  all = is.all;
  updates = is.updates;
  have = other frame b.pages b.body tells is.have;
  none_whole = (part, is.none_whole);
}

pub returns-clause-behind : goal.returns-clause-behind
returns-clause-behind c = λ f s told b frame is tells part. record {
  legal = is.legal;
  opened = is.opened;
  keeps = is.keeps;
  all = is.all;
  updates = is.updates;
  have = none-behind f frame tells b.pages b.body is.have;
  none_whole = push-all (λ (g : Frame). g.is_whole ≡ false) b.body (frame ∷ []) is.none_whole (part, tt);
}
