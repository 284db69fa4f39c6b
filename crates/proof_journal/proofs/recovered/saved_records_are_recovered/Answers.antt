use Rattle.std.proofs.Common.{[], refl, sym, subst, append-nil, inl}
use Rattle.index_sender.specs.Overlay.{KeepsUp}
use Rattle.proof_journal.specs.Appended.{AreUpdates}
use Rattle.proof_journal.proofs.LastSequences.{history-has}
use Rattle.proof_journal.proofs.Points.{IsCut, same-own}
use Rattle.proof_journal.proofs.recovered.saved_records_are_recovered.Goals as goal

pub returns : goal.returns
returns c = λ f s t v pages progress frames legal same keeps all updates have is.
    let cut : IsCut f s t v pages [] progress frames = record {
      same = same;
      goes = λ n. c.local_records_go_on.ensures.records legal.passes v.opening v.seen n legal.legal;
      later = c.local_records_go_on.ensures.last v.opening v.seen;
      keeps = subst (λ ps. KeepsUp s.last ps progress v) (sym (append-nil pages)) keeps;
      updates = subst AreUpdates (sym (append-nil pages)) updates;
      have = have;
      is = is;
    } in
    same-own f s t v pages progress frames cut all (history-has legal.passes v.opening.last v.opening v.seen legal.legal (inl refl))
