use Rattle.std.proofs.Common.{refl, subst}
use Rattle.index_sender.specs.Overlay.{KeepsUp}
use Rattle.proof_journal.specs.Appended.{AreUpdates}
use Rattle.proof_journal.proofs.Joins.{first-pages}
use Rattle.proof_journal.proofs.Points.{IsCut, earlier}
use Rattle.proof_journal.proofs.recovered.cut_journals_have_an_earlier_point.Goals as goal

pub returns : goal.returns
returns c = λ f s t v pages progress frames lost legal same keeps updates have is.
    let parted = first-pages f pages _ have frames lost refl in
    let front = parted.0 in
    let rest = parted.1 in
    let cut : IsCut f s t v front rest progress frames = record {
      same = same;
      goes = λ n. c.local_records_go_on.ensures.records legal.passes v.opening v.seen n legal.legal;
      later = c.local_records_go_on.ensures.last v.opening v.seen;
      keeps = subst (λ ps. KeepsUp s.last ps progress v) parted.2 keeps;
      updates = subst AreUpdates parted.2 updates;
      have = parted.3;
      is = is;
    } in
    earlier f s t v front rest progress frames cut
