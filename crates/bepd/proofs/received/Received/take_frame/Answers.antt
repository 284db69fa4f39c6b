use Rattle.std.proofs.Common.{◌≡◌, ◌∙◌, ap, sym, arith, length}
use Rattle.folder_core.specs.declared.answer.Answer.TheVariants.{Applied}
use Rattle.folder_core.specs.declared.change.Change.TheVariants.{IndexFull, IndexMore}
use Rattle.folder_core.specs.Steps.{step}
use Rattle.bepd.specs.Received.{frame_files}
use Rattle.bepd.proofs.Keeping.{skipped_fewer}
use Rattle.bepd.proofs.Framing.{full_received, more_received}
use Rattle.bepd.proofs.received.Received.take_frame.Goals as goal

pub returns-in_ok-index_full-in-Some-All-clause-received : goal.returns-in_ok-index_full-in-Some-All-clause-received
returns-in_ok-index_full-in-Some-All-clause-received g c = λ frames h.
    let kept = c.in_ok-records-in-Some-All.ensures in
    let announced = rw c.in-Some-All.field-0-is at c.in-Some-All.ensures in
    let state = g.F.FolderCore.state in
    full_received c.args.folder.now frames c.args.frame (state c.args.self.now.folder) (state c.index_full.new.self)
    c.args.self.now.skipped c.keep.new.skipped c.in-Some-All.files c.in_ok-records-in-Some-All.records Applied
    announced.0 announced.1 kept.kept
    (ap (λ d. step (state c.args.self.now.folder) (IndexFull d c.in_ok-records-in-Some-All.records)) (sym c.peer.ensures) ∙ c.in_ok-index_full-in-Some-All.ensures)
    kept.count h

pub returns-in_ok-index_full-in-Some-All-clause-count : goal.returns-in_ok-index_full-in-Some-All-clause-count
returns-in_ok-index_full-in-Some-All-clause-count g c =
    let announced : length (frame_files c.args.folder.now c.args.frame) ≡ length c.in-Some-All.files = ap length (rw c.in-Some-All.field-0-is at c.in-Some-All.ensures).1 in
    omega (arith, c.in_ok-records-in-Some-All.ensures.count, announced, skipped_fewer c.in-Some-All.files)

pub returns-in_ok-index_more-in-Some-More-clause-received : goal.returns-in_ok-index_more-in-Some-More-clause-received
returns-in_ok-index_more-in-Some-More-clause-received g c = λ frames h.
    let kept = c.in_ok-records-in-Some-More.ensures in
    let announced = rw c.in-Some-More.field-0-is at c.in-Some-More.ensures in
    let state = g.F.FolderCore.state in
    more_received c.args.folder.now frames c.args.frame (state c.args.self.now.folder) (state c.index_more.new.self)
    c.args.self.now.skipped c.keep-in-Some-More.new.skipped c.in-Some-More.files c.in_ok-records-in-Some-More.records Applied
    announced.0 announced.1 kept.kept
    (ap (λ d. step (state c.args.self.now.folder) (IndexMore d c.in_ok-records-in-Some-More.records)) (sym c.peer-in-Some-More.ensures) ∙ c.in_ok-index_more-in-Some-More.ensures)
    kept.count h

pub returns-in_ok-index_more-in-Some-More-clause-count : goal.returns-in_ok-index_more-in-Some-More-clause-count
returns-in_ok-index_more-in-Some-More-clause-count g c =
    let announced : length (frame_files c.args.folder.now c.args.frame) ≡ length c.in-Some-More.files = ap length (rw c.in-Some-More.field-0-is at c.in-Some-More.ensures).1 in
    omega (arith, c.in_ok-records-in-Some-More.ensures.count, announced, skipped_fewer c.in-Some-More.files)
