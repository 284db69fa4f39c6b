use Rattle.std.proofs.Common.{◌≡◌, ◌+◌, ◌∷◌, ◌++◌, ◌∙◌, [], Bool, true, List, length, sym, ap, subst, arith}
use Rattle.std.proofs.lemmas.List.{length-append}
use Rattle.folder_core.proofs.ReadAnswers.{known-own}
use Rattle.folder_core.specs.Reads.{known}
use Rattle.folder_core.specs.Steps.{committed_record}
use Rattle.sync_record.specs.Records.{FileRecord}
use Rattle.node_replay.specs.Settled.{IsTold, advanced, is_open}
use Rattle.node_replay.proofs.Advancing.{finish}
use Rattle.node_replay.proofs.settling.take_turn.Goals as goal

pub returns-clause-settled : goal.returns-clause-settled
returns-clause-settled g c =
    let s = c.args.folder.now.folder in
    let fs = c.args.finished.now in
    let p = c.args.plan.now in
    let own = c.with_sequence-own.result in
    let opened : is_open (advanced s fs) p ≡ true = sym c.in_ok-is_open.ensures ∙ c.if-not-is_open.false in
    let told : g.D.Disk.tells c.args.disk.now p.target true c.has-stands.new.self = subst (λ (b : Bool). g.D.Disk.tells c.args.disk.now p.target b c.has-stands.new.self) c.if-not-stands.false c.has-stands.ensures in
    let asked : IsTold g.D.Disk.tells (is_open (advanced s fs) p) (p, true) c.args.disk.now c.has-stands.new.self =
    subst (λ (b : Bool). IsTold g.D.Disk.tells b (p, true) c.args.disk.now c.has-stands.new.self) (sym opened) told in
    let given : c.known.result ≡ s.last = c.known.ensures ∙ ap (known s) c.me.ensures.me ∙ known-own s in
    let many : c.len.result ≡ length fs = c.len.ensures in
    let is : own ≡ record (committed_record p.base p.target) { sequence = (advanced s fs).last + 1 } =
    c.with_sequence-own.ensures ∙ λ i. record (c.in_ok-target.ensures i) { sequence = given i + many i + 1 } in
    let grown : c.push.new.self ≡ fs ++ own ∷ [] = c.in_ok-push.ensures in
    (true, asked, ap (λ (rs : List FileRecord). advanced s rs) grown ∙ finish s fs p own is opened)

pub returns-clause-room : goal.returns-clause-room
returns-clause-room g c =
    let s = c.args.folder.now.folder in
    let fs = c.args.finished.now in
    let own = c.with_sequence-own.result in
    let given : c.known.result ≡ s.last = c.known.ensures ∙ ap (known s) c.me.ensures.me ∙ known-own s in
    let many : c.len.result ≡ length fs = c.len.ensures in
    let grown : c.push.new.self ≡ fs ++ own ∷ [] = c.in_ok-push.ensures in
    let long : length c.push.new.self ≡ length fs + 1 = omega (arith, ap length grown, length-append fs (own ∷ [])) in
    omega (arith, given, many, long, c.requires.room, c.if-last-eq-MAX_SEQUENCE.false)
