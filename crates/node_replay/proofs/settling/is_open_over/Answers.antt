use Rattle.std.proofs.Common.{◌≡◌, ◌∙◌, sym, ap}
use Rattle.std.specs.Prelude.{option_copied}
use Rattle.folder_core.specs.Announced.{last_of}
use Rattle.folder_core.proofs.ListTests.{ok_then}
use Rattle.node_replay.specs.Settled.{advanced, is_open}
use Rattle.node_replay.proofs.Advancing.{open-none, open-some}
use Rattle.node_replay.proofs.settling.is_open_over.Goals as goal

pub returns-in-Some : goal.returns-in-Some
returns-in-Some c =
    let found = ap (λ n. last_of n c.args.finished.now) (sym c.name.ensures) ∙ sym c.last_of.ensures ∙ ap option_copied c.in-Some.is in
    c.is_base.ensures ∙ open-some c.args.folder.now.folder c.args.finished.now c.args.plan.now c.in-Some.latest.now found

pub returns-in-None : goal.returns-in-None
returns-in-None c =
    let none = ap (λ n. last_of n c.args.finished.now) (sym c.name.ensures) ∙ sym c.last_of.ensures ∙ ap option_copied c.in-None.is in
    ok_then {P = λ b. b ≡ is_open c.args.folder.now.folder c.args.plan.now} {Q = λ b. b ≡ is_open (advanced c.args.folder.now.folder c.args.finished.now) c.args.plan.now}
    c.is_open.result (λ b e. e ∙ open-none c.args.folder.now.folder c.args.finished.now c.args.plan.now none) c.is_open.ensures
