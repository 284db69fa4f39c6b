use Rattle.std.proofs.Common.{Result, Ok, Err, refl, inr}
use Rattle.std.specs.Prelude.{IfErr}
use Rattle.peer_conn.specs.Turns.{MayGiveMessage, message_of}
use Rattle.peer_conn.proofs.turn.next_message.Goals as goal

in-each-error : {T E : Type 0} (P : Type 0) (r : Result T E) → P → IfErr r (λ _. P)
in-each-error P (Ok t) p = tt
in-each-error P (Err e) p = p

pub returns-in_err-told-clause-out_of_memory : goal.returns-in_err-told-clause-out_of_memory
returns-in_err-told-clause-out_of_memory g c =
    let folder = c.args.folder.now in
    let next = c.in_ok-next.next in
    let given = c.in_ok-next.ensures.gives in
    in-each-error (MayGiveMessage folder c.args.kept (g.W.FolderCalls.view c.next_kept_page.new.calls) c.args.sender.now c.next_kept_page.new.self) c.from_residual-in_err-told.result
    (inr (next.is_waiting, message_of folder next.page, (next.page, given.0, given.1, refl)))
