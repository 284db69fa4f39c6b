use Rattle.std.proofs.Common.{refl, ◌∙◌}
use Rattle.std.proofs.lemmas.Result.{err_from_is_err_and}
use Rattle.bep_frames.specs.Reading.{hello_read, hello_sized}
use Rattle.bep_frames.proofs.Pieces as pieces
use Rattle.bep_frames.proofs.found.hello_sized.Goals as goal

pub returns-in-Err-clause-found : goal.returns-in-Err-clause-found
unfolding hello_sized
returns-in-Err-clause-found c = (c.in-Err.ensures.0, c.in-Err.ensures.1 hello_read)

pub returns-in_err-hello-clause-found : goal.returns-in_err-hello-clause-found
unfolding hello_sized
returns-in_err-hello-clause-found c =
    let p = err_from_is_err_and c.from_residual.result c.from_residual.ensures.1 in
    rw (p.1, p.2) (λ ne. pieces.cut_is _ _ _ hello_read c.in-Ok.ensures ∙ pieces.hello_bad _ _ _ c.in_err-hello.ensures.read ne)

pub returns-clause-found : goal.returns-clause-found
unfolding hello_sized
returns-clause-found c = (c.in-Ok.cut.1.now, refl, pieces.cut_is _ _ _ hello_read c.in-Ok.ensures ∙ pieces.hello_good _ _ _ c.in_ok-hello.ensures.read)

pub returns-in_err-hello-clause-memory : goal.returns-in_err-hello-clause-memory
returns-in_err-hello-clause-memory c = λ e.
    let p = err_from_is_err_and c.from_residual.result c.from_residual.ensures.1 in
    record { held = c.in-Ok.cut.0.now; rest = c.in-Ok.cut.1.now; cut = c.in-Ok.ensures; takes = c.in_err-hello.ensures.memory (pieces.passed_on _ _ _ p.1 p.2 e) }
