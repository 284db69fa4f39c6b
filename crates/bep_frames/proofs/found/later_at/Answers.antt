use Rattle.std.proofs.Common.{◌≡◌, to_z, of_z, w32, ◌∙◌, rules}
use Rattle.std.proofs.lemmas.Result.{err_from_is_err_and}
use Rattle.bep_frames.specs.Reading.{header_read, later_at, message_at}
use Rattle.bep_frames.proofs.Pieces as pieces
use Rattle.bep_frames.proofs.Places.{message_takes}
use Rattle.bep_messages.proofs.Takes.{header_takes}
use Rattle.bep_frames.proofs.found.later_at.Goals as goal

pub returns-in-Err-clause-found : goal.returns-in-Err-clause-found
unfolding later_at
returns-in-Err-clause-found c = (c.in-Err.ensures.0, c.in-Err.ensures.1 header_read)

pub returns-in_err-header-clause-found : goal.returns-in_err-header-clause-found
unfolding later_at
returns-in_err-header-clause-found c =
    let p = err_from_is_err_and c.from_residual.result c.from_residual.ensures.1 in
    rw (p.1, p.2) (λ ne. pieces.cut_is _ _ _ header_read c.in-Ok.ensures ∙ pieces.header_bad _ _ _ c.in_err-header.ensures.read ne)

pub returns-then-header-ne0-clause-found : goal.returns-then-header-ne0-clause-found
unfolding later_at
returns-then-header-ne0-clause-found c = λ ne. pieces.cut_is _ _ _ header_read c.in-Ok.ensures ∙ pieces.header_compressed _ _ _ c.in_ok-header.ensures.read (search rules)

pub returns-clause-found : goal.returns-clause-found
unfolding later_at
returns-clause-found c =
    let kind = c.in_ok-header.header.kind in
    let back : to_z w32 (of_z w32 kind) ≡ kind = search rules in
    pieces.found_after later_at (message_at kind) c.args.bytes.now c.in-Ok.cut.1.now c.message_at.result
    (λ more. pieces.cut_more _ _ _ header_read more c.in-Ok.ensures ∙ pieces.header_plain _ _ _ c.in_ok-header.ensures.read (search rules))
    (rw back at c.message_at.ensures.found)

pub returns-in_err-header-clause-memory : goal.returns-in_err-header-clause-memory
returns-in_err-header-clause-memory c = λ e.
    let p = err_from_is_err_and c.from_residual.result c.from_residual.ensures.1 in
    absurd (header_takes _ (c.in_err-header.ensures.memory (pieces.passed_on _ _ _ p.1 p.2 e)))

pub returns-clause-memory : goal.returns-clause-memory
returns-clause-memory c = λ e.
    let kind = c.in_ok-header.header.kind in
    let back : to_z w32 (of_z w32 kind) ≡ kind = search rules in
    message_takes c.args.bytes.now _ _ c.in_ok-header.header c.in-Ok.ensures c.in_ok-header.ensures.read (search rules) (rw back at (c.message_at.ensures.memory e))
