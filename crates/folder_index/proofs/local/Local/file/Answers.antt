use Rattle.std.proofs.Common.{sym, ap, ◌∙◌}
use Rattle.folder_index.specs.Digests.{with_blocks, without_blocks}
use Rattle.folder_index.specs.Locals.{live_blocks}
use Rattle.folder_index.specs.Numbers.{number_of}
use Rattle.folder_index.proofs.Digested.{undone}
use Rattle.folder_index.proofs.Results.{of_err}
use Rattle.folder_index.proofs.local.Local.file.Goals as goal

pub returns-then-is_err-clause-err : goal.returns-then-is_err-clause-err
returns-then-is_err-clause-err c =
    let l = c.args.self.now in
    let r = c.args.announced.now in
    let number = c.number-number.ensures ∙ ap (number_of l.numbers) c.sequence.ensures.value in
    let added = c.in_ok-add.ensures.ok ∙ (λ i. with_blocks (number i) (c.live_blocks.ensures i) l.places) in
    let places =
    c.remove.ensures
    ∙ (λ i. without_blocks (number i) (c.live_blocks-then-is_err.ensures i) (added i))
    ∙ undone (number_of l.numbers r.sequence) (live_blocks r) l.places c.requires.unused in
    let records = of_err c.insert.result (sym c.is_err.ensures.value ∙ c.if-is_err.true) c.insert.ensures.err in
    λ i. record { records = records i; places = places i; numbers = l.numbers; latest = l.latest }
