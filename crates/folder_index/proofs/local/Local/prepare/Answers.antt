use Rattle.std.proofs.Common.{sym, ap, ◌∙◌}
use Rattle.folder_index.specs.Digests.{with_blocks, without_blocks}
use Rattle.folder_index.specs.Locals.{live_blocks}
use Rattle.folder_index.specs.Numbers.{other_number_of}
use Rattle.folder_index.proofs.Digested.{undone}
use Rattle.folder_index.proofs.Results.{of_err}
use Rattle.folder_index.proofs.local.Local.prepare.Goals as goal

pub returns-then-is_err-clause-err : goal.returns-then-is_err-clause-err
returns-then-is_err-clause-err c =
    let l = c.args.self.now in
    let r = c.args.announced.now in
    let number = c.other_number-number.ensures ∙ ap (other_number_of l.numbers) c.sequence.ensures.value in
    let added = c.in_ok-add.ensures.ok ∙ (λ i. with_blocks (number i) (c.live_blocks.ensures i) l.places) in
    let places =
    c.remove.ensures
    ∙ (λ i. without_blocks (number i) (c.live_blocks-then-is_err.ensures i) (added i))
    ∙ undone (other_number_of l.numbers r.sequence) (live_blocks r) l.places c.requires in
    let numbers = of_err c.keep.result (sym c.is_err.ensures.value ∙ c.if-is_err.true) c.keep.ensures.err in
    λ i. record { records = l.records; places = places i; numbers = numbers i; latest = l.latest }
