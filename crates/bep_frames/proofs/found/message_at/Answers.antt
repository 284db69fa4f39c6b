use Rattle.std.proofs.Common.{◌≡◌, to_z, of_z, w32, refl, ◌∙◌, arith, rules}
use Rattle.std.proofs.lemmas.Result.{err_from_is_err_and}
use Rattle.bep_frames.specs.Reading.{message_at, message_sized}
use Rattle.bep_frames.proofs.Pieces as pieces
use Rattle.bep_frames.proofs.Places.{body_after_takes}
use Rattle.bep_frames.proofs.found.message_at.Goals as goal

pub returns-then-bytes-lt4-clause-found : goal.returns-then-bytes-lt4-clause-found
unfolding message_at
returns-then-bytes-lt4-clause-found c = (omega (arith, c.if-bytes-lt4.true), λ more few. pieces.piece_missing 4 c.args.bytes.now more (message_sized c.args.kind) c.if-bytes-lt4.true few)

pub returns-then-len-gt-MAX_MESSAGE_BYTES-clause-found : goal.returns-then-len-gt-MAX_MESSAGE_BYTES-clause-found
returns-then-len-gt-MAX_MESSAGE_BYTES-clause-found c = λ ne. pieces.message_at_is c.args.kind c.args.bytes.now _ _ c.split_at.ensures.by_index.0 c.split_at.ensures.front_len ∙ pieces.message_long c.args.kind _ _ (omega arith)

pub returns-then-after-len-clause-found : goal.returns-then-after-len-clause-found
returns-then-after-len-clause-found c = rw c.number32-len.ensures (omega arith, pieces.message_lacks c.args.kind c.args.bytes.now _ _ c.split_at.ensures.by_index.0 c.split_at.ensures.front_len (omega arith) (omega arith))

pub returns-in_err-frame-clause-found : goal.returns-in_err-frame-clause-found
returns-in_err-frame-clause-found c =
    let back : to_z w32 (of_z w32 c.args.kind) ≡ c.args.kind = search rules in
    let p = err_from_is_err_and c.from_residual.result c.from_residual.ensures.1 in
    rw (p.1, p.2) (λ ne.
    pieces.message_is c.args.kind c.args.bytes.now _ _ _ _ c.split_at.ensures.by_index.0 c.split_at.ensures.front_len c.split_at-2.ensures.by_index.0 (c.split_at-2.ensures.front_len ∙ c.number32-len.ensures) (omega arith)
    ∙ pieces.message_carried _ _ _ _ (pieces.failed _) back c.in_err-frame.ensures.carried (λ h. ne cc))

pub returns-clause-found : goal.returns-clause-found
returns-clause-found c =
    let back : to_z w32 (of_z w32 c.args.kind) ≡ c.args.kind = search rules in (
      c.split_at-2.result.1.now,
      refl,
      pieces.message_is c.args.kind c.args.bytes.now _ _ _ _ c.split_at.ensures.by_index.0 c.split_at.ensures.front_len c.split_at-2.ensures.by_index.0 (c.split_at-2.ensures.front_len ∙ c.number32-len.ensures) (omega arith)
          ∙ pieces.message_carried _ _ _ _ (pieces.found _) back c.in_ok-frame.ensures.carried (λ h. cc),
    )

pub returns-in_err-frame-clause-memory : goal.returns-in_err-frame-clause-memory
returns-in_err-frame-clause-memory c = λ e.
    let back : to_z w32 (of_z w32 c.args.kind) ≡ c.args.kind = search rules in
    let p = err_from_is_err_and c.from_residual.result c.from_residual.ensures.1 in
    let len = c.split_at-2.ensures.front_len ∙ c.number32-len.ensures in
    body_after_takes c.args.kind c.args.bytes.now _ _ _ _ c.split_at.ensures.by_index.0 c.split_at.ensures.front_len c.split_at-2.ensures.by_index.0 len (omega arith)
    (rw back at (c.in_err-frame.ensures.memory (pieces.passed_on _ _ _ p.1 p.2 e)))
