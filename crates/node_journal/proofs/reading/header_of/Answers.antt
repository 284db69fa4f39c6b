use Rattle.std.proofs.Common.{ℕ, List, ◌++◌, length, sym, ap, ◌∙◌, append_assoc}
use Rattle.node_journal.proofs.Headers.{parted}
use Rattle.node_journal.proofs.reading.header_of.Goals as goal

pub returns-clause-some : goal.returns-clause-some
returns-clause-some c =
    let device = c.new.ensures ∙ c.digest_of.ensures in
    let front = c.split_at.ensures in
    let back = c.split_at-2.ensures in
    let whole = parted 32 c.args.after.now c.split_at.result.0.now c.split_at.result.1.now front.front front.back in
    let rest = parted 32 c.split_at.result.1.now c.split_at-2.result.0.now c.split_at-2.result.1.now back.front back.back in (
      record { device = ap length device ∙ front.front_len; state_digest = ap length c.digest_of-2.ensures ∙ back.front_len },
      (
        c.split_at-2.result.1.now,
        whole ∙ ap (λ (l : List ℕ). c.split_at.result.0.now ++ l) rest ∙ sym (append_assoc c.split_at.result.0.now c.split_at-2.result.0.now c.split_at-2.result.1.now)
            ∙ λ i. sym device i ++ sym c.digest_of-2.ensures i ++ c.split_at-2.result.1.now,
      ),
    )
