use Rattle.std.proofs.Common.{ap, ◌∙◌, ◌≤◌, ◌≡◌, sym, drop, take, length, arith}
use Rattle.node_journal.specs.Format.{header_bytes}
use Rattle.node_journal.specs.Reading.{front_len, frame_at, number32, sized_at}
use Rattle.node_journal.proofs.Founds.{front-there, ok-same}
use Rattle.node_journal.proofs.found.frame_at.Goals as goal

pub returns-clause-value : goal.returns-clause-value
returns-clause-value c =
    let header = header_bytes c.args.header.now in
    let at = c.args.at in
    let rest = c.split_at.result.1.now in
    let size : c.number32.result ≡ number32 (take 4 rest) = c.number32.ensures ∙ ap number32 c.split_at-2.ensures.front in
    let sum = c.split_at-3.ensures.front ∙ ap (take 8) c.split_at-2.ensures.back in
    let after = c.split_at-3.ensures.back ∙ ap (drop 8) c.split_at-2.ensures.back in
    let there : front_len ≤ length rest = omega arith in
    let is : sized_at header at c.number32.result c.split_at-3.result.0.now c.split_at-3.result.1.now ≡ frame_at header at (drop at c.args.bytes.now)
    = (λ i. sized_at header at (size i) (sum i) (after i)) ∙ sym (front-there header at rest there) ∙ ap (frame_at header at) c.split_at.ensures.back in
    ok-same c.sized_at.result (sized_at header at c.number32.result c.split_at-3.result.0.now c.split_at-3.result.1.now) (frame_at header at (drop at c.args.bytes.now)) is c.sized_at.ensures.value
