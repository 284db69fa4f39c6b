use Rattle.std.proofs.Common.{ap, ◌∙◌, List, ℕ, ◌++◌, take}
use Rattle.sha2.specs.Sha256.{sha256}
use Rattle.node_journal.specs.Format.{checksum, first_line, header_bytes}
use Rattle.node_journal.proofs.sum.checksum.Goals as goal

pub returns : goal.returns
unfolding checksum
returns c =
    let h = c.args.header.now in
    let one = c.update.ensures _ c.new-hasher.ensures in
    let two = c.update-2.ensures _ one in
    let three = c.update-3.ensures _ two in
    let four = c.update-4.ensures _ three in
    let five = c.update-5.ensures _ four in
    c.first_eight.ensures ∙ ap (take 8) (c.finalize.ensures _ five)
    ∙ ap (λ (l : List ℕ). take 8 (sha256 (first_line ++ l ++ h.state_digest ++ c.to_be_bytes.result ++ c.args.body.now))) c.bytes.ensures
    ∙ ap (λ (l : List ℕ). take 8 (sha256 (header_bytes h ++ l ++ c.args.body.now))) c.to_be_bytes.ensures
