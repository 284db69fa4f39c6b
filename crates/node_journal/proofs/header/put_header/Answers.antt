use Rattle.std.proofs.Common.{ap, ◌∙◌, List, ℕ, ◌++◌}
use Rattle.node_journal.specs.Format.{first_line}
use Rattle.node_journal.proofs.Pieces.{three}
use Rattle.node_journal.proofs.header.put_header.Goals as goal

pub returns-clause-ok : goal.returns-clause-ok
returns-clause-ok c =
    let old = c.args.out.now.items in
    let one = c.extend_from_slice.new.self.items in
    three c.extend_from_slice-3.result old first_line c.args.header.now.device c.args.header.now.state_digest one c.extend_from_slice-2.new.self.items c.extend_from_slice-3.new.self.items
    c.in_ok-extend_from_slice.ensures.items (c.in_ok-extend_from_slice-2.ensures.items ∙ ap (λ (l : List ℕ). one ++ l) c.bytes-device.ensures) c.extend_from_slice-3.ensures.items
