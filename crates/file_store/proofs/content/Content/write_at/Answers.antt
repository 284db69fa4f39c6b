use Rattle.std.proofs.Common.{◌≡◌, ◌≢◌, ◌+◌, ◌-◌, ◌++◌, [], take, drop, length, rules, ◌∙◌}
use Rattle.std.specs.Prelude.{replicate}
use Rattle.file_store.proofs.WriteLemmas.{spliced, written}
use Rattle.file_store.proofs.content.Content.write_at.Goals as goal

pub returns-clause-written : goal.returns-clause-written
returns-clause-written c =
    let old = c.args.self.now in
    let piece = c.args.piece.now in
    let offset = c.args.offset in
    let items = c.grow.new.bytes.items in
    let some : piece ≢ [] = search rules in
    let grown : items ≡ old ++ replicate ((offset + length piece) - length old) 0 = search rules in
    let over : c.overwrite.new.bytes ≡ take offset items ++ piece ++ drop (offset + length piece) items = search rules in
    spliced items c.overwrite.new.bytes c.grow.new.bytes.len (search rules) (search rules) ∙ over ∙ written old items piece offset grown some
