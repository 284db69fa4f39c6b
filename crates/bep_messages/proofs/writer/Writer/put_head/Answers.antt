use Rattle.std.proofs.Common.{◌≡◌, ◌+◌, ◌*◌, ◌-◌, ◌≤◌, ◌++◌, length, take, drop, ap, ◌∙◌, append_assoc, arith}
use Rattle.std.proofs.lemmas.List.{length-drop}
use Rattle.bep_wire.specs.Written.{shortest, bytes_field}
use Rattle.bep_messages.specs.Writing.{Writing}
use Rattle.bep_messages.proofs.Moves.{headed, written_back, as_field}
use Rattle.bep_messages.proofs.writer.Writer.put_head.Goals as goal

pub returns-clause-ok : goal.returns-clause-ok
returns-clause-ok c =
    let items = c.self.inside.bytes.items in
    let start = c.self.inside.start in
    let from = c.args.from in
    let held = drop from (drop start items) in
    let count = length items - (start + from) in
    let head = shortest (8 * c.args.number + 2) ++ shortest count in
    let end : c.len-end.result ≡ length items = omega arith in
    let counted : c.put_varint-2.new.out.items ≡ c.put_varint.new.out.items ++ shortest count = rw end at c.in_ok-put_varint-2.ensures.ok in
    let all : c.put_varint-2.new.out.items ≡ items ++ head = counted ∙ ap (λ l. l ++ shortest count) c.in_ok-put_varint.ensures.ok ∙ append_assoc items _ _ in
    let slice : c.as_mut_slice.result.now ≡ items ++ head = c.as_mut_slice.ensures.value ∙ all in
    let turned = rw (slice, end) at c.to_front.ensures in
    let written : drop start items ≡ c.args.self.now.written = ap (λ (w : Writing). w.written) c.self.view_is in
    let within : start + from ≤ length items = omega (arith, c.requires.place, ap length written, length-drop start items, c.self.invariant) in
    let few : count ≡ length held = omega (arith, length-drop from (drop start items), length-drop start items) in
    let back = written_back c.put_varint-2.new.out.items c.to_front.new.bytes c.put_varint-2.new.out.len (omega (arith, c.to_front.auto.bytes, ap length c.as_mut_slice.ensures.value)) (omega arith) in
    ap (drop start) back ∙ headed items head c.to_front.new.bytes start from within turned ∙ as_field c.args.number count (take from (drop start items)) held few
    ∙ ap (λ l. take from l ++ bytes_field c.args.number (drop from l)) written
