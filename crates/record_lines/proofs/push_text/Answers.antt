use Rattle.std.proofs.Common.{sym, ◌∙◌}
use Rattle.record_lines.proofs.LineSteps.{plain}
use Rattle.record_lines.proofs.push_text.Goals as goal

pub returns-in_ok-extend_from_slice : goal.returns-in_ok-extend_from_slice
returns-in_ok-extend_from_slice c =
    let none = plain c.as_bytes-bytes.result.now (sym c.has_escapes.ensures ∙ c.if-has_escapes.false) in
    let bytes = c.as_bytes-bytes.ensures.value in
    cc (c.in_ok-extend_from_slice.ensures.items)
