use Rattle.std.proofs.Common.{◌≡◌}
use Rattle.std.specs.List.{list_any, after_first}
use Rattle.device_certificate.specs.Lines.{is_line, lines_left}
use Rattle.device_certificate.proofs.lines.Lines.after.Given as goal

abbrev pub invariant-loop-line : goal.invariant-loop-line
invariant-loop-line l =
    (list_any (is_line l.wanted) (lines_left l.lines) ≡ list_any (is_line l.wanted) (lines_left l.fn.self))
    × (after_first (is_line l.wanted) (lines_left l.lines) ≡ after_first (is_line l.wanted) (lines_left l.fn.self))
