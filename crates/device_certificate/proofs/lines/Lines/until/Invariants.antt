use Rattle.std.proofs.Common.{◌≡◌, ◌++◌}
use Rattle.std.specs.List.{before_first, concat}
use Rattle.device_certificate.specs.Lines.{is_line, lines_left}
use Rattle.device_certificate.proofs.lines.Lines.until.Given as goal

abbrev pub invariant-loop-line : goal.invariant-loop-line
invariant-loop-line l =
    l.found.items ++ concat (before_first (is_line l.wanted) (lines_left l.line-iterator)) ≡ concat (before_first (is_line l.wanted) (lines_left l.fn.self))
