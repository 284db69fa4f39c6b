use Rattle.std.proofs.Common.{◌++◌, sym, ◌∙◌, append_assoc, ap}
use Rattle.std.specs.List.{before_first, concat}
use Rattle.device_certificate.specs.Lines.{is_line, lines_left}
use Rattle.device_certificate.proofs.Firsts.{before_no}
use Rattle.device_certificate.proofs.lines.Lines.until.Goals as goal

pub loop-line-preserved : goal.loop-line-preserved
loop-line-preserved c =
    let p = is_line c.args.wanted.now in
    let line = c.in-Some.line.now in
    let rest = lines_left c.next.new.self in
    let found = c.loop-line.found.items in
    ap (λ l. l ++ concat (before_first p rest)) c.in_ok-extend_from_slice.ensures.items
    ∙ (append_assoc found line (concat (before_first p rest))
    ∙ (ap (λ l. found ++ concat l) (sym (before_no p line rest (sym c.eq.ensures ∙ c.if-eq.false)))
    ∙ (ap (λ l. found ++ concat (before_first p l)) (sym c.in-Some.ensures.steps) ∙ c.loop-line.invariant)))
