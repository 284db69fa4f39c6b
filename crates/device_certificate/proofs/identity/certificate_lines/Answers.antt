use Rattle.std.proofs.Common.{sym, ◌∙◌, ap, not}
use Rattle.std.specs.List.{list_any, after_first}
use Rattle.device_certificate.specs.Lines.{is_line, lines, lines_left}
use Rattle.device_certificate.specs.Certificate.{begin_line, end_line}
use Rattle.device_certificate.proofs.Firsts.{count_none, count_one, count_two}
use Rattle.device_certificate.proofs.Found.{any_is_some}
use Rattle.device_certificate.proofs.identity.certificate_lines.Goals as goal

pub returns-in_default-clause-fault : goal.returns-in_default-clause-fault
returns-in_default-clause-fault c =
    let p = is_line begin_line in
    count_none p (lines c.args.text.now) (ap (list_any p) (sym c.new.ensures) ∙ c.in_default.ensures)

pub returns-then-is_some-clause-fault : goal.returns-then-is_some-clause-fault
returns-then-is_some-clause-fault c =
    let p = is_line begin_line in
    let rest = lines_left c.in-Some.lines in
    let more = any_is_some begin_line rest c.after-2.result c.after-2.ensures ∙ (sym c.is_some.ensures ∙ c.if-is_some.true) in
    count_two p (lines c.args.text.now) rest (ap (list_any p) (sym c.new.ensures) ∙ c.in-Some.ensures.0)
    (c.in-Some.ensures.1 ∙ ap (after_first p) c.new.ensures) more

pub returns-then-is_none-clause-fault : goal.returns-then-is_none-clause-fault
returns-then-is_none-clause-fault c =
    let p = is_line begin_line in
    let rest = lines_left c.in-Some.lines in
    let is_rest = c.in-Some.ensures.1 ∙ ap (after_first p) c.new.ensures in
    let no_more = any_is_some begin_line rest c.after-2.result c.after-2.ensures ∙ (sym c.is_some.ensures ∙ c.if-is_some.false) in
    let no_end = any_is_some end_line rest c.after-3.result c.after-3.ensures ∙ (c.is_none.ensures ∙ ap not c.if-is_none.true) in (
      count_one p (lines c.args.text.now) rest (ap (list_any p) (sym c.new.ensures) ∙ c.in-Some.ensures.0) is_rest no_more,
      ap (list_any (is_line end_line)) (sym is_rest) ∙ no_end,
    )

pub returns-clause-value : goal.returns-clause-value
returns-clause-value c =
    let p = is_line begin_line in
    let rest = lines_left c.in-Some.lines in
    let is_rest = c.in-Some.ensures.1 ∙ ap (after_first p) c.new.ensures in
    let no_more = any_is_some begin_line rest c.after-2.result c.after-2.ensures ∙ (sym c.is_some.ensures ∙ c.if-is_some.false) in
    let ended = any_is_some end_line rest c.after-3.result c.after-3.ensures ∙ (c.is_none.ensures ∙ ap not c.if-is_none.false) in (
      (
        count_one p (lines c.args.text.now) rest (ap (list_any p) (sym c.new.ensures) ∙ c.in-Some.ensures.0) is_rest no_more,
        ap (list_any (is_line end_line)) (sym is_rest) ∙ ended,
      ),
      is_rest,
    )
