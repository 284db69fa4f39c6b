use Rattle.std.proofs.Common.{◌∷◌, [], sym, ◌∙◌, ap, eqb, length, take, drop, ◌-◌, ◌+◌, rules, tests}
use Rattle.std.proofs.lemmas.Iterator.{YieldsList-from_slice}
use Rattle.std.proofs.lemmas.Iterator.Search.{position_from_yields_List}
use Rattle.device_certificate.specs.Lines.{lines}
use Rattle.device_certificate.proofs.FirstLine.{lines_some, lines_none}
use Rattle.device_certificate.proofs.lines.first_line.Goals as goal

pub returns-in-Some : goal.returns-in-Some
returns-in-Some c =
    let first = position_from_yields_List (λ x. eqb x 10) _ _ c.position.result c.position.ensures.ran (YieldsList-from_slice c.args.text.now cc) (λ x b q k. search (rules, tests)) in
    lines_some c.args.text.now c.position.result c.in-Some.end c.in-Some.is first ∙ ap (λ l. l ∷ lines (take (length c.args.text.now - (c.in-Some.end + 1)) (drop (c.in-Some.end + 1) c.args.text.now))) (sym c.trimmed.ensures)

pub returns-in-None : goal.returns-in-None
returns-in-None c =
    let first = position_from_yields_List (λ x. eqb x 10) _ _ c.position.result c.position.ensures.ran (YieldsList-from_slice c.args.text.now cc) (λ x b q k. search (rules, tests)) in
    lines_none c.args.text.now c.position.result c.in-None.is first ∙ ap (λ l. l ∷ []) (sym c.trimmed-in-None.ensures)
