use Rattle.std.proofs.Common.{rules, [], lit<, ◌≡◌, true, false, eqb, nat_eq, ◌∙◌}
use Rattle.std.specs.Prelude.{bytes_eq, codes}
use Rattle.std.specs.List.{list_any, starts_with}
use Rattle.sync_names.specs.Components.{components}
use Rattle.sync_names.specs.Refusal.{is_bad_component, shape_refusal}
use Rattle.std.proofs.lemmas.Str.Pattern.{contains_char}
use Rattle.sync_names.proofs.RefusalLemmas.{nul_said}
use Rattle.sync_names.proofs.name.shape_refusal.Goals as goal

pub returns-then-has_bad_component : goal.returns-then-has_bad_component
unfolding shape_refusal
returns-then-has_bad_component c =
    let text = c.args.text.now in
    let empty : bytes_eq text [] ≡ false = search rules in
    let absolute : starts_with nat_eq text (codes "/") ≡ false = search rules in
    let nul : list_any (λ b. eqb b 0) text ≡ false = nul_said text c.contains.result (contains_char 0 text c.contains.result c.contains.ensures.cases (lit< tt)) ∙ c.if-contains.false in
    let bad : list_any is_bad_component (components text) ≡ true = search rules in
    rw (empty, absolute, nul, bad)

pub returns : goal.returns
unfolding shape_refusal
returns c =
    let text = c.args.text.now in
    let empty : bytes_eq text [] ≡ false = search rules in
    let absolute : starts_with nat_eq text (codes "/") ≡ false = search rules in
    let nul : list_any (λ b. eqb b 0) text ≡ false = nul_said text c.contains.result (contains_char 0 text c.contains.result c.contains.ensures.cases (lit< tt)) ∙ c.if-contains.false in
    let bad : list_any is_bad_component (components text) ≡ false = search rules in
    rw (empty, absolute, nul, bad)
