use Rattle.std.proofs.Common.{◌∙◌, sym, lit<}
use Rattle.std.proofs.lemmas.Option.{MatchOption-at_some, MatchOption-at_none}
use Rattle.std.proofs.lemmas.Str.Pattern.{split_once_first}
use Rattle.sync_names.proofs.ComponentLemmas.{first-before_slash, first-whole}
use Rattle.sync_names.proofs.text.first_component.Goals as goal

pub returns-in-Some : goal.returns-in-Some
returns-in-Some c =
    let found = MatchOption-at_some _ _ _ c.in-Some.is (split_once_first 47 c.args.text.now c.split_once.result c.split_once.ensures.cases (lit< tt)) in
    found.1 ∙ sym (first-before_slash c.args.text.now found.0)

pub returns-in-None : goal.returns-in-None
returns-in-None c =
    let none = MatchOption-at_none _ _ c.in-None.is (split_once_first 47 c.args.text.now c.split_once.result c.split_once.ensures.cases (lit< tt)) in
    sym (first-whole c.args.text.now none)
