use Rattle.std.proofs.Common.{◌∙◌, sym, lit<}
use Rattle.std.proofs.lemmas.Option.{MatchOption-at_some, MatchOption-at_none}
use Rattle.sync_names.proofs.ComponentLemmas.{IsLastPlace, cut_at_slash, cut_without_slash}
use Rattle.std.proofs.lemmas.Str.Pattern.{rfind_char}
use Rattle.sync_names.proofs.text.split_last_component.Goals as goal

pub returns-in-Some-clause-folder : goal.returns-in-Some-clause-folder
returns-in-Some-clause-folder c =
    let found = MatchOption-at_some _ _ c.in-Some.slash c.in-Some.is (rfind_char 47 c.args.text.now c.rfind.result c.rfind.ensures.cases (lit< tt)) in
    let place : IsLastPlace 47 c.args.text.now c.in-Some.slash = record { within = found.0; here = found.1; later = found.2 } in
    c.split_at.ensures.front ∙ sym (cut_at_slash c.args.text.now c.in-Some.slash place).folder

pub returns-in-Some-clause-last : goal.returns-in-Some-clause-last
returns-in-Some-clause-last c =
    let found = MatchOption-at_some _ _ c.in-Some.slash c.in-Some.is (rfind_char 47 c.args.text.now c.rfind.result c.rfind.ensures.cases (lit< tt)) in
    let place : IsLastPlace 47 c.args.text.now c.in-Some.slash = record { within = found.0; here = found.1; later = found.2 } in
    c.split_at.ensures.back ∙ sym (cut_at_slash c.args.text.now c.in-Some.slash place).last

pub returns-in-None-clause-folder : goal.returns-in-None-clause-folder
returns-in-None-clause-folder c =
    let none = MatchOption-at_none _ _ c.in-None.is (rfind_char 47 c.args.text.now c.rfind.result c.rfind.ensures.cases (lit< tt)) in
    sym (cut_without_slash c.args.text.now none).folder

pub returns-in-None-clause-last : goal.returns-in-None-clause-last
returns-in-None-clause-last c =
    let none = MatchOption-at_none _ _ c.in-None.is (rfind_char 47 c.args.text.now c.rfind.result c.rfind.ensures.cases (lit< tt)) in
    sym (cut_without_slash c.args.text.now none).last
