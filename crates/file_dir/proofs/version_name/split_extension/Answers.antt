use Rattle.std.proofs.Common.{◌∙◌, sym, lit<}
use Rattle.std.proofs.lemmas.Option.{MatchOption-at_some, MatchOption-at_none}
use Rattle.sync_names.proofs.ComponentLemmas.{IsLastPlace}
use Rattle.sync_names.proofs.ExtensionLemmas.{cut_at_dot, cut_without_dot}
use Rattle.std.proofs.lemmas.Str.Pattern.{rfind_char}
use Rattle.file_dir.proofs.version_name.split_extension.Goals as goal

pub returns-in-Some-clause-stem : goal.returns-in-Some-clause-stem
returns-in-Some-clause-stem c =
    let found = MatchOption-at_some _ _ c.in-Some.dot c.in-Some.is (rfind_char 46 c.args.component.now c.rfind.result c.rfind.ensures.cases (lit< tt)) in
    let place : IsLastPlace 46 c.args.component.now c.in-Some.dot = record { within = found.0; here = found.1; later = found.2 } in
    c.split_at.ensures.front ∙ sym (cut_at_dot c.args.component.now c.in-Some.dot place).stem

pub returns-in-Some-clause-extension : goal.returns-in-Some-clause-extension
returns-in-Some-clause-extension c =
    let found = MatchOption-at_some _ _ c.in-Some.dot c.in-Some.is (rfind_char 46 c.args.component.now c.rfind.result c.rfind.ensures.cases (lit< tt)) in
    let place : IsLastPlace 46 c.args.component.now c.in-Some.dot = record { within = found.0; here = found.1; later = found.2 } in
    c.split_at.ensures.back ∙ sym (cut_at_dot c.args.component.now c.in-Some.dot place).extension

pub returns-in-None-clause-stem : goal.returns-in-None-clause-stem
returns-in-None-clause-stem c =
    let none = MatchOption-at_none _ _ c.in-None.is (rfind_char 46 c.args.component.now c.rfind.result c.rfind.ensures.cases (lit< tt)) in
    sym (cut_without_dot c.args.component.now none).stem

pub returns-in-None-clause-extension : goal.returns-in-None-clause-extension
returns-in-None-clause-extension c =
    let none = MatchOption-at_none _ _ c.in-None.is (rfind_char 46 c.args.component.now c.rfind.result c.rfind.ensures.cases (lit< tt)) in
    sym (cut_without_dot c.args.component.now none).extension
