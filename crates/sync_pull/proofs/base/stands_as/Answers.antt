use Rattle.std.proofs.Common.{rules, ◌≡◌, ap, sym, ◌∙◌}
use Rattle.std.specs.Prelude.{Some, option_copied}
use Rattle.file_store.specs.Trees.{Tree}
use Rattle.sync_pull.proofs.StandingLemmas.{of-kept, said-file}
use Rattle.file_store.specs.Sequences.{called, not_called}
use Rattle.sync_pull.proofs.base.stands_as.Goals as goal

pub returns-in-File-File-clause-exact : goal.returns-in-File-File-clause-exact
returns-in-File-File-clause-exact g c = λ keeps.
    let there = (g.S.FileStore.tree c.args.store.now).names c.args.name.now in
    let said = said-file there c.in-File-File.size c.in-File-File.field-1-1 (sym (c.in_ok-there.ensures.stats keeps).value ∙ c.in-File-File.is-1) in
    let kept = ap (λ (t : Tree). t.names c.args.name.now) (c.in_ok-there.ensures.stats keeps).kept in
    let base : option_copied c.args.base ≡ Some c.in-Some.base.now = ap option_copied c.in-Some.is in
    of-kept c.in-Some.base.now (option_copied c.args.base) there _ c.in-File-File.size said.0 c.in-File-File.field-1-1 (sym c.if-is_deleted.ensures)
    (sym c.kind.ensures ∙ c.in-File-File.is-0) said.1 said.2 base kept c.is_file_of.result (c.is_file_of.ensures.exact keeps)

pub returns-in_err-there-clause-looks : goal.returns-in_err-there-clause-looks
returns-in_err-there-clause-looks g c = called _ _ _ _ not_called tt c.in_err-there.ensures.gives

pub returns-in_default-clause-looks : goal.returns-in_default-clause-looks
returns-in_default-clause-looks g c = called _ _ _ _ not_called tt c.in_ok-there.ensures.gives

pub returns-then-is_deleted-clause-looks : goal.returns-then-is_deleted-clause-looks
returns-then-is_deleted-clause-looks g c = called _ _ _ _ not_called tt c.in_ok-there.ensures.gives

pub returns-in-Directory-Directory-clause-looks : goal.returns-in-Directory-Directory-clause-looks
returns-in-Directory-Directory-clause-looks g c = called _ _ _ _ not_called tt c.in_ok-there.ensures.gives

pub returns-in_default-2-3-clause-looks : goal.returns-in_default-2-3-clause-looks
returns-in_default-2-3-clause-looks g c = called _ _ _ _ not_called tt c.in_ok-there.ensures.gives

pub returns-in_default-2 : goal.returns-in_default-2
returns-in_default-2 g c = record {
  exact = search rules;
  told = search rules;
  looks = called _ _ _ _ not_called tt c.in_ok-there.ensures.gives;
  kept = search rules;
  refusals = tt;
  counted = search rules;
  tree = search rules;
}

pub returns-in_default-2-2 : goal.returns-in_default-2-2
returns-in_default-2-2 g c = record {
  exact = search rules;
  told = search rules;
  looks = called _ _ _ _ not_called tt c.in_ok-there.ensures.gives;
  kept = search rules;
  refusals = tt;
  counted = search rules;
  tree = search rules;
}
