use Rattle.std.proofs.Common.{ap, sym, ◌∙◌, lit<}
use Rattle.std.specs.Prelude.{bytes_eq, ◌||◌}
use Rattle.std.proofs.lemmas.Option.{MatchOption-at_some, MatchOption-at_none}
use Rattle.std.proofs.lemmas.Str.Pattern.{rfind_char}
use Rattle.file_store.specs.Names.{is_parent}
use Rattle.file_store.proofs.ParentLemmas.{no_parents, last_parent}
use Rattle.file_store.proofs.parents.parent_of.Goals as goal

pub returns-in_err-slash-clause-parents : goal.returns-in_err-slash-clause-parents
returns-in_err-slash-clause-parents c =
    let none = MatchOption-at_none _ _ c.in_err-slash.was (rfind_char 47 c.args.name.now c.rfind.result c.rfind.ensures.cases (lit< tt)) in
    rw c.from_residual.ensures (λ q. no_parents c.args.name.now q none)

pub returns-clause-parents : goal.returns-clause-parents
returns-clause-parents c = λ q.
    let found = MatchOption-at_some _ _ c.in_ok-slash.slash c.in_ok-slash.was (rfind_char 47 c.args.name.now c.rfind.result c.rfind.ensures.cases (lit< tt)) in
    last_parent c.args.name.now q c.in_ok-slash.slash found.0 found.1 found.2
    ∙ ap (λ p. bytes_eq p q || is_parent q p) (sym c.split_at.ensures.front)
