use Rattle.std.proofs.Common.{refl, subst, rules}
use Rattle.std.specs.Prelude.{AllPairs, ◌≢◌, ◌↔◌, IsTrue, filter}
use Rattle.folder_core.specs.PlainReads.{is_from}
use Rattle.folder_core.proofs.PlainRestore.{distinct-numbered, found-none, none-found, none-numbered}
use Rattle.folder_core.proofs.plain.restore.are_numbered.Goals as goal

pub returns-then-is_none-clause-numbered : goal.returns-then-is_none-clause-numbered
returns-then-is_none-clause-numbered c = (
  λ t. none-numbered c.args.last _ (none-found (is_from c.args.device) c.args.entries.now (search rules)),
  λ h. refl,
)

pub returns-in_err-sequences-clause-none : goal.returns-in_err-sequences-clause-none
returns-in_err-sequences-clause-none c = λ none.
    let found = found-none (is_from c.args.device) c.args.entries.now none in
    search rules

pub returns-clause-numbered : goal.returns-clause-numbered
returns-clause-numbered c =
    distinct-numbered c.args.last (filter (is_from c.args.device) c.args.entries.now) c.are_distinct.result (search rules)
    (subst (λ ns. IsTrue c.are_distinct.result ↔ AllPairs (λ m n. m ≢ n) ns) c.in_ok-sequences.ensures c.are_distinct.ensures)
