use Rattle.std.proofs.Common.{◌≡◌, rules}
use Rattle.std.specs.Prelude.{Some}
use Rattle.std.specs.List.{position}
use Rattle.peer_asks.specs.Asks.{is_free}
use Rattle.peer_asks.proofs.Opening.{free_at_place}
use Rattle.peer_asks.proofs.table.AskTable.open.Goals as goal

pub returns-clause-free : goal.returns-clause-free
returns-clause-free c =
    let found : position is_free c.args.self.now.states.items ≡ Some c.in-Some.place = search rules in
    free_at_place c.args.self.now.states.items _ c.in-Some.place found (search rules)
