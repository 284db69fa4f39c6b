use Rattle.std.proofs.Common.{◌≡◌}
use Rattle.peer_asks.proofs.book.AskBook.wait_for.Given as goal

abbrev pub invariant-loop : goal.invariant-loop
invariant-loop g l = record {
  next : (goal.iterator-loop g).can_next l.iterator';
  finite : (goal.iterator-loop g).is_finite l.iterator';
  kept : l.bytes.items ≡ l.fn.bytes.items;
}
