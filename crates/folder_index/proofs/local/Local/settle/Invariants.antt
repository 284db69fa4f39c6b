use Rattle.std.proofs.Common.{◌≡◌, length}
use Rattle.folder_index.specs.Locals.{AreKept, all_local}
use Rattle.folder_index.proofs.local.Local.settle.Given as goal

abbrev pub invariant-loop-self : goal.invariant-loop-self
invariant-loop-self l = record {
  kept : AreKept l.self;
  all : all_local l.self ≡ all_local l.initial.self;
  promised : l.self.latest.promised ≡ l.initial.self.latest.promised;
}

abbrev pub decreases-loop-self : goal.decreases-loop-self
decreases-loop-self l = length l.self.latest.records
