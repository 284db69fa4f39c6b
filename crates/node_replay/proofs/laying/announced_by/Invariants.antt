use Rattle.std.proofs.Common.{◌≡◌, ◌++◌, map, reverse}
use Rattle.node_replay.specs.Laid.{by_me}
use Rattle.node_replay.proofs.laying.announced_by.Given as goal

abbrev pub invariant-loop-own : goal.invariant-loop-own
invariant-loop-own l = record {
  entries : l.entries.items ≡ map (by_me l.me) l.yielded;
  divided : reverse l.fn.told.items ≡ l.yielded ++ l.own-iterator.rest.items;
}
