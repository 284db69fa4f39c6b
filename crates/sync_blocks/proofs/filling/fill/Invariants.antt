-- What was filled is what was consumed.
use Rattle.std.proofs.Common.{◌≡◌, ◌≤◌, take, length}
use Rattle.std.specs.Io.KnownBytes.{Consumes}
use Rattle.sync_blocks.proofs.filling.fill.Given as goal

abbrev pub invariant-loop : goal.invariant-loop
invariant-loop g l = record {
  len : length l.buffer ≡ length l.initial.buffer;
  within : l.filled ≤ length l.buffer;
  bytes : Consumes (g.R.Read.remaining l.initial.reader) (g.R.Read.remaining l.reader) (take l.filled l.buffer);
}
