use Rattle.std.proofs.Common.{◌≡◌, ℕ, List, length}
use Rattle.std.specs.Io.KnownBytes.{Consumes}
use Rattle.bepd_pair.specs.Progress.{HasPlayed}
use Rattle.bepd_pair.proofs.playing.follow.Given as goal

-- the whole lines of what was read were followed
abbrev pub invariant-loop : goal.invariant-loop
invariant-loop g l = record {
  bytes : List ℕ;
  taken : Consumes (g.R.Read.remaining l.initial.reader) (g.R.Read.remaining l.reader) bytes;
  played : HasPlayed l.initial.peers bytes l.line l.peers (g.W.Write.contents l.initial.writer) (g.W.Write.contents l.writer);
  buffer : length l.buffer ≡ 65536;
}
