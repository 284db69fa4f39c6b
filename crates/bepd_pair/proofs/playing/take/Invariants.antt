use Rattle.std.proofs.Common.{ℕ, List, ◌++◌, Option, take}
use Rattle.bepd_pair.specs.declared.peers.Peers.{Peers}
use Rattle.bepd_pair.specs.Progress.{HasPlayed}
use Rattle.bepd_pair.proofs.playing.take.Given as goal

-- the whole lines up to this byte were followed
abbrev pub invariant-loop-byte : goal.invariant-loop-byte
invariant-loop-byte g l = (start : Peers) (bytes : List ℕ) (out : Option (List ℕ)) → HasPlayed start bytes l.initial.line l.initial.peers out (g.W.Write.contents l.initial.writer)
    → HasPlayed start (bytes ++ take l.byte-index l.piece) l.line l.peers out (g.W.Write.contents l.writer)
