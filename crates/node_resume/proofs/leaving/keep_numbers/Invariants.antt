use Rattle.std.proofs.Common.{◌≡◌, length, take}
use Rattle.std.specs.List.{zip}
use Rattle.node_resume.proofs.KeptNumbers.{keep, picked}
use Rattle.node_resume.proofs.leaving.keep_numbers.Given as goal

abbrev pub invariant-loop-share : goal.invariant-loop-share
invariant-loop-share l = l.indexes ≡ keep l.fn.indexes (picked l.place l.device (take (length l.yielded) (zip l.shares l.kept)))
