use Rattle.std.proofs.Common.{◌≡◌, ℕ, true}
use Rattle.folder_core.proofs.ListTests.{In}
use Rattle.folder_index.specs.Digests.{start_of}
use Rattle.folder_index.specs.Locals.{has_digest}
use Rattle.folder_index.specs.Numbers.{number_of}
use Rattle.folder_index.proofs.local.Local.find.Given as goal

abbrev pub invariant-loop-number : goal.invariant-loop-number
invariant-loop-number l = (q i : ℕ) → has_digest l.self.records l.hash q i ≡ true → In (start_of l.hash, number_of l.self.numbers q, i) l.number-iterator
