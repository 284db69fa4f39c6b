use Rattle.std.proofs.Common.{◌≡◌, ◌++◌, ◌-◌, ◌≤◌, length, take, vec_len}
use Rattle.folder_core.specs.Plain.{Rises}
use Rattle.folder_core.specs.PlainReads.{needed_names}
use Rattle.folder_core.proofs.plain.need.needed_names.Given as goal

abbrev pub invariant-loop-rest : goal.invariant-loop-rest
invariant-loop-rest l = record {
  page : l.names.items ++ take (l.limit - vec_len l.names) (needed_names l.device l.rest) ≡ take l.limit (needed_names l.device l.fn.entries);
  fits : vec_len l.names ≤ l.limit;
  rises : Rises l.rest;
}

abbrev pub decreases-loop-rest : goal.decreases-loop-rest
decreases-loop-rest l = length l.rest
