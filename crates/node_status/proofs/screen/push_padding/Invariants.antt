use Rattle.std.proofs.Common.{◌≡◌, ◌++◌, string_bytes, replicate}
use Rattle.node_status.proofs.screen.push_padding.Given as goal

abbrev pub invariant-loop-spaces : goal.invariant-loop-spaces
invariant-loop-spaces l = string_bytes l.text ≡ string_bytes l.initial.text ++ replicate l._spaces 32
