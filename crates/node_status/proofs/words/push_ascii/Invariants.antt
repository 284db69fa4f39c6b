use Rattle.std.proofs.Common.{◌≡◌, ◌++◌, take, map, string_bytes}
use Rattle.node_status.specs.Words.{digit_or_mark}
use Rattle.node_status.proofs.words.push_ascii.Given as goal

abbrev pub invariant-loop-byte : goal.invariant-loop-byte
invariant-loop-byte l = string_bytes l.text ≡ string_bytes l.initial.text ++ map digit_or_mark (take l.byte-index l.bytes)
