use Rattle.std.proofs.Common.{◌≡◌, ◌++◌, string_bytes, take}
use Rattle.sync_names.specs.Base32.{short_base32}
use Rattle.sync_names.proofs.base32.push_short_base32.Given as goal

abbrev pub invariant-loop-place : goal.invariant-loop-place
invariant-loop-place l = string_bytes l.text ≡ string_bytes l.initial.text ++ take l.place (short_base32 l.number)
