use Rattle.std.proofs.Common.{◌≡◌, ◌≤◌, length, take}
use Rattle.device_text.specs.Read.{characters}
use Rattle.device_text.proofs.read.read_characters.Given as goal

abbrev pub invariant-loop-c : goal.invariant-loop-c
invariant-loop-c l = (length l.found ≡ 56) × (l.count ≤ 56) × (take l.count l.found ≡ characters (take l.c-index l.text))
