use Rattle.std.proofs.Common.{◌≡◌, ◌++◌, string_bytes}
use Rattle.std.specs.Str.{IsUtf8}
use Rattle.node_status.specs.Screen.{shown_text}
use Rattle.node_status.proofs.screen.push_shown.Given as goal

abbrev pub invariant-loop-char : goal.invariant-loop-char
invariant-loop-char l = record {
  is_text : IsUtf8 l.char-iterator.rest.now;
  pushed : string_bytes l.text ++ shown_text l.char-iterator.rest.now ≡ string_bytes l.initial.text ++ shown_text l.shown;
}
