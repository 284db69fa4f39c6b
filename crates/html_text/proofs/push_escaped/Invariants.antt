use Rattle.std.proofs.Common.{◌≡◌, ℕ, List, ◌++◌, string_bytes}
use Rattle.html_text.specs.Escaped.{Shows}
use Rattle.html_text.proofs.push_escaped.Given as goal

abbrev pub invariant-loop-char : goal.invariant-loop-char
invariant-loop-char l = record {
  piece : List ℕ;
  text : List ℕ;
  pushed : string_bytes l.page ≡ string_bytes l.initial.page ++ piece;
  shows : Shows piece text;
  divided : l.text ≡ text ++ l.char-iterator.rest.now;
}
