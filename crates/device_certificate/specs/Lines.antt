-- The lines of a PEM file's text (RFC 7468, section 3): line feeds divide them, and blanks at a line's end don't count.
use Rattle.std.specs.Prelude.{ℕ, ◌-◌, nat_eq, Bool, ◌||◌, List, [], map, take, length, Option, Some, None}
use Rattle.std.specs.Borrow.{Bor}
use Rattle.std.specs.List.{slice_split, suffix_len}
use Rattle.std.specs.Str.{bytes_eq}
use Rattle.device_certificate.specs.declared.lines.Lines.{Lines}

-- a blank (32), a tab (9) or a carriage return (13): WSP, and CR of an end of line CRLF (RFC 7468, section 3)
abbrev pub is_blank : ℕ → Bool
is_blank c = nat_eq c 32 || nat_eq c 9 || nat_eq c 13

-- a line without the blanks at its end (RFC 7468, section 3: *WSP before the end of line)
abbrev pub trimmed : List ℕ → List ℕ
trimmed line = take (length line - suffix_len is_blank line) line

-- what stands between line feeds (10); a carriage return alone ends no line (own rule)
abbrev pub lines : List ℕ → List (List ℕ)
lines text = map trimmed (slice_split (λ c. nat_eq c 10) text)

-- the line is the wanted one, byte for byte
abbrev pub is_line : List ℕ → List ℕ → Bool
is_line wanted line = bytes_eq line wanted

-- the lines of a text that is left, or none
abbrev pub lines_of : Option (Bor (List ℕ)) → List (List ℕ)
lines_of None = []
lines_of (Some text) = lines text.now

-- the lines that an iterator has left
abbrev pub lines_left : Lines → List (List ℕ)
lines_left l = lines_of l.text
