-- Rows as they are shown on a terminal.
use Rattle.std.specs.Prelude.{ℕ, ◌+◌, ◌-◌, ◌/◌, ◌%◌, ◌==◌, ◌||◌, ◌&&◌, not, nat_lt, Bool, List, [], ◌∷◌, ◌++◌, length, flat_map, replicate, chars, encode_utf8, codes, if◌then◌else◌}
use Rattle.node_status.specs.declared.rows.Mark.{Mark}
use Rattle.node_status.specs.declared.rows.Mark.TheVariants.{Title, Heading, Good, Busy, Bad, Note, Trouble}
use Rattle.node_status.specs.Rows.{ShownRow}

-- a control character (U+0000 to U+001F, and U+007F to U+009F) or the backslash (92)
abbrev pub is_escaped : ℕ → Bool
is_escaped c = nat_lt c 32 || c == 92 || not (nat_lt c 127) && nat_lt c 160

-- a digit in base 16, in lower case
abbrev pub hex_digit : ℕ → ℕ
hex_digit n = if nat_lt n 10 then 48 + n else 87 + n

-- a control or the backslash as `\x` and two digits
abbrev pub code_text : ℕ → List ℕ
code_text c = codes "\\x" ++ (hex_digit (c / 16) ∷ hex_digit (c % 16) ∷ [])

-- and any other character as it is
abbrev pub escaped : ℕ → List ℕ
escaped c = if is_escaped c then code_text c else encode_utf8 c

-- a text, character by character
abbrev pub shown_text : List ℕ → List ℕ
shown_text text = flat_map escaped (chars text)

-- spaces after a name that has fewer bytes than 14
abbrev pub padding : List ℕ → List ℕ
padding name = replicate (14 - length name) 32

abbrev pub named_text : ShownRow → List ℕ
named_text r = shown_text r.name ++ padding r.name ++ codes " " ++ shown_text r.words ++ codes "\n"

abbrev pub marked_text : Mark → ShownRow → List ℕ
marked_text Title r = shown_text r.name ++ codes ", " ++ shown_text r.words ++ codes "\n"
marked_text Heading r = codes "\n" ++ shown_text r.name ++ codes "\n"
marked_text Good r = named_text r
marked_text Busy r = named_text r
marked_text Bad r = named_text r
marked_text Note r = codes "  " ++ shown_text r.words ++ codes "\n"
marked_text Trouble r = codes "! " ++ shown_text r.words ++ codes "\n"

abbrev pub row_text : ShownRow → List ℕ
row_text r = marked_text r.mark r

abbrev pub screen_text : List ShownRow → List ℕ
screen_text rows = flat_map row_text rows
