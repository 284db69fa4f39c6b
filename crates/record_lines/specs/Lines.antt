-- How a record is printed (own rule). A text is its bytes in UTF-8.
use Rattle.std.specs.Prelude.{ℕ, Bool, ◌||◌, ◌==◌, nat_lt, if◌then◌else◌, List, [], ◌∷◌, ◌++◌, map, flat_map, codes, decimal}
use Rattle.std.specs.Fmt.{signed_decimal}
use Rattle.std.specs.List.{join_with_byte}
use Rattle.std.specs.Int.{w64, to_be_bytes}
use Rattle.hex.specs.Hex.{encode_lower}
use Rattle.sync_record.specs.declared.kind.Kind.{Kind}
use Rattle.sync_record.specs.declared.kind.Kind.TheVariants.{File, Directory, Other}
use Rattle.sync_record.specs.Records.{Name, FileRecord, kind_of}
use Rattle.sync_version.specs.Versions.{Vector}

abbrev pub live_word : Kind → List ℕ
live_word File = codes "file"
live_word Directory = codes "dir"
live_word Other = codes "other"

abbrev pub kind_word : FileRecord → List ℕ
kind_word r = if r.deleted then codes "gone" else live_word (kind_of r)

-- an id as 16 hexadecimal digits, and its counter
abbrev pub counter_text : ℕ × ℕ → List ℕ
counter_text c = encode_lower (to_be_bytes w64 c.0) ++ codes ":" ++ decimal c.1

-- the counters in rising order of their ids
abbrev pub version_text : Vector → List ℕ
version_text [] = codes "-"
version_text (c ∷ cs) = join_with_byte 44 (map counter_text (c ∷ cs))

-- U+0000 to U+001F, the backslash (92) and U+007F (127); in UTF-8 no other character has these bytes
abbrev pub is_escaped : ℕ → Bool
is_escaped b = nat_lt b 32 || b == 92 || b == 127

abbrev pub escaped : ℕ → List ℕ
escaped b = if is_escaped b then codes "\\x" ++ encode_lower (b ∷ []) else b ∷ []

abbrev pub name_text : Name → List ℕ
name_text name = flat_map escaped name

-- a record in a line
abbrev pub record_text : FileRecord → List ℕ
record_text r =
    kind_word r ++ codes " " ++ signed_decimal r.size ++ codes " " ++ version_text r.version ++ codes " " ++ name_text r.name
