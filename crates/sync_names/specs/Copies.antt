-- Which names are those of conflict copies of a name (own rule).
use Rattle.std.specs.Prelude.{◌≡◌, ℕ, ◌+◌, Bool, bytes_eq, take, drop, ◌&&◌, ◌||◌, ◌==◌, nat_eq, nat_le, IsTrue, List, ◌++◌, length, slice_index, slice_range, codes}
use Rattle.std.specs.List.{list_all, starts_with}
use Rattle.sync_names.specs.Components.{last_component, with_last_component}
use Rattle.sync_names.specs.Extension.{stem_of, extension_of}

abbrev pub is_digit : ℕ → Bool
is_digit b = nat_le 48 b && nat_le b 57

-- `A` to `Z` and `2` to `7` (RFC 4648, section 6)
abbrev pub is_base32_character : ℕ → Bool
is_base32_character b = nat_le 65 b && nat_le b 90 || nat_le 50 b && nat_le b 55

-- sixteen characters: a date of eight digits, `-`, a time of six, and `-`
abbrev pub is_date_and_time : List ℕ → Bool
is_date_and_time text =
    list_all is_digit (slice_range text 0 8) && slice_index text 8 == 45 && list_all is_digit (slice_range text 9 15)
    && slice_index text 15 == 45

-- The part between the stem and the extension, whatever its moment and device: `.sync-conflict-`, the date and the time, and seven
-- characters of base32's alphabet.
abbrev pub is_mark : List ℕ → Bool
is_mark mark =
    nat_eq (length mark) 38 && starts_with nat_eq mark (codes ".sync-conflict-") && is_date_and_time (slice_range mark 15 31)
    && list_all is_base32_character (slice_range mark 31 38)

-- the text is the name with a mark after its first bytes, as many as that
abbrev pub is_marked_at : ℕ → List ℕ → List ℕ → Bool
is_marked_at front name text =
    nat_eq (length text) (length name + 38) && bytes_eq (take front text) (take front name)
    && bytes_eq (drop (front + 38) text) (drop front name) && is_mark (slice_range text front (front + 38))

-- in the same folder, the last component with such a mark before its extension
abbrev pub IsConflictCopy : List ℕ → List ℕ → Type 0
IsConflictCopy name copy =
    (mark : List ℕ) × IsTrue (is_mark mark)
    × (copy ≡ with_last_component name (stem_of (last_component name) ++ mark ++ extension_of (last_component name)))
