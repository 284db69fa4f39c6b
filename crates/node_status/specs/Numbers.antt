-- Numbers as a person reads them. A text is its bytes in UTF-8.
use Rattle.std.specs.Prelude.{ℕ, zero, suc, ◌+◌, ◌*◌, ◌/◌, ◌%◌, ◌==◌, nat_lt, min, List, [], ◌∷◌, ◌++◌, codes, decimal, if◌then◌else◌}
use Rattle.node_status.specs.declared.status.Progress.{Progress}

abbrev pub three_digits : ℕ → List ℕ
three_digits n = (48 + n / 100) ∷ (48 + n / 10 % 10) ∷ (48 + n % 10) ∷ []

-- in decimal, with a comma before each group of three digits from the right, of so many at most
unfoldable pub grouped : ℕ → ℕ → List ℕ
grouped zero n = decimal n
grouped (suc k) n = if nat_lt n 1000 then decimal n else grouped k (n / 1000) ++ codes "," ++ three_digits (n % 1000)

-- as 1,234,567 (a number below 2 ^ 64 has six commas at most)
abbrev pub number_text : ℕ → List ℕ
number_text n = grouped 6 n

-- a number of things, as "1 file" or "2 files"
abbrev pub count_text : ℕ → List ℕ → List ℕ → List ℕ
count_text n one many = number_text n ++ codes " " ++ (if n == 1 then one else many)

-- whole per cent, 100 at most, and where there is nothing to do
abbrev pub percent : Progress → ℕ
percent p = if p.of == 0 then 100 else min 100 (p.at * 100 / p.of)

-- as "120 of 2,000"
abbrev pub part_text : Progress → List ℕ
part_text p = number_text p.at ++ codes " of " ++ number_text p.of

-- as "120 of 2,000 (6 %)"
abbrev pub progress_text : Progress → List ℕ
progress_text p = part_text p ++ codes " (" ++ number_text (percent p) ++ codes " %)"

-- a number of tenths, as "12.3"
abbrev pub tenths_text : ℕ → List ℕ
tenths_text n = number_text (n / 10) ++ codes "." ++ ((48 + n % 10) ∷ [])

-- a number of bytes, as "999 B", "12.3 kB", "12.3 MB" or "1,234.5 GB", rounded down
abbrev pub bytes_text : ℕ → List ℕ
bytes_text n =
    if nat_lt n 1000 then number_text n ++ codes " B"
    else if nat_lt n 1000000 then tenths_text (n / 100) ++ codes " kB"
    else if nat_lt n 1000000000 then tenths_text (n / 100000) ++ codes " MB"
    else tenths_text (n / 100000000) ++ codes " GB"
