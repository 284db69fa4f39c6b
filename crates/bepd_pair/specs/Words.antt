-- Words and numbers of a line (own rule).
use Rattle.std.specs.Prelude.{◌≡◌, ◌≢◌, ◌⊎◌, ℕ, ◌≤◌, ℤ, pos, negsuc, List, ◌∷◌, ◌++◌, EachIndex, slice_index, codes}
use Rattle.std.specs.Str.Parse.{IsNumeral, digits_value}

abbrev pub Text : Type 0
Text = List ℕ

-- no byte of the text is a space (32)
abbrev pub IsWord : Text → Type 0
IsWord text = EachIndex text (λ i. slice_index text i ≢ 32)

-- a word, one space, and what follows
abbrev pub spaced : Text → Text → Text
spaced word rest = word ++ 32 ∷ rest

-- the word is a number in plain digits, of which the first may be 0
abbrev pub IsDecimal : Text → ℕ → Type 0
IsDecimal word n = IsNumeral 10 word × (digits_value 10 word ≡ n)

-- the word is -1, or a number of at most 1,000
abbrev pub IsLimit : Text → ℤ → Type 0
IsLimit word most = ((word ≡ codes "-1") × (most ≡ negsuc 0)) ⊎ ((n : ℕ) × IsDecimal word n × (n ≤ 1000) × (most ≡ pos n))
