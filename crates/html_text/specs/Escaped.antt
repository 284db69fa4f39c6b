-- The text that a piece of an HTML page is read as, between tags and in an attribute within quotes. Both are their bytes in UTF-8.
use Rattle.std.specs.Prelude.{◌≢◌, ℕ, List, [], ◌∷◌, ◌++◌, codes}

-- none of `"` (34), `&` (38), `'` (39), `<` (60) and `>` (62)
abbrev pub IsPlain : ℕ → Type 0
IsPlain b = (b ≢ 34) × (b ≢ 38) × (b ≢ 39) × (b ≢ 60) × (b ≢ 62)

-- The piece shows the text: nothing shows nothing, a plain byte shows itself, and each of five character references shows the
-- character that it stands for.
pub data Shows : List ℕ → List ℕ → Type 0 where
  nothing : Shows [] []
  plain : (b : ℕ) (piece text : List ℕ) → IsPlain b → Shows piece text → Shows (b ∷ piece) (b ∷ text)
  quot : (piece text : List ℕ) → Shows piece text → Shows (codes "&quot;" ++ piece) (codes "\"" ++ text)
  amp : (piece text : List ℕ) → Shows piece text → Shows (codes "&amp;" ++ piece) (codes "&" ++ text)
  apostrophe : (piece text : List ℕ) → Shows piece text → Shows (codes "&#39;" ++ piece) (codes "'" ++ text)
  lt : (piece text : List ℕ) → Shows piece text → Shows (codes "&lt;" ++ piece) (codes "<" ++ text)
  gt : (piece text : List ℕ) → Shows piece text → Shows (codes "&gt;" ++ piece) (codes ">" ++ text)
