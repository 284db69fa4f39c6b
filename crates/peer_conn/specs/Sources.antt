-- What comes of a source (own rule).
use Rattle.std.specs.Prelude.{◌≡◌, List, [], ◌∷◌, Option, Some}

module _ {Q T : Type 0} (gives : Q → Option T → Q → Type 0) where
  -- these values came, one after the other
  abbrev pub ComeEach : Q → List T → Q → Type 0
  ComeEach from [] to = to ≡ from
  ComeEach from (x ∷ xs) to = (next : Q) × gives from (Some x) next × ComeEach next xs to
