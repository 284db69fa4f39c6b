-- A safe name, and each refusal's condition, as facts (own rule; the form NFC by Unicode Standard Annex 15, section 3).
use Rattle.std.specs.Prelude.{◌≡◌, ◌≢◌, ◌⊎◌, ℕ, List, [], ◌∷◌, ◌++◌, All, Any, Contains, IsUtf8, chars, codes}
use Rattle.unicode_normalization.specs.Forms.{Nfc, IsInForm}
use Rattle.sync_names.specs.declared.fault.NameFault.{NameFault}
use Rattle.sync_names.specs.declared.fault.NameFault.TheVariants.{Empty, Absolute, BadComponent, Nul, NotNfc, Internal, OutOfMemory}
use Rattle.sync_names.specs.Components.{components}
use Rattle.sync_names.specs.Internal.{IsInternal}
use Rattle.sync_names.specs.Refusal.{tests_in_order}

abbrev pub IsAbsolute : List ℕ → Type 0
IsAbsolute text = (rest : List ℕ) × (text ≡ codes "/" ++ rest)

abbrev pub IsBadComponent : List ℕ → Type 0
IsBadComponent component = (component ≡ []) ⊎ (component ≡ codes ".") ⊎ (component ≡ codes "..")

-- the condition of each refusal
abbrev pub Refuses : NameFault → List ℕ → Type 0
Refuses Empty text = text ≡ []
Refuses Absolute text = IsAbsolute text
Refuses Nul text = Contains text 0
Refuses BadComponent text = Any IsBadComponent (components text)
Refuses NotNfc text = ¬ (IsInForm Nfc (chars text))
Refuses Internal text = IsInternal text
Refuses OutOfMemory text = ⊥

-- the refusal's condition holds, and no condition that is tested earlier
abbrev pub IsFirstRefusal : NameFault → List ℕ → Type 0
IsFirstRefusal fault text =
    (front back : List NameFault) × (tests_in_order ≡ front ++ fault ∷ back) × Refuses fault text
    × All (λ earlier. ¬ (Refuses earlier text)) front

-- what a text must be to name something below a folder
pub record IsSafe (text : List ℕ) : Type 0 where
  pub utf8 : IsUtf8 text
  pub not_empty : text ≢ []
  pub relative : ¬ (IsAbsolute text)
  pub no_nul : ¬ (Contains text 0)
  pub good_components : All (λ component. ¬ (IsBadComponent component)) (components text)
  pub nfc : IsInForm Nfc (chars text)
  pub not_internal : ¬ (IsInternal text)
