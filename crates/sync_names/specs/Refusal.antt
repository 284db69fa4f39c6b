-- Why a text is no safe name: the first of six tests, in their order, that refuses it
-- (own rule; the form NFC by Unicode Standard Annex 15, section 3).
use Rattle.std.specs.Prelude.{ℕ, Bool, false, not, ◌||◌, ◌==◌, nat_eq, List, [], ◌∷◌, Option, bytes_eq, chars, codes}
use Rattle.std.specs.List.{find, list_any, starts_with}
use Rattle.unicode_normalization.specs.Forms.{is_nfc}
use Rattle.sync_names.specs.declared.fault.NameFault.{NameFault}
use Rattle.sync_names.specs.declared.fault.NameFault.TheVariants.{Empty, Absolute, BadComponent, Nul, NotNfc, Internal, OutOfMemory}
use Rattle.sync_names.specs.Components.{components}
use Rattle.sync_names.specs.Internal.{is_internal}

abbrev pub is_bad_component : List ℕ → Bool
is_bad_component component =
    bytes_eq component [] || bytes_eq component (codes ".") || bytes_eq component (codes "..")

-- the test of each refusal
abbrev pub refuses : NameFault → List ℕ → Bool
refuses Empty text = bytes_eq text []
refuses Absolute text = starts_with nat_eq text (codes "/")
refuses Nul text = list_any (λ b. b == 0) text
refuses BadComponent text = list_any is_bad_component (components text)
refuses NotNfc text = not (is_nfc (chars text))
refuses Internal text = is_internal text
refuses OutOfMemory text = false

-- the tests of the shape, which do not allocate
abbrev pub shape_tests : List NameFault
shape_tests = Empty ∷ Absolute ∷ Nul ∷ BadComponent ∷ []

-- all tests, in the order in which they are made
abbrev pub tests_in_order : List NameFault
tests_in_order = Empty ∷ Absolute ∷ Nul ∷ BadComponent ∷ NotNfc ∷ Internal ∷ []

unfoldable pub shape_refusal : List ℕ → Option NameFault
shape_refusal text = find (λ fault. refuses fault text) shape_tests

unfoldable pub refusal : List ℕ → Option NameFault
refusal text = find (λ fault. refuses fault text) tests_in_order
