-- The tests as facts, and the first of them that refuses.
use Rattle.std.proofs.Common.{◌≡◌, ◌↔◌, ℕ, ◌<◌, Bool, true, false, eqb, nat_eq, List, [], ◌∷◌, ◌++◌, length, get_or, drop, lit<, Option, Some, None, refl, sym, ap, ◌∙◌, subst, inl, inr}
use Rattle.std.specs.Prelude.{codes, chars, IsUtf8}
use Rattle.std.specs.Bool.{Decides}
use Rattle.std.specs.List.{find, list_any, starts_with, Contains, Any, All}
use Rattle.std.proofs.lemmas.Bool.{cases_Bool, eqb-true, eq-eqb, cond-true, cond-false, false≢true, false_from_ne_true, not_from_false, not_from_true}
use Rattle.std.proofs.lemmas.Bool.Decides.{same_from_decides, Decides-or, Decides-eqb, Decides-like, Decides-not, not_from_Decides}
use Rattle.std.proofs.lemmas.List.Elements.{Contains-get_or, All-nil, All-cons, All-head, All-tail}
use Rattle.std.proofs.lemmas.List.Folds.{find-append, Any-from_list_any, list_any-from_Any, list_any_at}
use Rattle.std.proofs.lemmas.Option.{same_Some, none-some}
use Rattle.std.proofs.lemmas.Slice.Eq.{bytes_eq-Decides, starts_is}
use Rattle.std.specs.Option.{option_or}
use Rattle.unicode_normalization.specs.Forms.{Nfc, IsInForm, is_nfc}
use Rattle.unicode_normalization.proofs.FormsLemmas.{is_in_form-true, is_in_form_from}
use Rattle.sync_names.specs.declared.fault.NameFault.{NameFault}
use Rattle.sync_names.specs.declared.fault.NameFault.TheVariants.{Empty, Absolute, BadComponent, Nul, NotNfc, Internal, OutOfMemory}
use Rattle.sync_names.specs.Components.{components}
use Rattle.sync_names.specs.Internal.{is_internal}
use Rattle.sync_names.specs.Parsing.{IsToldOf}
use Rattle.sync_names.specs.Refusal.{is_bad_component, refuses, shape_tests, tests_in_order, shape_refusal, refusal}
use Rattle.sync_names.specs.Safe.{IsBadComponent, IsAbsolute, Refuses, IsFirstRefusal, IsSafe}
use Rattle.sync_names.proofs.InternalLemmas.{Decides-internal, to_right, to_left}

Decides-bad : (component : List ℕ) → Decides (is_bad_component component) (IsBadComponent component)
Decides-bad component =
    Decides-like _ to_right to_left (Decides-or _ _ (Decides-or _ _ (bytes_eq-Decides component []) (bytes_eq-Decides component (codes "."))) (bytes_eq-Decides component (codes "..")))

pub Decides-nfc : (text : List ℕ) → Decides (is_nfc (chars text)) (IsInForm Nfc (chars text))
Decides-nfc text = (is_in_form-true Nfc (chars text), is_in_form_from Nfc (chars text))

Decides-nul : (text : List ℕ) → Decides (list_any (λ b. eqb b 0) text) (Contains text 0)
Decides-nul text = (
  λ h.
      let some = Any-from_list_any (λ b. eqb b 0) text h in
      let zero_byte : some.1 ≡ 0 = eqb-true some.1 0 some.4 in
      let Here : ℕ → Type 0 = λ y. get_or text some.0 y ≡ y in (some.0, some.2, subst Here zero_byte some.3),
  λ h. list_any_at (λ b. eqb b 0) text h.0 0 h.1 (eq-eqb _ 0 h.2),
)

pub Decides-absolute : (text : List ℕ) → Decides (starts_with nat_eq text (codes "/")) (IsAbsolute text)
Decides-absolute text =
    let begins = starts_is Decides-eqb text (codes "/") (starts_with nat_eq text (codes "/")) refl in
    (λ h. (drop 1 text, begins.0 h), λ h. begins.1 h.0 h.1)

Decides-some_bad : (parts : List (List ℕ)) → Decides (list_any is_bad_component parts) (Any IsBadComponent parts)
Decides-some_bad parts = (
  λ h.
      let some = Any-from_list_any is_bad_component parts h in
      (some.0, some.1, some.2, some.3, (Decides-bad some.1).0 some.4),
  λ some.
      list_any-from_Any is_bad_component parts (some.0, some.1, some.2, some.3, (Decides-bad some.1).1 some.4),
)

pub Decides-refuses : (fault : NameFault) (text : List ℕ) → Decides (refuses fault text) (Refuses fault text)
Decides-refuses Empty text = bytes_eq-Decides text []
Decides-refuses Absolute text = Decides-absolute text
Decides-refuses Nul text = Decides-nul text
Decides-refuses BadComponent text = Decides-some_bad (components text)
Decides-refuses NotNfc text = Decides-not (is_nfc (chars text)) (Decides-nfc text)
Decides-refuses Internal text = Decides-internal text
Decides-refuses OutOfMemory text = (λ h. false≢true h, λ h. absurd h)

-- ---- the first of a list of tests

abbrev IsFirstOf : List NameFault → NameFault → List ℕ → Type 0
IsFirstOf tests fault text =
    (front back : List NameFault) × (tests ≡ front ++ fault ∷ back) × Refuses fault text
    × All (λ earlier. ¬ (Refuses earlier text)) front

find-here : (test : NameFault) (tests : List NameFault) (text : List ℕ) → refuses test text ≡ true → find (λ f. refuses f text) (test ∷ tests) ≡ Some test
find-here test tests text here = cond-true (refuses test text) (Some test) (find (λ f. refuses f text) tests) here

find-later : (test : NameFault) (tests : List NameFault) (text : List ℕ) → refuses test text ≡ false → find (λ f. refuses f text) (test ∷ tests) ≡ find (λ f. refuses f text) tests
find-later test tests text other = cond-false (refuses test text) (Some test) (find (λ f. refuses f text) tests) other

passes : (test : NameFault) (text : List ℕ) → ¬ (Refuses test text) → refuses test text ≡ false
passes test text h = false_from_ne_true (refuses test text) (λ t. h ((Decides-refuses test text).0 t))

find-first : (tests : List NameFault) (fault : NameFault) (text : List ℕ) → find (λ f. refuses f text) tests ≡ Some fault → IsFirstOf tests fault text
find-first [] fault text h = cc
find-first (test ∷ tests) fault text h =
    elim (cases_Bool (refuses test text)) [
      | inl here ↦
          let same = same_Some test fault (sym (find-here test tests text here) ∙ h) in
          let Holds : NameFault → Type 0 = λ f. Refuses f text in
          let holds = subst Holds same ((Decides-refuses test text).0 here) in
          ([], tests, ap (λ (f : NameFault). f ∷ tests) same, holds, All-nil (λ earlier. ¬ (Refuses earlier text)))
      | inr other ↦
          let rest = find-first tests fault text (sym (find-later test tests text other) ∙ h) in
          let not_test = not_from_Decides (refuses test text) (Decides-refuses test text) other in
          (test ∷ rest.0, rest.1, ap (λ (l : List NameFault). test ∷ l) rest.2, rest.3, All-cons (λ earlier. ¬ (Refuses earlier text)) test rest.0 not_test rest.4)
    ]

after_front : (front back : List NameFault) (fault : NameFault) (text : List ℕ) → Refuses fault text → All (λ earlier. ¬ (Refuses earlier text)) front → find (λ f. refuses f text) (front ++ fault ∷ back) ≡ Some fault
after_front [] back fault text holds all = find-here fault back text ((Decides-refuses fault text).1 holds)
after_front (test ∷ front) back fault text holds all =
    find-later test (front ++ fault ∷ back) text (passes test text (All-head (λ earlier. ¬ (Refuses earlier text)) test front all))
    ∙ after_front front back fault text holds (All-tail (λ earlier. ¬ (Refuses earlier text)) test front all)

first-find : (tests : List NameFault) (fault : NameFault) (text : List ℕ) → IsFirstOf tests fault text → find (λ f. refuses f text) tests ≡ Some fault
first-find tests fault text h =
    ap (λ (l : List NameFault). find (λ f. refuses f text) l) h.2 ∙ after_front h.0 h.1 fault text h.3 h.4

find-none : (tests : List NameFault) (text : List ℕ) → find (λ f. refuses f text) tests ≡ None → All (λ f. ¬ (Refuses f text)) tests
find-none [] text h = All-nil (λ f. ¬ (Refuses f text))
find-none (test ∷ tests) text h =
    elim (cases_Bool (refuses test text)) [
      | inl here ↦ absurd (none-some test (sym h ∙ find-here test tests text here))
      | inr other ↦
          All-cons (λ f. ¬ (Refuses f text)) test tests (not_from_Decides (refuses test text) (Decides-refuses test text) other) (find-none tests text (sym (find-later test tests text other) ∙ h))
    ]

pub none-find : (tests : List NameFault) (text : List ℕ) → All (λ f. ¬ (Refuses f text)) tests → find (λ f. refuses f text) tests ≡ None
none-find [] text all = refl
none-find (test ∷ tests) text all =
    find-later test tests text (passes test text (All-head (λ f. ¬ (Refuses f text)) test tests all))
    ∙ none-find tests text (All-tail (λ f. ¬ (Refuses f text)) test tests all)

pub refusal-first : (text : List ℕ) (fault : NameFault) → (refusal text ≡ Some fault) ↔ IsFirstRefusal fault text
unfolding refusal
refusal-first text fault = (find-first tests_in_order fault text, first-find tests_in_order fault text)

-- ---- the two last tests after the first four

pub refusal-shape : (text : List ℕ) (fault : NameFault) → shape_refusal text ≡ Some fault → refusal text ≡ Some fault
unfolding refusal shape_refusal
refusal-shape text fault h =
    find-append (λ f. refuses f text) shape_tests (NotNfc ∷ Internal ∷ [])
    ∙ ap (λ (o : Option NameFault). option_or o (find (λ f. refuses f text) (NotNfc ∷ Internal ∷ []))) h

pub refusal-form : (text : List ℕ) → shape_refusal text ≡ None → refusal text ≡ find (λ f. refuses f text) (NotNfc ∷ Internal ∷ [])
unfolding refusal shape_refusal
refusal-form text h =
    find-append (λ f. refuses f text) shape_tests (NotNfc ∷ Internal ∷ [])
    ∙ ap (λ (o : Option NameFault). option_or o (find (λ f. refuses f text) (NotNfc ∷ Internal ∷ []))) h

pub IsToldOf-refused : (text : List ℕ) (fault : NameFault) → refusal text ≡ Some fault → IsToldOf text fault
IsToldOf-refused text Empty h = h
IsToldOf-refused text Absolute h = h
IsToldOf-refused text BadComponent h = h
IsToldOf-refused text Nul h = h
IsToldOf-refused text NotNfc h = h
IsToldOf-refused text Internal h = h
IsToldOf-refused text OutOfMemory h = tt

-- a refusal by the shape is a text's, and not out of memory
pub shape-memory : (text : List ℕ) (fault : NameFault) → shape_refusal text ≡ Some fault → ¬ (fault ≡ OutOfMemory)
shape-memory text fault h e =
    ((refusal-first text OutOfMemory).0 (refusal-shape text OutOfMemory (h ∙ ap (λ (f : NameFault). Some f) e))).3

-- ---- a text that no test refuses is safe

pub safe_from_none : (text : List ℕ) → IsUtf8 text → refusal text ≡ None → IsSafe text
unfolding refusal
safe_from_none text utf8 h =
    let all = find-none tests_in_order text h in record {
      utf8 = utf8;
      not_empty = all 0 Empty (lit< tt);
      relative = all 1 Empty (lit< tt);
      no_nul = all 2 Empty (lit< tt);
      good_components = λ k d lt bad. let some = Contains-get_or (components text) k d lt in all 3 Empty (lit< tt) (some.0, get_or (components text) k d, some.1, some.2, bad);
      nfc = elim (cases_Bool (is_nfc (chars text))) [
        | inl t ↦ (Decides-nfc text).0 t
        | inr f ↦ absurd (all 4 Empty (lit< tt) (not_from_Decides (is_nfc (chars text)) (Decides-nfc text) f))
      ];
      not_internal = all 5 Empty (lit< tt);
    }

pub none_from_safe : (text : List ℕ) → IsSafe text → refusal text ≡ None
unfolding refusal
none_from_safe text safe =
    let P : NameFault → Type 0 = λ f. ¬ (Refuses f text) in
    let bad : ¬ (Any IsBadComponent (components text)) = λ some. safe.good_components some.0 some.1 some.2 (rw some.3 some.4) in
    none-find tests_in_order text
    (All-cons P Empty (Absolute ∷ Nul ∷ BadComponent ∷ NotNfc ∷ Internal ∷ []) safe.not_empty
    (All-cons P Absolute (Nul ∷ BadComponent ∷ NotNfc ∷ Internal ∷ []) safe.relative
    (All-cons P Nul (BadComponent ∷ NotNfc ∷ Internal ∷ []) safe.no_nul
    (All-cons P BadComponent (NotNfc ∷ Internal ∷ []) bad
    (All-cons P NotNfc (Internal ∷ []) (λ not_nfc. not_nfc safe.nfc) (All-cons P Internal [] safe.not_internal (All-nil P)))))))

-- a text without a refusal by its shape, in the form and not internal
pub refusal-passed : (text : List ℕ) → shape_refusal text ≡ None → is_nfc (chars text) ≡ true → is_internal text ≡ false → refusal text ≡ None
refusal-passed text shape nfc internal =
    refusal-form text shape ∙ find-later NotNfc (Internal ∷ []) text (not_from_true (is_nfc (chars text)) nfc) ∙ find-later Internal [] text internal

pub refusal-not_nfc : (text : List ℕ) → shape_refusal text ≡ None → is_nfc (chars text) ≡ false → refusal text ≡ Some NotNfc
refusal-not_nfc text shape nfc =
    refusal-form text shape ∙ find-here NotNfc (Internal ∷ []) text (not_from_false (is_nfc (chars text)) nfc)

pub refusal-internal : (text : List ℕ) → shape_refusal text ≡ None → is_nfc (chars text) ≡ true → is_internal text ≡ true → refusal text ≡ Some Internal
refusal-internal text shape nfc internal =
    refusal-form text shape ∙ find-later NotNfc (Internal ∷ []) text (not_from_true (is_nfc (chars text)) nfc) ∙ find-here Internal [] text internal

-- what the call of the form's test says, as that test
pub nfc_said : (b : Bool) (text : List ℕ) → ((b ≡ true) ↔ IsInForm Nfc (chars text)) → is_nfc (chars text) ≡ b
nfc_said b text said = same_from_decides (is_nfc (chars text)) b (Decides-nfc text) said

-- what a search for U+0000 says, as the test of that byte
pub nul_said : (text : List ℕ) (r : Bool) → (r ≡ true → (k : ℕ) × (k < length text) × (get_or text k 0 ≡ 0)) × ((k : ℕ) → k < length text → get_or text k 0 ≡ 0 → r ≡ true) → list_any (λ b. eqb b 0) text ≡ r
nul_said text r said =
    same_from_decides (list_any (λ b. eqb b 0) text) r (Decides-nul text) (said.0, λ some. said.1 some.0 some.1 some.2)
