-- A text, its components, its folder and its last component.
use Rattle.std.proofs.Common.{◌≡◌, ◌≢◌, ℕ, zero, suc, ◌+◌, ◌<◌, ◌⊎◌, Bool, false, eqb, List, [], ◌∷◌, ◌++◌, length, get_or, take, drop, refl, sym, ap, ◌∙◌, subst, arith, append_assoc, inl, inr}
use Rattle.std.specs.List.{onto_first, join_with_byte, before_first, position_or_len}
use Rattle.std.proofs.lemmas.Bool.{cases_Bool, cases_eq, ne_eqb}
use Rattle.std.proofs.lemmas.List.{take-append-drop, take_more, drop_more, get_or-drop, length-drop}
use Rattle.std.proofs.lemmas.List.Elements.{All-from_get_or}
use Rattle.std.proofs.lemmas.List.Sums.{fails_before_first}
use Rattle.std.proofs.lemmas.List.Splits.{slice_split-cons_yes, slice_split-cons_no, slice_split_none, slice_split_first, length-slice_split, join_with_byte-slice_split}
use Rattle.sync_names.specs.Components.{components, first_of, last_of, all_but_last, folder_text, folder_of, folder_components, last_component}

abbrev pub is_slash : ℕ → Bool
is_slash b = eqb b 47

-- the byte isn't in the text
abbrev pub HasNo : ℕ → List ℕ → Type 0
HasNo c text = (i : ℕ) → i < length text → get_or text i 0 ≢ c

onto_first-append : (x : ℕ) (ps qs : List (List ℕ)) → 0 < length ps → onto_first x (ps ++ qs) ≡ onto_first x ps ++ qs
onto_first-append x [] qs h = absurd (omega arith)
onto_first-append x (p ∷ ps) qs h = refl

pub components_some : (text : List ℕ) → 0 < length (components text)
components_some text = omega (arith, length-slice_split is_slash text)

pub components-slash : (xs ys : List ℕ) → components (xs ++ 47 ∷ ys) ≡ components xs ++ components ys
components-slash [] ys = refl
components-slash (x ∷ xs) ys =
    elim (cases_Bool (is_slash x)) [
      | inl slash ↦
          slice_split-cons_yes is_slash x (xs ++ 47 ∷ ys) slash ∙ ap (λ (l : List (List ℕ)). [] ∷ l) (components-slash xs ys)
          ∙ ap (λ (l : List (List ℕ)). l ++ components ys) (sym (slice_split-cons_yes is_slash x xs slash))
      | inr other ↦
          slice_split-cons_no is_slash x (xs ++ 47 ∷ ys) other ∙ ap (onto_first x) (components-slash xs ys)
          ∙ onto_first-append x (components xs) (components ys) (components_some xs)
          ∙ ap (λ (l : List (List ℕ)). l ++ components ys) (sym (slice_split-cons_no is_slash x xs other))
    ]

pub components-no_slash : (text : List ℕ) → HasNo 47 text → components text ≡ text ∷ []
components-no_slash text none =
    slice_split_none is_slash text (All-from_get_or (λ b. is_slash b ≡ false) text 0 (λ i h. ne_eqb (get_or text i 0) 47 (none i h)))

pub last_of-push : (ps : List (List ℕ)) (q : List ℕ) → last_of (ps ++ q ∷ []) ≡ q
last_of-push [] q = refl
last_of-push (p ∷ []) q = refl
last_of-push (p ∷ next ∷ ps) q = last_of-push (next ∷ ps) q

pub all_but_last-push : (ps : List (List ℕ)) (q : List ℕ) → all_but_last (ps ++ q ∷ []) ≡ ps
all_but_last-push [] q = refl
all_but_last-push (p ∷ []) q = refl
all_but_last-push (p ∷ next ∷ ps) q = ap (λ (l : List (List ℕ)). p ∷ l) (all_but_last-push (next ∷ ps) q)

pub front_and_last : (ps : List (List ℕ)) → 0 < length ps → ps ≡ all_but_last ps ++ last_of ps ∷ []
front_and_last [] h = absurd (omega arith)
front_and_last (p ∷ []) h = refl
front_and_last (p ∷ next ∷ ps) h = ap (λ (l : List (List ℕ)). p ∷ l) (front_and_last (next ∷ ps) (omega arith))

pub components-front_and_last : (text : List ℕ) → components text ≡ folder_components text ++ last_component text ∷ []
components-front_and_last text = front_and_last (components text) (components_some text)

join-push : (ps : List (List ℕ)) (q : List ℕ) → join_with_byte 47 (ps ++ q ∷ []) ≡ folder_text ps ++ q
join-push [] q = refl
join-push (p ∷ []) q = sym (append_assoc p (47 ∷ []) q)
join-push (p ∷ next ∷ ps) q =
    ap (λ (l : List ℕ). p ++ 47 ∷ l) (join-push (next ∷ ps) q) ∙ sym (append_assoc p (47 ∷ folder_text (next ∷ ps)) q)

-- a text is its folder and its last component
pub folder_and_last : (text : List ℕ) → text ≡ folder_of text ++ last_component text
folder_and_last text =
    sym (join_with_byte-slice_split 47 text) ∙ ap (join_with_byte 47) (components-front_and_last text)
    ∙ join-push (folder_components text) (last_component text)

folder_text-join : (ps : List (List ℕ)) → 0 < length ps → folder_text ps ≡ join_with_byte 47 ps ++ 47 ∷ []
folder_text-join [] h = absurd (omega arith)
folder_text-join (p ∷ []) h = refl
folder_text-join (p ∷ next ∷ ps) h =
    ap (λ (l : List ℕ). p ++ 47 ∷ l) (folder_text-join (next ∷ ps) (omega arith))
    ∙ sym (append_assoc p (47 ∷ join_with_byte 47 (next ∷ ps)) (47 ∷ []))

pub folder_text-components : (text : List ℕ) → folder_text (components text) ≡ text ++ 47 ∷ []
folder_text-components text =
    folder_text-join (components text) (components_some text)
    ∙ ap (λ (l : List ℕ). l ++ 47 ∷ []) (join_with_byte-slice_split 47 text)

-- ---- a text cut at its last slash

pub record CutAt (text front back : List ℕ) : Type 0 where
  pub folder : folder_of text ≡ front
  pub last : last_component text ≡ back

components-last_slash : (xs ys : List ℕ) → HasNo 47 ys → components (xs ++ 47 ∷ ys) ≡ components xs ++ ys ∷ []
components-last_slash xs ys none =
    components-slash xs ys ∙ ap (λ (l : List (List ℕ)). components xs ++ l) (components-no_slash ys none)

pub cut_between : (xs ys : List ℕ) → HasNo 47 ys → CutAt (xs ++ 47 ∷ ys) (xs ++ 47 ∷ []) ys
cut_between xs ys none = record {
  folder = ap (λ (l : List (List ℕ)). folder_text (all_but_last l)) (components-last_slash xs ys none) ∙ ap folder_text (all_but_last-push (components xs) ys) ∙ folder_text-components xs;
  last = ap last_of (components-last_slash xs ys none) ∙ last_of-push (components xs) ys;
}

around : (c : ℕ) (text : List ℕ) (k : ℕ) → k < length text → get_or text k 0 ≡ c → text ≡ take k text ++ c ∷ drop (k + 1) text
around c text k h here =
    sym (take-append-drop k text) ∙ ap (λ (l : List ℕ). take k text ++ l) (drop_more text k 0 h)
    ∙ ap (λ (x : ℕ). take k text ++ x ∷ drop (k + 1) text) here

pub none_after : (c : ℕ) (text : List ℕ) (k : ℕ) → ((i : ℕ) → k < i → i < length text → get_or text i 0 ≢ c) → HasNo c (drop (k + 1) text)
none_after c text k later i h e =
    later (k + 1 + i) (omega arith) (omega (arith, length-drop (k + 1) text)) (sym (get_or-drop (k + 1) text i 0) ∙ e)

-- what `rfind` says of a byte that it found, and of one that it didn't find
pub record IsLastPlace (c : ℕ) (text : List ℕ) (k : ℕ) : Type 0 where
  pub within : k < length text
  pub here : get_or text k 0 ≡ c
  pub later : (i : ℕ) → k < i → i < length text → get_or text i 0 ≢ c

pub cut_at_slash : (text : List ℕ) (k : ℕ) → IsLastPlace 47 text k → CutAt text (take (k + 1) text) (drop (k + 1) text)
cut_at_slash text k place =
    let parts = around 47 text k place.within place.here in
    let cut = cut_between (take k text) (drop (k + 1) text) (none_after 47 text k place.later) in
    record {
      folder = ap folder_of parts ∙ cut.folder ∙ ap (λ (x : ℕ). take k text ++ x ∷ []) (sym place.here) ∙ sym (take_more text k 0 place.within);
      last = ap last_component parts ∙ cut.last;
    }

pub cut_without_slash : (text : List ℕ) → HasNo 47 text → CutAt text [] text
cut_without_slash text none = record {
  folder = ap (λ (l : List (List ℕ)). folder_text (all_but_last l)) (components-no_slash text none);
  last = ap last_of (components-no_slash text none);
}

-- a byte is nowhere in a text, or it has a last place
pub last_place : (c : ℕ) (text : List ℕ) → HasNo c text ⊎ ((k : ℕ) × IsLastPlace c text k)
last_place c [] = inl (λ i h. absurd (omega arith))
last_place c (x ∷ text) =
    elim (last_place c text) [
      | inr later ↦ inr (suc later.0, record { within = omega (arith, later.1.within); here = later.1.here; later = later_on c x text later.0 later.1.later })
      | inl none ↦
          elim (cases_eq x c) [
            | inl here ↦ inr (0, record { within = omega arith; here = here; later = λ i after h. shifted c x text none i after h })
            | inr other ↦ inl (λ i h. nowhere c x text other none i h)
          ]
    ]
  where
    later_on : (c x : ℕ) (text : List ℕ) (k : ℕ) → ((i : ℕ) → k < i → i < length text → get_or text i 0 ≢ c) → (i : ℕ) → suc k < i → i < length (x ∷ text) → get_or (x ∷ text) i 0 ≢ c
    later_on c x text k later zero after h = absurd (omega arith)
    later_on c x text k later (suc i) after h = later i (omega arith) (omega arith)

    shifted : (c x : ℕ) (text : List ℕ) → HasNo c text → (i : ℕ) → 0 < i → i < length (x ∷ text) → get_or (x ∷ text) i 0 ≢ c
    shifted c x text none zero after h = absurd (omega arith)
    shifted c x text none (suc i) after h = none i (omega arith)

    nowhere : (c x : ℕ) (text : List ℕ) → x ≢ c → HasNo c text → (i : ℕ) → i < length (x ∷ text) → get_or (x ∷ text) i 0 ≢ c
    nowhere c x text other none zero h = other
    nowhere c x text other none (suc i) h = none i (omega arith)

pub last_component-no_slash : (text : List ℕ) → HasNo 47 (last_component text)
last_component-no_slash text =
    elim (last_place 47 text) [
      | inl none ↦ subst (HasNo 47) (sym (cut_without_slash text none).last) none
      | inr at ↦ subst (HasNo 47) (sym (cut_at_slash text at.0 at.1).last) (none_after 47 text at.0 at.1.later)
    ]

-- another last component: the folder's components stay
pub components-beside : (text last : List ℕ) → HasNo 47 last → components (folder_of text ++ last) ≡ folder_components text ++ last ∷ []
components-beside text last none =
    elim (last_place 47 text) [
      | inl nowhere ↦
          let alone = components-no_slash text nowhere in
          ap (λ (l : List ℕ). components (l ++ last)) (cut_without_slash text nowhere).folder ∙ components-no_slash last none
          ∙ sym (ap (λ (l : List (List ℕ)). all_but_last l ++ last ∷ []) alone)
      | inr at ↦
          let k = at.0 in
          let parts = around 47 text k at.1.within at.1.here in
          let after = none_after 47 text k at.1.later in
          let begun = ap folder_of parts ∙ (cut_between (take k text) (drop (k + 1) text) after).folder in
          let folder = ap folder_components parts ∙ ap all_but_last (components-last_slash (take k text) (drop (k + 1) text) after) ∙ all_but_last-push (components (take k text)) (drop (k + 1) text) in
          ap (λ (l : List ℕ). components (l ++ last)) begun ∙ ap components (append_assoc (take k text) (47 ∷ []) last)
          ∙ components-last_slash (take k text) last none
          ∙ ap (λ (l : List (List ℕ)). l ++ last ∷ []) (sym folder)
    ]

-- ---- the first component

pub first-before_slash : (text : List ℕ) → position_or_len is_slash text < length text → first_of (components text) ≡ before_first is_slash text
first-before_slash text h = ap first_of (slice_split_first is_slash text 0 h)

pub first-whole : (text : List ℕ) → position_or_len is_slash text ≡ length text → first_of (components text) ≡ text
first-whole text h =
    ap first_of (slice_split_none is_slash text (All-from_get_or (λ b. is_slash b ≡ false) text 0 (λ i low. fails_before_first is_slash text i 0 (omega arith))))
