-- The names that the plain folder finds needed, name by name, are those that the folder needs.
use Rattle.std.proofs.Common.{◌≡◌, ℕ, ◌<◌, Bool, true, false, List, [], ◌∷◌, ◌++◌, length, take, drop, refl, sym, ap, subst, ◌∙◌}
use Rattle.std.specs.Prelude.{bytes_eq, ◌&&◌, cond, not, Option, Some, None, filter, map, option_and_then, option_map, slice_get}
use Rattle.std.specs.Bool.{passes}
use Rattle.std.specs.FinMap.{entries-from_sorted}
use Rattle.std.specs.List.{prefix_len, reduce}
use Rattle.std.specs.Option.{option_to_list}
use Rattle.std.proofs.lemmas.List.{map-append, take-append-drop}
use Rattle.std.proofs.lemmas.List.Elements.{filter-append}
use Rattle.std.proofs.lemmas.Option.{none-some}
use Rattle.sync_record.specs.Devices.{Identity}
use Rattle.sync_record.specs.Records.{Name}
use Rattle.folder_core.specs.declared.announcement.Announcement.{Announcement as Entry}
use Rattle.folder_core.specs.Announced.{KeyedRecord, bests, key_cmp}
use Rattle.folder_core.specs.Codes.{Pulls}
use Rattle.folder_core.specs.Plain.{Rises, better, filed, folder_of, is_undominated}
use Rattle.folder_core.specs.PlainReads.{is_needed_over, needed_names, needed_of, record_from, record_of}
use Rattle.folder_core.specs.Reads.{is_after, need_page}
use Rattle.folder_core.specs.States.{is_needed, need}
use Rattle.folder_core.proofs.ListFilters.{filter_filter, filter_in, filter_map, filter_swap, none_left}
use Rattle.folder_core.proofs.ListTests.{inside, of_filter, same_bytes}
use Rattle.folder_core.proofs.PlainFound.{at_cut, best_is, bests_split, count, first_at, group_front, group_is, named_best, only_of, others_after, rising}
use Rattle.folder_core.proofs.PlainGroup.{bests_in_part, is_named}
use Rattle.folder_core.proofs.PlainOwn.{local_is}

abbrev name_of : KeyedRecord → Name
name_of b = b.0.name

abbrev entry_name : Entry → Name
entry_name e = e.record.name

abbrev is_wanted : Identity → List Entry → KeyedRecord → Bool
is_wanted d es b = is_needed_over (record_of d es b.0.name) b.1

-- ---- the entries of some names alone

module _ (d : Identity) (p : Name → Bool) (es : List Entry) where
  abbrev part : List Entry
  part = filter (λ e. p e.record.name) es

  abbrev of_part : KeyedRecord → Bool
  of_part b = p b.0.name

  same_record : (n : Name) → p n ≡ true → record_of d part n ≡ record_of d es n
  same_record n t = ap (record_from d) (filter_filter (λ e. p e.record.name) (is_named n) (is_named n) es named_part)
    where
      named_part : (e : Entry) → is_named n e ≡ (p e.record.name && is_named n e)
      named_part e =
          elim (is_named n e) as (λ b. is_named n e ≡ b → b ≡ (p e.record.name && b)) [
            | true ↦ λ u. ap (λ b. b && true) (sym (ap p (same_bytes e.record.name n u) ∙ t))
            | false ↦ λ u. sym (none_left (p e.record.name))
          ] refl

  pub needed_part : needed_names d part ≡ filter p (needed_names d es)
  needed_part =
      ap (map name_of)
      (ap (filter (is_wanted d part)) (ap bests (sym (filter_map filed of_part es)) ∙ bests_in_part p (map filed es))
      ∙ filter_in (is_wanted d part) (is_wanted d es) (filter of_part (bests (map filed es))) (λ b i.
      ap (λ r. is_needed_over r b.1) (same_record b.0.name (of_filter of_part (bests (map filed es)) b i).1))
      ∙ filter_swap (is_wanted d es) of_part (bests (map filed es)))
      ∙ sym (filter_map name_of p (filter (is_wanted d es) (bests (map filed es))))

-- ---- name by name

module _ (d : Identity) (es : List Entry) (rises : Rises es) where
  -- where all that pass are before the others
  needed_split : (p : Name → Bool) → es ≡ filter (λ e. p e.record.name) es ++ filter (λ e. not (p e.record.name)) es →
      needed_names d es ≡ needed_names d (filter (λ e. p e.record.name) es) ++ needed_names d (filter (λ e. not (p e.record.name)) es)
  needed_split p split =
      let xs : List KeyedRecord = map filed es in
      ap (λ bs. map name_of (filter (is_wanted d es) bs)) (bests_split es rises p split)
      ∙ ap (map name_of) (filter-append (is_wanted d es) (filter (λ e. p e.0.name) (bests xs)) (filter (λ e. not (p e.0.name)) (bests xs)))
      ∙ map-append name_of (filter (is_wanted d es) (filter (λ e. p e.0.name) (bests xs))) (filter (is_wanted d es) (filter (λ e. not (p e.0.name)) (bests xs)))
      ∙ (λ i. moved p i ++ moved (λ m. not (p m)) i)
    where
      moved : (p : Name → Bool) → map name_of (filter (is_wanted d es) (filter (λ e. p e.0.name) (bests (map filed es)))) ≡ needed_names d (filter (λ e. p e.record.name) es)
      moved p =
          ap (map name_of) (filter_swap (is_wanted d es) (λ e. p e.0.name) (bests (map filed es)))
          ∙ sym (filter_map name_of p (filter (is_wanted d es) (bests (map filed es))))
          ∙ sym (needed_part d p es)

  needed_group : (n : Name) → needed_names d (filter (is_named n) es) ≡ option_to_list (option_map entry_name (needed_of d (filter (is_named n) es)))
  needed_group n =
      ap (λ bs. map name_of (filter (is_wanted d (filter (is_named n) es)) bs))
      (ap bests (sym (group_is n es rises))
      ∙ bests_in_part (λ m. bytes_eq m n) (map filed es)
      ∙ only_of n (bests (map filed es)) (rising es rises)
      ∙ ap option_to_list (best_is n es rises))
      ∙ shown _ refl
    where
      twice : (b : Bool) → b ≡ (b && b)
      twice true = refl
      twice false = refl

      shown : (o : Option Entry) → o ≡ reduce better (filter (is_undominated (filter (is_named n) es)) (filter (is_named n) es)) →
          map name_of (filter (is_wanted d (filter (is_named n) es)) (option_to_list (option_map filed o)))
          ≡ option_to_list (option_map entry_name (option_and_then (λ (b : Entry). cond (is_needed_over (record_from d (filter (is_named n) es)) b.record) (Some b) None) o))
      shown None is = refl
      shown (Some b) is =
          let group : List Entry = filter (is_named n) es in
          let here : b.record.name ≡ n = named_best n es rises b is in
          let alone : filter (is_named b.record.name) group ≡ group =
          ap (λ m. filter (is_named m) group) here ∙ filter_filter (is_named n) (is_named n) (is_named n) es (λ e. twice (is_named n e)) in
          ap (λ (g : List Entry). map name_of (cond (is_needed_over (record_from d g) b.record) (filed b ∷ []) [])) alone
          ∙ elim (is_needed_over (record_from d group) b.record) as (λ t. map name_of (cond t (filed b ∷ []) []) ≡ option_to_list (option_map entry_name (cond t (Some b) None))) [
            | true ↦ refl
            | false ↦ refl
          ]

-- what is needed of the first name of a list, whose entries are the front, and the list after it
pub record IsNeedStep (d : Identity) (rest front back : List Entry) : Type 0 where
  pub listed : needed_names d rest ≡ option_to_list (option_map entry_name (needed_of d front)) ++ needed_names d back
  pub rises : Rises back
  pub shorter : length back < length rest

first_needed : (d : Identity) (e : Entry) (es : List Entry) (rises : Rises (e ∷ es)) →
    needed_names d (e ∷ es) ≡ option_to_list (option_map entry_name (needed_of d (take (count e es rises) (e ∷ es)))) ++ needed_names d (drop (count e es rises) (e ∷ es))
first_needed d e es rises =
    needed_split d (e ∷ es) rises (λ m. bytes_eq m e.record.name)
    (sym (take-append-drop (count e es rises) (e ∷ es)) ∙ (λ i. group_front e es rises i ++ others_after e es rises i))
    ∙ (λ i. (needed_group d (e ∷ es) rises e.record.name ∙ ap (λ g. option_to_list (option_map entry_name (needed_of d g))) (sym (group_front e es rises))) i ++ needed_names d (sym (others_after e es rises) i))

step_at : (d : Identity) (rest : List Entry) (e : Entry) → Rises rest → slice_get rest 0 ≡ Some e → IsNeedStep d rest (take (prefix_len (is_named e.record.name) rest) rest) (drop (prefix_len (is_named e.record.name) rest) rest)
step_at d [] e rises is = absurd (none-some e is)
step_at d (x ∷ xs) e rises is =
    let first = first_at (x ∷ xs) x rises refl in
    subst (λ (y : Entry). IsNeedStep d (x ∷ xs) (take (prefix_len (is_named y.record.name) (x ∷ xs)) (x ∷ xs)) (drop (prefix_len (is_named y.record.name) (x ∷ xs)) (x ∷ xs))) (inside x e is)
    (record { listed = first_needed d x xs rises; rises = first.rises; shorter = first.shorter })

pub need_step : (d : Identity) (rest front back : List Entry) (e : Entry) (n : Name) (k : ℕ) → Rises rest → Some e ≡ slice_get rest 0 →
    n ≡ e.record.name → k ≡ prefix_len (is_named n) rest → front ≡ take k rest → back ≡ drop k rest → IsNeedStep d rest front back
need_step d rest front back e n k rises is named counted front_is back_is =
    at_cut (IsNeedStep d rest) rest front back e n k named counted front_is back_is (step_at d rest e rises (sym is))

-- ---- the folder's need

module _ (me : Identity) (es : List Entry) (last : ℕ) (pulls : Pulls) (rises : Rises es) where
  pub needed_are : needed_names me es ≡ need (folder_of me es last pulls)
  needed_are =
      ap (map name_of)
      (ap (λ xs. filter (is_wanted me es) (bests xs)) (sym (entries-from_sorted key_cmp (map filed es) (passes _ rises)))
      ∙ filter_in (is_wanted me es) (is_needed (folder_of me es last pulls)) _ (λ b i. ap (λ r. is_needed_over r b.1) (local_is me es last pulls rises b.0.name)))

  pub page_is : (after : Option Name) (limit : ℕ) → take limit (needed_names me (filter (λ e. is_after after e.record.name) es)) ≡ need_page (folder_of me es last pulls) after limit
  page_is after limit = ap (take limit) (needed_part me (is_after after) es ∙ ap (filter (is_after after)) needed_are)
