-- What the plain folder finds of one device is what the folder has of it.
use Rattle.std.proofs.Common.{◌≡◌, ℕ, Bool, true, false, List, [], ◌∷◌, refl, sym, ap, ◌∙◌}
use Rattle.std.specs.Prelude.{◌&&◌, cond, max, fold, Option, Some, filter, map, option_map}
use Rattle.std.specs.Bool.{passes}
use Rattle.std.specs.Cmp.{Equal-is, tied_itself}
use Rattle.std.specs.FinMap.{entries, entries-from_sorted, get-from_sorted, find}
use Rattle.std.specs.List.{find as first_where}
use Rattle.std.specs.Ordering.{eq_by_cmp, is_eq}
use Rattle.std.proofs.lemmas.Bool.{and_from, and_parts}
use Rattle.sync_record.specs.Devices.{Identity}
use Rattle.sync_record.specs.Records.{Name}
use Rattle.folder_core.specs.declared.announcement.Announcement.{Announcement as Entry}
use Rattle.folder_core.specs.Announced.{is_by, key, key_cmp}
use Rattle.folder_core.specs.Codes.{Pulls}
use Rattle.folder_core.specs.Plain.{Rises, filed, folder_of}
use Rattle.folder_core.specs.PlainReads.{greatest_sequence, is_from, record_from, records_from}
use Rattle.folder_core.specs.Reads.{locals}
use Rattle.folder_core.specs.States.{local}
use Rattle.folder_core.proofs.ListFilters.{filter_map, find_filter}
use Rattle.folder_core.proofs.ListTests.{alike_bytes, same_bytes}
use Rattle.folder_core.proofs.Orders.{exact_keys, keys_total}
use Rattle.folder_core.proofs.PlainGroup.{is_named}

pub same_tests : (a b : Bool) → (a ≡ true → b ≡ true) → (b ≡ true → a ≡ true) → a ≡ b
same_tests true b f g = sym (f refl)
same_tests false true f g = g refl
same_tests false false f g = refl

-- ---- the record of a name

is_key : (n : Name) (d : Identity) (e : Entry) → eq_by_cmp key_cmp (key n d) (filed e).0 ≡ (is_named n e && is_from d e)
is_key n d e = same_tests _ _ there back
  where
    there : eq_by_cmp key_cmp (key n d) (filed e).0 ≡ true → (is_named n e && is_from d e) ≡ true
    there t =
        let s : key n d ≡ (filed e).0 = exact_keys (key n d) (filed e).0 ((Equal-is (key_cmp (key n d) (filed e).0)).0 t) in
        and_from _ _ (alike_bytes e.record.name n (λ i. (sym s i).name)) (alike_bytes e.device d (λ i. (sym s i).device))

    back : (is_named n e && is_from d e) ≡ true → eq_by_cmp key_cmp (key n d) (filed e).0 ≡ true
    back t =
        let p = and_parts _ _ t in
        (λ i. eq_by_cmp key_cmp (key n d) (key (same_bytes e.record.name n p.0 i) (same_bytes e.device d p.1 i)))
        ∙ ap is_eq (tied_itself keys_total (key n d))

inward : {A B : Type 0} (f : A → B) (b : Bool) (x : A) (o : Option A) → cond b (Some (f x)) (option_map f o) ≡ option_map f (cond b (Some x) o)
inward f true x o = refl
inward f false x o = refl

find_entry : (n : Name) (d : Identity) (es : List Entry) → find key_cmp (key n d) (map filed es) ≡ option_map (λ e. e.record) (first_where (λ e. is_named n e && is_from d e) es)
find_entry n d [] = refl
find_entry n d (e ∷ es) =
    (λ i. cond (is_key n d e i) (Some e.record) (find_entry n d es i))
    ∙ inward (λ (e : Entry). e.record) (is_named n e && is_from d e) e (first_where (λ e. is_named n e && is_from d e) es)

pub find_key : (n : Name) (d : Identity) (es : List Entry) → find key_cmp (key n d) (map filed es) ≡ record_from d (filter (is_named n) es)
find_key n d es = find_entry n d es ∙ ap (option_map (λ e. e.record)) (sym (find_filter (is_from d) (is_named n) es))

map_map : {A B C : Type 0} (f : A → B) (g : B → C) (xs : List A) → map g (map f xs) ≡ map (λ x. g (f x)) xs
map_map f g [] = refl
map_map f g (x ∷ xs) = ap (λ ys. g (f x) ∷ ys) (map_map f g xs)

module _ (me : Identity) (es : List Entry) (last : ℕ) (pulls : Pulls) (rises : Rises es) where
  pub local_is : (n : Name) → record_from me (filter (is_named n) es) ≡ local (folder_of me es last pulls) n
  local_is n = sym (get-from_sorted key_cmp (map filed es) (key n me) (passes _ rises) ∙ find_key n me es)

  -- ---- all records

  pub locals_are : records_from me es ≡ locals (folder_of me es last pulls)
  locals_are =
      sym (ap (λ xs. map (λ e. e.1) (filter (is_by me) xs)) (entries-from_sorted key_cmp (map filed es) (passes _ rises))
      ∙ ap (map (λ e. e.1)) (filter_map filed (is_by me) es)
      ∙ map_map filed (λ e. e.1) (filter (is_from me) es))

  pub greatest_is : (d : Identity) → greatest_sequence d es ≡ fold max 0 (map (λ e. e.1.sequence) (filter (is_by d) (entries (folder_of me es last pulls).announced)))
  greatest_is d =
      sym (ap (λ xs. fold max 0 (map (λ e. e.1.sequence) (filter (is_by d) xs))) (entries-from_sorted key_cmp (map filed es) (passes _ rises))
      ∙ ap (λ xs. fold max 0 (map (λ e. e.1.sequence) xs)) (filter_map filed (is_by d) es)
      ∙ ap (fold max 0) (map_map filed (λ e. e.1.sequence) (filter (is_from d) es)))
