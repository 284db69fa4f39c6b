-- The groups by name after a group was written, put or taken away.
use Rattle.std.proofs.Common.{◌≡◌, Bool, true, false, [], ◌∷◌, ◌++◌, length, refl, sym, ap, subst, ◌∙◌, ◌⊎◌, inl, inr, arith}
use Rattle.std.specs.Prelude.{Option, Some, None, IsSome, is_some, cond, slice_index_or}
use Rattle.std.specs.BTreeMap.{insert_entry, is_at}
use Rattle.std.specs.Map.{keys_of, lookup, remove_entry, set_value}
use Rattle.std.specs.Vec.{with_item}
use Rattle.std.specs.Cmp.{eq_by_cmp_equiv}
use Rattle.std.specs.List.{AllByRecursion}
use Rattle.std.specs.List.Sorted.{IsStrictlySortedBy}
use Rattle.std.specs.Ordering.{eq_by_cmp}
use Rattle.std.specs.declared.cmp.Ordering.TheVariants.{Less}
use Rattle.std.proofs.lemmas.Map.{keys-set_value, length-set_value, lookup-set_value, lookup-remove_entry}
use Rattle.std.proofs.lemmas.Map.Keys.{IsDistinct-from_sorted}
use Rattle.std.proofs.lemmas.Option.{none-some}
use Rattle.sync_record.specs.Devices.{Identity, bytes_cmp}
use Rattle.sync_record.specs.Records.{Name}
use Rattle.folder_core.proofs.ListTests.{In}
use Rattle.folder_core.proofs.Orders.{bytes_total}
use Rattle.folder_index.specs.declared.chunks.Chunks.{Chunks}
use Rattle.folder_index.specs.declared.chunks.Spot.{Spot}
use Rattle.folder_index.specs.declared.group.Group.{Group}
use Rattle.folder_index.specs.declared.totals.Totals.{Totals}
use Rattle.folder_index.specs.Chunks.{AreChunked, AreFilled, Chunk, IsAt, IsCounted, IsGap, IsSearchable, before, from_on, groups_in}
use Rattle.folder_index.specs.Groups.{AreGroups, name_in}
use Rattle.folder_index.proofs.Chunked.{absent_at, all_names, chunk_read_at, filled_chunk, filled_set, first_sorted, gap_parts, group_read, found_group, insert_mid, name_at, not_at, sorted_across, sorted_left, sorted_right, with_chunk, write_groups}
use Rattle.folder_index.proofs.Lists.{in_parts}
use Rattle.folder_index.proofs.Listed.{Groups, Sorted, at_same}
use Rattle.folder_index.proofs.Written.{HasAt}

pub no_groups : (me : Identity) → AreGroups me [] (record { files = 0; directories = 0; deletions = 0; needed = 0; others = 0 })
unfolding IsStrictlySortedBy
no_groups me = record {
  ordered = tt;
  groups = λ n g e. absurd (none-some g e);
  counted = refl;
  room = omega arith;
}

pub searchable : (me : Identity) (cs : Chunks) (t : Totals) → AreChunked me cs t → IsSearchable cs
searchable me cs t are = record { filled = are.filled; ordered = are.are.ordered }

-- ---- another group of the name

alike : (n x y : Name) → is_at (bytes_cmp n) x ≡ true → is_at (bytes_cmp n) y ≡ is_at (bytes_cmp x) y
alike n x y t = ap (λ m. is_at (bytes_cmp m) y) (at_same n x t)

some_found : (o : Option Group) (g : Group) → o ≡ Some g → IsSome o
some_found o g e = ap is_some e

module _ (n : Name) (gs : Groups) (s : Sorted gs) (was is : Group) (found : lookup (is_at (bytes_cmp n)) gs ≡ Some was) where
  pub set_sorted : Sorted (set_value (is_at (bytes_cmp n)) gs is)
  set_sorted = subst (IsStrictlySortedBy bytes_cmp) (sym (keys-set_value (is_at (bytes_cmp n)) gs is)) s

  pub set_has : HasAt n (Some is) gs (set_value (is_at (bytes_cmp n)) gs is)
  set_has m = lookup-set_value {eq = eq_by_cmp bytes_cmp} (eq_by_cmp_equiv bytes_total) (is_at (bytes_cmp n)) (alike n) m is gs (some_found (lookup (is_at (bytes_cmp n)) gs) was found)

-- What holds once a group was written in its place.
pub record IsWritten (n : Name) (cs new : Chunks) (was is : Group) : Type 0 where
  pub found : lookup (is_at (bytes_cmp n)) (groups_in cs) ≡ Some was
  pub set : groups_in new ≡ set_value (is_at (bytes_cmp n)) (groups_in cs) is
  pub sorted : Sorted (groups_in new)
  pub at : HasAt n (Some is) (groups_in cs) (groups_in new)
  pub filled : AreFilled new

module _ (n : Name) (cs : Chunks) (srch : IsSearchable cs) (s : Spot) (a : IsAt n s cs) (v : Chunk) (was : Group) (is_v : v ≡ slice_index_or cs.chunks.items s.chunk v) (is_was : was ≡ slice_index_or v.items s.place was) where
  pub found_there : lookup (is_at (bytes_cmp n)) (groups_in cs) ≡ Some was
  found_there = found_group cs s.chunk a.chunk a.at s.place a.group a.is srch.ordered n a.named ∙ ap Some (group_read n cs s a v was is_v is_was).1

  pub written : (is : Group) → name_in is ≡ n → IsWritten n cs (with_chunk cs s.chunk (with_item v s.place is)) was is
  written is named =
      let same : a.chunk ≡ v = chunk_read_at n cs s a v is_v in
      let set : groups_in (with_chunk cs s.chunk (with_item v s.place is)) ≡ set_value (is_at (bytes_cmp n)) (groups_in cs) is =
      subst (λ w. groups_in (with_chunk cs s.chunk (with_item w s.place is)) ≡ set_value (is_at (bytes_cmp n)) (groups_in cs) is) same (write_groups cs s.chunk a.chunk a.at s.place a.group a.is srch.ordered n a.named is named) in
      record {
        found = found_there;
        set = set;
        sorted = subst Sorted (sym set) (set_sorted n (groups_in cs) srch.ordered was is found_there);
        at = subst (λ (l : Groups). HasAt n (Some is) (groups_in cs) l) (sym set) (set_has n (groups_in cs) srch.ordered was is found_there);
        filled = filled_set cs s.chunk (with_item v s.place is) srch.filled (filled_chunk cs s.chunk v srch.filled (a.at ∙ ap Some same));
      }

-- ---- a group more

pub sorted_join : (xs ys : Groups) → Sorted xs → Sorted ys → ((x y : Name × Group) → In x xs → In y ys → bytes_cmp x.0 y.0 ≡ Less) → Sorted (xs ++ ys)
unfolding IsStrictlySortedBy
sorted_join [] ys s t across = t
sorted_join (x ∷ xs) ys s t across =
    (all_names (λ m. bytes_cmp x.0 m ≡ Less) (xs ++ ys) (λ y i. by y (in_parts xs ys y i)), sorted_join xs ys s.1 t (λ y z i j. across y z (inr i) j))
  where
    by : (y : Name × Group) → In y xs ⊎ In y ys → bytes_cmp x.0 y.0 ≡ Less
    by y (inl i) = name_at (λ m. bytes_cmp x.0 m ≡ Less) xs s.0 y i
    by y (inr i) = across x y (inl refl) i

turned : (n m : Name) → is_at (bytes_cmp m) n ≡ is_at (bytes_cmp n) m
turned n m = (eq_by_cmp_equiv bytes_total).symm m n

module _ (n : Name) (g : Group) where
  pub mid_has : (xs ys : Groups) → AllByRecursion (λ m. bytes_cmp m n ≡ Less) (keys_of xs) → (m : Name) → lookup (is_at (bytes_cmp m)) (xs ++ (n, g) ∷ ys) ≡ cond (is_at (bytes_cmp n) m) (Some g) (lookup (is_at (bytes_cmp m)) (xs ++ ys))
  mid_has [] ys lesser m = ap (λ b. cond b (Some g) (lookup (is_at (bytes_cmp m)) ys)) (turned n m)
  mid_has (x ∷ xs) ys lesser m =
      ap (cond (is_at (bytes_cmp m) x.0) (Some x.1)) (mid_has xs ys lesser.1 m)
      ∙ elim (is_at (bytes_cmp m) x.0) as (λ b. is_at (bytes_cmp m) x.0 ≡ b → cond b (Some x.1) (cond (is_at (bytes_cmp n) m) (Some g) (lookup (is_at (bytes_cmp m)) (xs ++ ys))) ≡ cond (is_at (bytes_cmp n) m) (Some g) (cond b (Some x.1) (lookup (is_at (bytes_cmp m)) (xs ++ ys)))) [
        | true ↦ λ t. sym (ap (λ b. cond b (Some g) (Some x.1)) (ap (λ y. is_at (bytes_cmp n) y) (at_same m x.0 t) ∙ not_at x.0 n lesser.0))
        | false ↦ λ t. refl
      ] refl

  module _ (cs : Chunks) (s : Spot) (srch : IsSearchable cs) (gap : IsGap n s cs) where
    whole : groups_in cs ≡ before s cs ++ from_on s cs
    whole = gap_parts n cs s gap

    pub put_sorted : Sorted (insert_entry bytes_cmp (groups_in cs) n g)
    put_sorted =
        let up = subst Sorted whole srch.ordered in
        subst Sorted (sym (ap (λ l. insert_entry bytes_cmp l n g) whole ∙ insert_mid n g (before s cs) (from_on s cs) gap.lesser gap.greater))
        (sorted_join (before s cs) ((n, g) ∷ from_on s cs) (sorted_left (before s cs) (from_on s cs) up) (first_sorted n g (from_on s cs) gap.greater (sorted_right (before s cs) (from_on s cs) up))
        (λ x y i j. by up x y i j))
      where
        by : Sorted (before s cs ++ from_on s cs) → (x y : Name × Group) → In x (before s cs) → In y ((n, g) ∷ from_on s cs) → bytes_cmp x.0 y.0 ≡ Less
        by up x y i (inl e) = ap (λ (z : Name × Group). bytes_cmp x.0 z.0) e ∙ name_at (λ m. bytes_cmp m n ≡ Less) (before s cs) gap.lesser x i
        by up x y i (inr j) = sorted_across (before s cs) (from_on s cs) up x y i j

    pub put_has : HasAt n (Some g) (groups_in cs) (insert_entry bytes_cmp (groups_in cs) n g)
    put_has m =
        ap (lookup (is_at (bytes_cmp m))) (ap (λ l. insert_entry bytes_cmp l n g) whole ∙ insert_mid n g (before s cs) (from_on s cs) gap.lesser gap.greater)
        ∙ mid_has (before s cs) (from_on s cs) gap.lesser m
        ∙ ap (λ (l : Groups). cond (is_at (bytes_cmp n) m) (Some g) (lookup (is_at (bytes_cmp m)) l)) (sym whole)

-- ---- a group fewer

left : (test : Name → Bool) (gs : Groups) (x : Name × Group) → In x (remove_entry test gs) → In x gs
left test [] x i = i
left test (h ∷ gs) x i =
    elim (test h.0) as (λ b. In x (cond b gs (h ∷ remove_entry test gs)) → (x ≡ h) ⊎ In x gs) [
      | true ↦ λ j. inr j
      | false ↦ λ j. more (left test gs x) j
    ] i
  where
    more : (In x (remove_entry test gs) → In x gs) → (x ≡ h) ⊎ In x (remove_entry test gs) → (x ≡ h) ⊎ In x gs
    more rest (inl e) = inl e
    more rest (inr j) = inr (rest j)

pub taken_sorted : (test : Name → Bool) (gs : Groups) → Sorted gs → Sorted (remove_entry test gs)
unfolding IsStrictlySortedBy
taken_sorted test [] s = tt
taken_sorted test (h ∷ gs) s =
    elim (test h.0) as (λ b. Sorted (cond b gs (h ∷ remove_entry test gs))) [
      | true ↦ s.1
      | false ↦ (all_names (λ m. bytes_cmp h.0 m ≡ Less) (remove_entry test gs) (λ x i. name_at (λ m. bytes_cmp h.0 m ≡ Less) gs s.0 x (left test gs x i)), taken_sorted test gs s.1)
    ]

pub taken_has : (n : Name) (gs : Groups) → Sorted gs → HasAt n None gs (remove_entry (is_at (bytes_cmp n)) gs)
taken_has n gs s m = lookup-remove_entry {eq = eq_by_cmp bytes_cmp} (eq_by_cmp_equiv bytes_total) (is_at (bytes_cmp n)) (alike n) m gs (IsDistinct-from_sorted bytes_cmp (keys_of gs) s)

-- the groups that are counted stay as many
pub counted_written : (n : Name) (cs : Chunks) {new : Chunks} (was is : Group) → IsWritten n cs new was is → IsCounted cs → new.count ≡ cs.count → IsCounted new
counted_written n cs {new} was is write counted same =
    let len = ap (λ (l : Groups). length l) write.set in
    let all = length-set_value (is_at (bytes_cmp n)) (groups_in cs) is in
    record {
      all = omega (arith, counted.all);
      few = omega (arith, counted.few);
    }

-- What holds once a group was put where there was none.
pub record IsPut (n : Name) (gs new : Groups) (is : Group) : Type 0 where
  pub absent : lookup (is_at (bytes_cmp n)) gs ≡ None
  pub set : new ≡ insert_entry bytes_cmp gs n is
  pub sorted : Sorted new
  pub at : HasAt n (Some is) gs new

pub put_there : (n : Name) (cs new : Chunks) (s : Spot) (is : Group) → IsSearchable cs → IsGap n s cs → name_in is ≡ n → groups_in new ≡ insert_entry bytes_cmp (groups_in cs) (name_in is) is → IsPut n (groups_in cs) (groups_in new) is
put_there n cs new s is srch gap named placed =
    let set : groups_in new ≡ insert_entry bytes_cmp (groups_in cs) n is = placed ∙ ap (λ m. insert_entry bytes_cmp (groups_in cs) m is) named in
    record {
      absent = absent_at n cs s gap;
      set = set;
      sorted = subst Sorted (sym set) (put_sorted n is cs s srch gap);
      at = subst (λ (l : Groups). HasAt n (Some is) (groups_in cs) l) (sym set) (put_has n is cs s srch gap);
    }

-- the same groups, in other chunks
pub chunked_too : (me : Identity) (cs new : Chunks) (t : Totals) → AreChunked me cs t → groups_in new ≡ groups_in cs → AreFilled new → IsCounted new → AreChunked me new t
chunked_too me cs new t are same filled counted = record {
  filled = filled;
  counted = counted;
  are = subst (λ (l : Groups). AreGroups me l t) (sym same) are.are;
}
