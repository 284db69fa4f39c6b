-- Of the entries of one name the best is the one that is preferred to every other candidate, found in one pass.
use Rattle.std.proofs.Common.{◌≡◌, Bool, true, false, List, [], ◌∷◌, refl, sym, ap, subst, ◌∙◌, inl, inr}
use Rattle.std.specs.Prelude.{◌&&◌, ◌||◌, not, cond, T, Some, filter, fold, if◌then◌else◌}
use Rattle.std.specs.List.{list_all, list_any, reduce}
use Rattle.std.specs.declared.cmp.Ordering.TheVariants.{Less, Equal, Greater}
use Rattle.std.specs.Ordering.{is_gt, ordering_reverse}
use Rattle.std.specs.Cmp.{alike_right}
use Rattle.std.specs.FinMap.{entries-from_sorted, from_sorted, is_sorted}
use Rattle.std.proofs.lemmas.Bool.{and_parts, and_from, true≢false}
use Rattle.sync_record.proofs.Lemmas.{preference_total, preference_tied}
use Rattle.sync_record.specs.Devices.{Identity}
use Rattle.sync_record.specs.Preference.{preference}
use Rattle.sync_record.specs.Records.{Name, FileRecord}
use Rattle.sync_record.specs.Validity.{is_valid}
use Rattle.sync_version.specs.Computed.{dominates}
use Rattle.folder_core.specs.Announced.{KeyedRecord, key_cmp, is_of, is_by, is_candidate, is_best, best, bests}
use Rattle.folder_core.proofs.BestRule.{is_best_found, of_is_best, preferred_itself}
use Rattle.folder_core.proofs.AnnouncedListings.{lists-entries}
use Rattle.folder_core.proofs.ListFilters.{any_same, none_found}
use Rattle.folder_core.proofs.ListTests.{alike_bytes, in_all, in_filter, of_filter, In, Lists}
use Rattle.folder_core.proofs.BestPreferred.{is_preferred}

abbrev pub undominated : List KeyedRecord → KeyedRecord → Bool
undominated es e = is_valid e.1 && not (list_any (λ f. is_valid f.1 && dominates f.1.version e.1.version) es)

abbrev pub higher : KeyedRecord → KeyedRecord → KeyedRecord
higher e f = if is_preferred f e then f else e

abbrev who : KeyedRecord → Identity × FileRecord
who e = (e.0.device, e.1)

-- the second isn't preferred to the first
abbrev pub IsAtLeast : KeyedRecord → KeyedRecord → Type 0
IsAtLeast e f = preference (who e) (who f) ≡ Less → ⊥

preferred_at_least : (e f : KeyedRecord) → is_preferred e f ≡ true → IsAtLeast e f
preferred_at_least e f p less = true≢false (sym p ∙ ap is_gt less)

rest_at_least : (e f : KeyedRecord) → is_preferred f e ≡ false → IsAtLeast e f
rest_at_least e f p less =
    true≢false (ap is_gt (sym (preference_total.antisymm (who f) (who e) ∙ ap ordering_reverse less)) ∙ p)

at_least_itself : (e : KeyedRecord) → IsAtLeast e e
at_least_itself e = rest_at_least e e (preferred_itself e)

at_least_chain : (e f g : KeyedRecord) → IsAtLeast e f → IsAtLeast f g → IsAtLeast e g
at_least_chain e f g p q less =
    elim (preference (who f) (who g)) as (λ r. preference (who f) (who g) ≡ r → ⊥) [
      | Less ↦ λ s. q s
      | Equal ↦ λ s. p (alike_right preference_total (who f) (who g) (who e) s ∙ less)
      | Greater ↦ λ s. p (preference_total.trans (who e) (who g) (who f) less (preference_total.antisymm (who g) (who f) ∙ ap ordering_reverse s))
    ] refl

-- one of them, and none of them is preferred to it
pub record IsTop (es : List KeyedRecord) (e : KeyedRecord) : Type 0 where
  pub among : In e es
  pub highest : (f : KeyedRecord) → In f es → IsAtLeast e f

more_among : (x y : KeyedRecord) (r : KeyedRecord) (xs : List KeyedRecord) → In r (x ∷ xs) → In r (x ∷ y ∷ xs)
more_among x y r xs (inl s) = inl s
more_among x y r xs (inr i) = inr (inr i)

pub top : (x : KeyedRecord) (xs : List KeyedRecord) → IsTop (x ∷ xs) (fold higher x xs)
top x [] = record { among = inl refl; highest = alone }
  where
    alone : (f : KeyedRecord) → In f (x ∷ []) → IsAtLeast x f
    alone f (inl s) = subst (IsAtLeast x) (sym s) (at_least_itself x)
    alone f (inr i) = absurd i
top x (y ∷ xs) =
    elim (is_preferred y x) as (λ b. is_preferred y x ≡ b → IsTop (x ∷ y ∷ xs) (fold higher (cond b y x) xs)) [
      | true ↦ λ t. let r = top y xs in record { among = inr r.among; highest = over (fold higher y xs) r.highest (preferred_at_least y x t) }
      | false ↦ λ t. let r = top x xs in record { among = more_among x y _ xs r.among; highest = beside (fold higher x xs) r.highest (rest_at_least x y t) }
    ] refl
  where
    over : (e : KeyedRecord) → ((f : KeyedRecord) → In f (y ∷ xs) → IsAtLeast e f) → IsAtLeast y x → (f : KeyedRecord) → In f (x ∷ y ∷ xs) → IsAtLeast e f
    over e high above f (inl s) = subst (IsAtLeast e) (sym s) (at_least_chain e y x (high y (inl refl)) above)
    over e high above f (inr i) = high f i

    beside : (e : KeyedRecord) → ((f : KeyedRecord) → In f (x ∷ xs) → IsAtLeast e f) → IsAtLeast x y → (f : KeyedRecord) → In f (x ∷ y ∷ xs) → IsAtLeast e f
    beside e high above f (inl s) = high f (inl s)
    beside e high above f (inr (inl s)) = subst (IsAtLeast e) (sym s) (at_least_chain e x y (high x (inl refl)) above)
    beside e high above f (inr (inr i)) = high f (inr i)

ranked : (e f : KeyedRecord) → IsAtLeast e f → (is_by e.0.device f || is_preferred e f) ≡ true
ranked e f p =
    elim (preference (who e) (who f)) as (λ r. preference (who e) (who f) ≡ r → (is_by e.0.device f || is_gt r) ≡ true) [
      | Less ↦ λ s. absurd (p s)
      | Equal ↦ λ s. ap (λ b. b || false) (alike_bytes f.0.device e.0.device (sym (preference_tied (who e) (who f) s)))
      | Greater ↦ λ s. or_true (is_by e.0.device f)
    ] refl
  where
    or_true : (b : Bool) → (b || true) ≡ true
    or_true true = refl
    or_true false = refl

module _ (n : Name) (es : List KeyedRecord) (named : (e : KeyedRecord) → In e es → e.0.name ≡ n) (sorted : T (is_sorted key_cmp es)) where
  candidate_is : (e : KeyedRecord) → In e es → is_candidate es e ≡ undominated es e
  candidate_is e i =
      ap (λ b. is_valid e.1 && not b) (any_same _ (λ f. is_valid f.1 && dominates f.1.version e.1.version) es (λ f j.
      ap (λ b. b && is_valid f.1 && dominates f.1.version e.1.version) (alike_bytes f.0.name e.0.name (named f j ∙ sym (named e i)))))

  abbrev outranks : KeyedRecord → KeyedRecord → Bool
  outranks e f = is_by e.0.device f || is_preferred e f

  abbrev rival : KeyedRecord → KeyedRecord → Bool
  rival e f = is_of e.0.name f && is_candidate es f

  -- the list is that of a map
  listed : Lists (from_sorted {R = key_cmp} es) es
  listed = subst (Lists (from_sorted {R = key_cmp} es)) (entries-from_sorted key_cmp es sorted) (lists-entries (from_sorted {R = key_cmp} es))

  best_reduced_from : (cs : List KeyedRecord) → cs ≡ filter (undominated es) es → best es n ≡ reduce higher cs
  best_reduced_from [] is =
      none_found (is_of n) (bests es) (λ e i.
      let r = of_filter (is_best es) es e i in
      absurd (subst (In e) (sym is) (in_filter (undominated es) es e r.0 (sym (candidate_is e r.0) ∙ (and_parts _ _ r.1).0))))
  best_reduced_from (c ∷ cs) is =
      let e : KeyedRecord = fold higher c cs in
      let t = top c cs in
      let r = of_filter (undominated es) es e (subst (In e) is t.among) in
      let above : list_all (outranks e) (filter (rival e) es) ≡ true =
      in_all (outranks e) (filter (rival e) es) (λ f i.
      let s = of_filter (rival e) es f i in
      ranked e f (t.highest f (subst (In f) (sym is) (in_filter (undominated es) es f s.0 (sym (candidate_is f s.0) ∙ (and_parts _ _ s.1).1))))) in
      let chosen : is_best es e ≡ true = and_from _ _ (candidate_is e r.0 ∙ r.1) above in
      let l : Lists (from_sorted {R = key_cmp} es) es = listed in
      subst (λ m. best es m ≡ Some e) (named e r.0) (is_best_found _ es l e.0.name e.0.device e.1 (of_is_best _ es l e (l.only e r.0) chosen))

  pub best_reduced : best es n ≡ reduce higher (filter (undominated es) es)
  best_reduced = best_reduced_from (filter (undominated es) es) refl
