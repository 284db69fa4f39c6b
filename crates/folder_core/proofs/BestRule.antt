-- The best of a name, in the words of the rules: a candidate that is preferred to every other.
use Rattle.folder_core.proofs.AnnouncedListings.{lists-entries}
use Rattle.folder_core.proofs.ListTests.{inside, same_bytes as same, alike_bytes as alike, by_or, In, all_in, in_all, any_in, in_any, in_filter, of_filter, found_in, only_found, some_free, Lists}
use Rattle.folder_core.specs.Announced.{Announced, KeyedRecord, key, is_of, is_by, is_candidate, is_best, best, bests, IsCandidate, IsBest}
use Rattle.std.proofs.Common.{◌≡◌, Bool, true, false, List, [], ◌∷◌, refl, sym, ap, subst, ◌∙◌, ◌↔◌}
use Rattle.std.proofs.lemmas.Bool.{true≢false, and_parts, and_from, not-true, false_from_ne_true}
use Rattle.folder_core.proofs.BestPreferred.{is_preferred}
use Rattle.std.specs.Cmp.{tied_itself}
use Rattle.sync_record.proofs.Lemmas.{preference_total, preference_tied}
use Rattle.std.specs.FinMap.{get, entries}
use Rattle.std.specs.List.{list_all, list_any}
use Rattle.std.specs.Ordering.{is_gt, ordering_reverse}
use Rattle.std.specs.Prelude.{bytes_eq, ◌&&◌, ◌||◌, not, IsTrue, Option, Some, None, filter}
use Rattle.std.specs.declared.cmp.Ordering.{Ordering}
use Rattle.std.specs.declared.cmp.Ordering.TheVariants.{Less, Equal, Greater}
use Rattle.std.proofs.lemmas.Option.{none-some}
use Rattle.sync_record.specs.Devices.{Identity}
use Rattle.sync_record.specs.Preference.{preference}
use Rattle.sync_record.specs.Records.{Name, FileRecord}
use Rattle.sync_record.specs.Validity.{is_valid}
use Rattle.sync_version.proofs.Lemmas.{dominates_itself, dominates_trans, dominates_tells}
use Rattle.sync_version.specs.Computed.{dominates}
use Rattle.sync_version.specs.Versions.{Dominates}

not_both_greater : (r : Ordering) → is_gt r ≡ true → is_gt (ordering_reverse r) ≡ true → ⊥
not_both_greater Less a b = true≢false (sym a)
not_both_greater Equal a b = true≢false (sym a)
not_both_greater Greater a b = true≢false (sym b)

-- of two no one is preferred to the other both ways
one_way : (a b : Identity × FileRecord) → is_gt (preference a b) ≡ true → is_gt (preference b a) ≡ true → ⊥
one_way a b p q = not_both_greater (preference a b) p (ap is_gt (sym (preference_total.antisymm b a)) ∙ q)

module _ (m : Announced) (es : List KeyedRecord) (l : Lists m es) where
  -- what a record must not have against it
  abbrev dominating : KeyedRecord → KeyedRecord → Bool
  dominating e f = is_of e.0.name f && is_valid f.1 && dominates f.1.version e.1.version

  -- an entry under some name, as what the map has there
  at : (n : Name) (f : KeyedRecord) → In f es → is_of n f ≡ true → get m (key n f.0.device) ≡ Some f.1
  at n f i e = ap (λ x. get m (key x f.0.device)) (sym (same f.0.name n e)) ∙ l.only f i

  pub candidate : (e : KeyedRecord) → get m e.0 ≡ Some e.1 → is_candidate es e ≡ true → IsCandidate m e.0.name e.0.device e.1
  candidate e g c =
      let undominated = not-true _ (and_parts _ _ c).1 in
      record {
        announced = g;
        valid = (and_parts _ _ c).0;
        undominated = λ d q h v dominated.
            let f : KeyedRecord = (key e.0.name d, q) in
            true≢false (sym (in_any (dominating e) es f (l.has f.0 q h)
            (and_from _ _ (and_from _ _ (alike e.0.name e.0.name refl) v) dominated)) ∙ undominated);
      }

  pub is_candidate_of : (e : KeyedRecord) → IsCandidate m e.0.name e.0.device e.1 → is_candidate es e ≡ true
  is_candidate_of e c =
      and_from _ _ c.valid (ap not (false_from_ne_true (list_any (dominating e) es) (λ one.
      let r = any_in (dominating e) es one in
      let t = and_parts _ _ r.2 in
      let u = and_parts _ _ t.0 in
      c.undominated r.0.0.device r.0.1 (at e.0.name r.0 r.1 u.0) u.1 t.1)))

  abbrev rival : KeyedRecord → KeyedRecord → Bool
  rival e f = is_of e.0.name f && is_candidate es f

  abbrev outranks : KeyedRecord → KeyedRecord → Bool
  outranks e f = is_by e.0.device f || is_preferred e f

  other : (a b : Bool) → (a || b) ≡ true → a ≡ false → b ≡ true
  other true b e f = absurd (true≢false f)
  other false b e f = e

  pub of_is_best : (e : KeyedRecord) → get m e.0 ≡ Some e.1 → is_best es e ≡ true → IsBest m e.0.name e.0.device e.1
  of_is_best e g b = record {
    candidate = candidate e g (and_parts _ _ b).0;
    preferred = λ d q c apart.
        let f : KeyedRecord = (key e.0.name d, q) in
        let found = l.has f.0 q c.announced in
        let listed = in_filter (rival e) es f found (and_from _ _ (alike e.0.name e.0.name refl) (is_candidate_of f c)) in
        other (is_by e.0.device f) (is_preferred e f) (all_in (outranks e) _ (and_parts _ _ b).1 f listed)
        (false_from_ne_true (is_by e.0.device f) (λ t. apart (same d e.0.device t)));
  }

  pub is_best_of : (e : KeyedRecord) → IsBest m e.0.name e.0.device e.1 → is_best es e ≡ true
  is_best_of e b =
      and_from _ _ (is_candidate_of e b.candidate) (in_all (outranks e) (filter (rival e) es) (λ f i.
      let r = of_filter (rival e) es f i in
      let t = and_parts _ _ r.1 in
      let named : f.0.name ≡ e.0.name = same f.0.name e.0.name t.0 in
      let c : IsCandidate m e.0.name f.0.device f.1 =
      subst (λ x. IsCandidate m x f.0.device f.1) named (candidate f (l.only f r.0) t.1) in
      by_or (is_by e.0.device f) (outranks e f ≡ true)
      (λ own. ap (λ x. x || is_preferred e f) own)
      (λ foreign. ap (λ x. x || is_preferred e f) foreign ∙ b.preferred f.0.device f.1 c (λ d. true≢false (sym (alike f.0.device e.0.device d) ∙ foreign)))))

  -- a name has one best at most
  pub one_best : (n : Name) (d e : Identity) (q r : FileRecord) → IsBest m n d q → IsBest m n e r → (d ≡ e) × (q ≡ r)
  one_best n d e q r a b =
      by_or (bytes_eq d e) ((d ≡ e) × (q ≡ r))
      (λ t. (same d e t, inside q r (sym a.candidate.announced ∙ ap (λ x. get m (key n x)) (same d e t) ∙ b.candidate.announced)))
      (λ f. absurd (one_way (d, q) (e, r)
      (a.preferred e r b.candidate (λ s. true≢false (sym (alike d e (sym s)) ∙ f)))
      (b.preferred d q a.candidate (λ s. true≢false (sym (alike d e s) ∙ f)))))

  -- what is computed is the best
  pub best_is : (n : Name) (e : KeyedRecord) → best es n ≡ Some e → (e.0.name ≡ n) × IsBest m n e.0.device e.1
  best_is n e f =
      let r = found_in (is_of n) (bests es) e f in
      let t = of_filter (is_best es) es e r.0 in
      let named : e.0.name ≡ n = same e.0.name n r.1 in
      (named, subst (λ x. IsBest m x e.0.device e.1) named (of_is_best e (l.only e t.0) t.1))

  -- and the best is computed
  pub is_best_found : (n : Name) (d : Identity) (r : FileRecord) → IsBest m n d r → best es n ≡ Some (key n d, r)
  is_best_found n d r b =
      let e : KeyedRecord = (key n d, r) in
      let listed = l.has (key n d) r b.candidate.announced in
      only_found (is_of n) (bests es) e (in_filter (is_best es) es e listed (is_best_of e b)) (alike n n refl) (λ f i named.
      let t = of_filter (is_best es) es f i in
      let name : f.0.name ≡ n = same f.0.name n named in
      let s = one_best n f.0.device d f.1 r (subst (λ x. IsBest m x f.0.device f.1) name (of_is_best f (l.only f t.0) t.1)) b in
      λ i. (record { name = name i; device = s.0 i }, s.1 i))

greater : (r : Ordering) → is_gt r ≡ true → r ≡ Greater
greater Less e = absurd (true≢false (sym e))
greater Equal e = absurd (true≢false (sym e))
greater Greater e = refl

pub preferred_itself : (e : KeyedRecord) → is_preferred e e ≡ false
preferred_itself e = ap is_gt (tied_itself preference_total (e.0.device, e.1))

preferred_trans : (x y z : KeyedRecord) → is_preferred x y ≡ true → is_preferred y z ≡ true → is_preferred x z ≡ true
preferred_trans x y z p q =
    let a : Identity × FileRecord = (x.0.device, x.1) in
    let b : Identity × FileRecord = (y.0.device, y.1) in
    let c : Identity × FileRecord = (z.0.device, z.1) in
    let down : preference b a ≡ Less = preference_total.antisymm b a ∙ ap ordering_reverse (greater (preference a b) p) in
    let further : preference c b ≡ Less = preference_total.antisymm c b ∙ ap ordering_reverse (greater (preference b c) q) in
    ap is_gt (preference_total.antisymm a c ∙ ap ordering_reverse (preference_total.trans c b a further down))

-- what isn't preferred to a record is of its device, or the record is preferred to it
ranked : (r : Ordering) (P : Type 0) → is_gt r ≡ false → (r ≡ Equal → P) → (ordering_reverse r ≡ Greater → P) → P
ranked Less P e tie less = less refl
ranked Equal P e tie less = tie refl
ranked Greater P e tie less = absurd (true≢false e)

module _ (m : Announced) (es : List KeyedRecord) (l : Lists m es) where
  abbrev valid_of : Name → KeyedRecord → Bool
  valid_of n f = is_of n f && is_valid f.1

  abbrev candidate_of : Name → KeyedRecord → Bool
  candidate_of n f = is_of n f && is_candidate es f

  abbrev dominated_by : KeyedRecord → KeyedRecord → Bool
  dominated_by f e = dominates f.1.version e.1.version

  -- where a record of the name is valid, one that none dominates is
  some_candidate : (n : Name) (vs : List KeyedRecord) → vs ≡ filter (valid_of n) es → (f : KeyedRecord) → In f vs → (e : KeyedRecord) × In e (filter (candidate_of n) es)
  some_candidate n [] is f i = absurd i
  some_candidate n (v ∷ vs) is f i =
      let free = some_free dominated_by (λ x. dominates_itself x.1.version) (λ x y z. dominates_trans x.1.version y.1.version z.1.version) v vs in
      let e : KeyedRecord = free.0 in
      let listed = of_filter (valid_of n) es e (subst (In e) is free.1.0) in
      let named = and_parts _ _ listed.1 in
      let undominated = false_from_ne_true (list_any (dominating m es l e) es) (λ one.
      let r = any_in (dominating m es l e) es one in
      let t = and_parts _ _ r.2 in
      let u = and_parts _ _ t.0 in
      let here : is_of n r.0 ≡ true = alike r.0.0.name n (same r.0.0.name e.0.name u.0 ∙ same e.0.name n named.0) in
      let among : In r.0 (v ∷ vs) = subst (In r.0) (sym is) (in_filter (valid_of n) es r.0 r.1 (and_from _ _ here u.1)) in
      true≢false (sym t.1 ∙ free.1.1 r.0 among)) in
      (e, in_filter (candidate_of n) es e listed.0 (and_from _ _ named.0 (and_from _ _ named.1 (ap not undominated))))

  some_best : (n : Name) (cs : List KeyedRecord) → cs ≡ filter (candidate_of n) es → (f : KeyedRecord) → In f cs → (e : KeyedRecord) × (best es n ≡ Some e)
  some_best n [] is f i = absurd i
  some_best n (c ∷ cs) is f i =
      let free = some_free is_preferred preferred_itself preferred_trans c cs in
      let e : KeyedRecord = free.0 in
      let listed = of_filter (candidate_of n) es e (subst (In e) is free.1.0) in
      let named = and_parts _ _ listed.1 in
      let name : e.0.name ≡ n = same e.0.name n named.0 in
      let above : list_all (outranks m es l e) (filter (rival m es l e) es) ≡ true =
      in_all (outranks m es l e) (filter (rival m es l e) es) (λ g j.
      let r = of_filter (rival m es l e) es g j in
      let t = and_parts _ _ r.1 in
      let here : is_of n g ≡ true = alike g.0.name n (same g.0.name e.0.name t.0 ∙ name) in
      let among : In g (c ∷ cs) = subst (In g) (sym is) (in_filter (candidate_of n) es g r.0 (and_from _ _ here t.1)) in
      ranked (preference (g.0.device, g.1) (e.0.device, e.1)) (outranks m es l e g ≡ true) (free.1.1 g among)
      (λ tie. ap (λ x. x || is_preferred e g) (alike g.0.device e.0.device (preference_tied (g.0.device, g.1) (e.0.device, e.1) tie)))
      (λ less. or_true (is_by e.0.device g) (is_preferred e g) (ap is_gt (preference_total.antisymm (e.0.device, e.1) (g.0.device, g.1) ∙ less)))) in
      let chosen = of_is_best m es l e (l.only e listed.0) (and_from _ _ named.1 above) in
      ((key n e.0.device, e.1), is_best_found m es l n e.0.device e.1 (subst (λ x. IsBest m x e.0.device e.1) name chosen))
    where
      or_true : (a b : Bool) → b ≡ true → (a || b) ≡ true
      or_true true b e = refl
      or_true false b e = e

  -- a name has a best wherever a valid record of it is announced
  pub valid_has_best : (n : Name) (d : Identity) (r : FileRecord) → get m (key n d) ≡ Some r → is_valid r ≡ true → (e : KeyedRecord) × (best es n ≡ Some e)
  valid_has_best n d r g v =
      let f : KeyedRecord = (key n d, r) in
      let listed = in_filter (valid_of n) es f (l.has f.0 r g) (and_from _ _ (alike n n refl) v) in
      let c = some_candidate n (filter (valid_of n) es) refl f listed in
      some_best n (filter (candidate_of n) es) refl c.0 c.1

-- the best doesn't depend on the order in which the records are listed
pub best_any_order : (m : Announced) (es : List KeyedRecord) → Lists m es → (n : Name) → best es n ≡ best (entries m) n
best_any_order m es l n =
    elim (best es n) as (λ o. best es n ≡ o → o ≡ best (entries m) n) [
      | Some e ↦ λ found.
          let r = best_is m es l n e found in
          let b : IsBest m n e.0.device e.1 = r.1 in
          ap Some (λ i. (record { name = r.0 i; device = e.0.device }, e.1)) ∙ sym (is_best_found m (entries m) (lists-entries m) n e.0.device e.1 b)
      | None ↦ λ none. elim (best (entries m) n) as (λ o. best (entries m) n ≡ o → None ≡ o) [
        | None ↦ λ _. refl
        | Some e ↦ λ found.
            let r = best_is m (entries m) (lists-entries m) n e found in
            absurd (absent (best es n) (key n e.0.device, e.1) none (is_best_found m es l n e.0.device e.1 r.1))
      ] refl
    ] refl
  where
    absent : (o : Option KeyedRecord) (x : KeyedRecord) → o ≡ None → o ≡ Some x → ⊥
    absent o x p q = let e : None ≡ Some x = sym p ∙ q in cc

-- ---- of what is announced, as the laws say it

pub best-found : (a : Announced) (n : Name) (e : KeyedRecord) → best (entries a) n ≡ Some e → (e.0.name ≡ n) × IsBest a n e.0.device e.1
best-found a = best_is a (entries a) (lists-entries a)

pub best-only : (a : Announced) (n : Name) (d : Identity) (r : FileRecord) → IsBest a n d r → best (entries a) n ≡ Some (key n d, r)
best-only a = is_best_found a (entries a) (lists-entries a)

pub best-one : (a : Announced) (n : Name) (d e : Identity) (q r : FileRecord) → IsBest a n d q → IsBest a n e r → (d ≡ e) × (q ≡ r)
best-one a = one_best a (entries a) (lists-entries a)

pub best-some : (a : Announced) (n : Name) (d : Identity) (r : FileRecord) → get a (key n d) ≡ Some r → IsTrue (is_valid r) → (e : KeyedRecord) × (best (entries a) n ≡ Some e)
best-some a = valid_has_best a (entries a) (lists-entries a)

pub best-none : (a : Announced) (n : Name) → (best (entries a) n ≡ None) ↔ ((d : Identity) (r : FileRecord) → get a (key n d) ≡ Some r → is_valid r ≡ false)
best-none a n = (
  λ none d r g. false_from_ne_true (is_valid r) (λ v. let e = best-some a n d r g v in none-some e.0 (sym none ∙ e.1)),
  λ each. no_best (best (entries a) n) (λ e is.
      let c = (best-found a n e is).1.candidate in
      true≢false (sym c.valid ∙ each e.0.device e.1 c.announced)),
)
  where
    no_best : (o : Option KeyedRecord) → ((e : KeyedRecord) → o ≡ Some e → ⊥) → o ≡ None
    no_best None f = refl
    no_best (Some e) f = absurd (f e refl)

pub best-undominated : (a : Announced) (n : Name) (e : KeyedRecord) (d : Identity) (r : FileRecord) → best (entries a) n ≡ Some e → get a (key n d) ≡ Some r → IsTrue (is_valid r) → ¬ (Dominates r.version e.1.version)
best-undominated a n e d r is g v dominated =
    (best-found a n e is).1.candidate.undominated d r g v ((dominates_tells r.version e.1.version).1 dominated)
