-- What is recovered of more frames is what is recovered by them over what was recovered before.
use Rattle.std.proofs.Common.{◌≡◌, ℕ, Bool, true, false, List, [], ◌∷◌, ◌++◌, map, refl, reverse, sym, ap, subst, ◌∙◌, append_assoc}
use Rattle.std.specs.Prelude.{◌==◌, ◌&&◌, ◌||◌, if◌then◌else◌, bytes_eq, cond, filter, find, flat_map, fold, max, not, Option, Some, None, option_map}
use Rattle.std.specs.List.{list_any}
use Rattle.std.specs.Option.{option_map_or, option_or}
use Rattle.std.proofs.lemmas.Bool.{true≢false}
use Rattle.std.proofs.lemmas.Grind.{flat_map-append}
use Rattle.std.proofs.lemmas.List.{map-append, reverse-append}
use Rattle.std.proofs.lemmas.List.Elements.{filter-append}
use Rattle.std.proofs.lemmas.List.Folds.{find-append, list_any-append}
use Rattle.std.proofs.lemmas.List.Sums.{fold-append}
use Rattle.std.proofs.lemmas.Option.{none-some}
use Rattle.folder_core.specs.Announced.{last_of}
use Rattle.folder_core.specs.States.{FolderState, local}
use Rattle.folder_core.proofs.ListFilters.{any_map, filter_filter, filter_swap}
use Rattle.folder_core.proofs.ListTests.{found_in, same_bytes}
use Rattle.folder_core.proofs.ReadAnswers.{all_at}
use Rattle.node_journal.specs.declared.frame.Frame.{Frame}
use Rattle.node_journal.specs.declared.part.Part.{Part}
use Rattle.node_state.specs.declared.state.State.{State}
use Rattle.node_state.specs.declared.state.StoredFolder.{StoredFolder}
use Rattle.sync_record.specs.Devices.{Identity}
use Rattle.sync_record.specs.Infos.{natural, record_of}
use Rattle.sync_record.specs.Records.{Name, FileRecord}
use Rattle.node_replay.specs.declared.recovering.RecoveredFolder.{RecoveredFolder}
use Rattle.node_replay.specs.Recovered.{IsRecovered, IsRecoveredFolder, IsRecoveredFrom, IsRecovery, firsts, folder_stored, ids_of, number_stored, state_after, stored_of, with_plans}
use Rattle.node_replay.specs.Told.{lasts_told, number_after, parts_of, plan_of, records_told}
use Rattle.node_replay.proofs.All.{all-map, all-then}
use Rattle.node_replay.proofs.Firsts.{any-firsts}

-- ---- records

or_assoc : {A : Type 0} (o p q : Option A) → option_or o (option_or p q) ≡ option_or (option_or o p) q
or_assoc None p q = refl
or_assoc (Some x) p q = refl

last_of-append : (n : Name) (told more : List FileRecord) → last_of n (told ++ more) ≡ option_or (last_of n more) (last_of n told)
last_of-append n told more = ap (find (λ r. bytes_eq r.name n)) (reverse-append told more) ∙ find-append (λ r. bytes_eq r.name n) (reverse more) (reverse told)

module _ (told more : List FileRecord) (lasts later : List ℕ) (s t u : FolderState) where
  pub both : IsRecovered told lasts s t → IsRecovered more later t u → IsRecovered (told ++ more) (lasts ++ later) s u
  both first second = record {
    me = second.me ∙ first.me;
    own = λ n.
        second.own n ∙ ap (option_or (last_of n more)) (first.own n)
        ∙ or_assoc (last_of n more) (last_of n told) (local s n)
        ∙ ap (λ o. option_or o (local s n)) (sym (last_of-append n told more));
    others = λ n d other. second.others n d (λ same. other (same ∙ first.me)) ∙ first.others n d other;
    last = second.last ∙ ap (λ m. fold max m later) first.last ∙ sym (fold-append max s.last lasts later);
    pulls = second.pulls;
  }

-- ---- a folder

module _ (me : Identity) (stored : Option StoredFolder) (parts more : List Part) (r q : RecoveredFolder) where
  pub both-from : IsRecoveredFrom me stored parts r → IsRecoveredFrom me (Some r.stored) more q → IsRecoveredFrom me stored (parts ++ more) (record q { plans = r.plans ++ q.plans })
  both-from first second = record {
    index_id = second.index_id ∙ ap (λ n. number_after n more) first.index_id ∙ sym (fold-append (λ n (p : Part). if p.index_id == 0 then n else p.index_id) (number_stored stored) parts more);
    folder =
        let b = both (records_told parts) (records_told more) (lasts_told parts) (lasts_told more) (folder_stored me stored) r.stored.folder q.stored.folder first.folder second.folder in
        subst (λ rs. IsRecovered rs (lasts_told (parts ++ more)) (folder_stored me stored) q.stored.folder) (sym (flat_map-append (λ p. map record_of p.records) parts more))
        (subst (λ ls. IsRecovered (records_told parts ++ records_told more) ls (folder_stored me stored) q.stored.folder) (sym (map-append (λ (p : Part). natural p.last) parts more)) b);
    peers = second.peers ∙ first.peers;
    plans = (λ i. first.plans i ++ second.plans i) ∙ sym (flat_map-append (λ p. map plan_of p.plans) parts more);
  }

-- ---- all folders

pub parts-append : (id : List ℕ) (front rest : List Frame) → parts_of id (front ++ rest) ≡ parts_of id front ++ parts_of id rest
parts-append id front rest =
    ap (filter (λ p. bytes_eq p.id id)) (flat_map-append (λ f. f.folders) front rest)
    ∙ filter-append (λ p. bytes_eq p.id id) (flat_map (λ f. f.folders) front) (flat_map (λ f. f.folders) rest)

abbrev is_other : List ℕ → List ℕ → Bool
is_other x y = not (bytes_eq y x)

twice : {A : Type 0} (p : A → Bool) (xs : List A) → filter p (filter p xs) ≡ filter p xs
twice p xs = filter_filter p p p xs (λ x. itself (p x))
  where
    itself : (b : Bool) → b ≡ (b && b)
    itself true = refl
    itself false = refl

firsts-filter : (p : List ℕ → Bool) (xs : List (List ℕ)) → firsts (filter p xs) ≡ filter p (firsts xs)
firsts-filter p [] = refl
firsts-filter p (x ∷ xs) =
    elim (p x) as (λ b. p x ≡ b → firsts (cond b (x ∷ filter p xs) (filter p xs)) ≡ cond b (x ∷ filter p (filter (is_other x) (firsts xs))) (filter p (filter (is_other x) (firsts xs)))) [
      | true ↦ λ t. ap (λ l. x ∷ l) (ap (filter (is_other x)) (firsts-filter p xs) ∙ filter_swap (is_other x) p (firsts xs))
      | false ↦ λ f. firsts-filter p xs ∙ sym (filter_filter (is_other x) p p (firsts xs) (λ y. others f y (bytes_eq y x) refl))
    ] refl
  where
    others : p x ≡ false → (y : List ℕ) (b : Bool) → bytes_eq y x ≡ b → p y ≡ (not b && p y)
    others f y true t = ap p (same_bytes y x t) ∙ f
    others f y false t = refl

pub firsts-again : (xs ys : List (List ℕ)) → firsts (firsts xs ++ ys) ≡ firsts (xs ++ ys)
firsts-again [] ys = refl
firsts-again (x ∷ xs) ys =
    let p = is_other x in
    ap (λ l. x ∷ l) (
    sym (firsts-filter p (filter p (firsts xs) ++ ys))
    ∙ ap firsts (filter-append p (filter p (firsts xs)) ys ∙ ap (λ l. l ++ filter p ys) (twice p (firsts xs)) ∙ sym (filter-append p (firsts xs) ys))
    ∙ firsts-filter p (firsts xs ++ ys)
    ∙ ap (filter p) (firsts-again xs ys))

abbrev told_ids : List Frame → List (List ℕ)
told_ids frames = map (λ p. p.id) (flat_map (λ f. f.folders) frames)

pub ids-append : (state next : State) (front rest : List Frame) → map (λ f. f.id) next.folders ≡ ids_of state front → ids_of state (front ++ rest) ≡ ids_of next rest
ids-append state next front rest is =
    let old = map (λ (f : StoredFolder). f.id) state.folders in
    ap (λ l. firsts (old ++ l)) (ap (map (λ (p : Part). p.id)) (flat_map-append (λ f. f.folders) front rest) ∙ map-append (λ (p : Part). p.id) (flat_map (λ f. f.folders) front) (flat_map (λ f. f.folders) rest))
    ∙ ap firsts (sym (append_assoc old (told_ids front) (told_ids rest)))
    ∙ sym (firsts-again (old ++ told_ids front) (told_ids rest))
    ∙ ap (λ l. firsts (l ++ told_ids rest)) (sym is)

-- ---- and which of them were there

found-none : {A : Type 0} (p : A → Bool) (xs : List A) → find p xs ≡ None → list_any p xs ≡ false
found-none p [] e = refl
found-none p (x ∷ xs) e =
    elim (p x) as (λ b. cond b (Some x) (find p xs) ≡ None → (b || list_any p xs) ≡ false) [
      | true ↦ λ f. absurd (none-some x (sym f))
      | false ↦ λ f. found-none p xs f
    ] e

none-found : {A : Type 0} (p : A → Bool) (xs : List A) → list_any p xs ≡ false → find p xs ≡ None
none-found p [] e = refl
none-found p (x ∷ xs) e =
    elim (p x) as (λ b. (b || list_any p xs) ≡ false → cond b (Some x) (find p xs) ≡ None) [
      | true ↦ λ f. absurd (true≢false f)
      | false ↦ λ f. none-found p xs f
    ] e

none-left : {A : Type 0} (p : A → Bool) (xs : List A) → list_any p xs ≡ false → filter p xs ≡ []
none-left p [] e = refl
none-left p (x ∷ xs) e =
    elim (p x) as (λ b. (b || list_any p xs) ≡ false → cond b (x ∷ filter p xs) (filter p xs) ≡ []) [
      | true ↦ λ f. absurd (true≢false f)
      | false ↦ λ f. none-left p xs f
    ] e

neither : (a b : Bool) → (a || b) ≡ false → (a ≡ false) × (b ≡ false)
neither true b e = absurd (true≢false e)
neither false b e = (refl, e)

stored-in : (id : List ℕ) (rs : List RecoveredFolder) → stored_of id (map (λ r. r.stored) rs) ≡ option_map (λ r. r.stored) (find (λ r. bytes_eq r.stored.id id) rs)
stored-in id [] = refl
stored-in id (r ∷ rs) =
    elim (bytes_eq r.stored.id id) as (λ b. cond b (Some r.stored) (stored_of id (map (λ r. r.stored) rs)) ≡ option_map (λ r. r.stored) (cond b (Some r) (find (λ r. bytes_eq r.stored.id id) rs))) [
      | true ↦ refl
      | false ↦ stored-in id rs
    ]

ids-after : (rs : List RecoveredFolder) → map (λ f. f.id) (map (λ r. r.stored) rs) ≡ map (λ r. r.stored.id) rs
ids-after [] = refl
ids-after (r ∷ rs) = ap (λ l. r.stored.id ∷ l) (ids-after rs)

module _ (me : Identity) (state : State) (front rest : List Frame) (rs : List RecoveredFolder) (first : IsRecovery me state front rs) where
  -- nothing is stored or told of an id that was not there
  unknown : (id : List ℕ) → find (λ r. bytes_eq r.stored.id id) rs ≡ None → (stored_of id state.folders ≡ None) × (parts_of id front ≡ [])
  unknown id none =
      let is = λ (y : List ℕ). bytes_eq y id in
      let old = map (λ (f : StoredFolder). f.id) state.folders in
      let not : list_any is (old ++ told_ids front) ≡ false =
      sym (any-firsts id (old ++ told_ids front)) ∙ ap (list_any is) (sym first.ids)
      ∙ any_map (λ (r : RecoveredFolder). r.stored.id) is rs ∙ found-none (λ (r : RecoveredFolder). bytes_eq r.stored.id id) rs none in
      let parted = neither (list_any is old) (list_any is (told_ids front)) (sym (list_any-append is old (told_ids front)) ∙ not) in (
        none-found (λ (f : StoredFolder). bytes_eq f.id id) state.folders (sym (any_map (λ (f : StoredFolder). f.id) is state.folders) ∙ parted.0),
        none-left (λ (p : Part). bytes_eq p.id id) (flat_map (λ f. f.folders) front) (sym (any_map (λ (p : Part). p.id) is (flat_map (λ f. f.folders) front)) ∙ parted.1),
      )

  one : (q : RecoveredFolder) → IsRecoveredFolder me (state_after rs) rest q → (o : Option RecoveredFolder) → find (λ r. bytes_eq r.stored.id q.stored.id) rs ≡ o → IsRecoveredFolder me state (front ++ rest) (with_plans rs q)
  one q h None none =
      let id = q.stored.id in
      let new = unknown id none in
      let stored : stored_of id (map (λ r. r.stored) rs) ≡ stored_of id state.folders = stored-in id rs ∙ ap (option_map (λ r. r.stored)) none ∙ sym new.0 in
      let parts : parts_of id rest ≡ parts_of id (front ++ rest) = sym (parts-append id front rest ∙ ap (λ ps. ps ++ parts_of id rest) new.1) in
      let a : IsRecoveredFrom me (stored_of id state.folders) (parts_of id rest) q = subst (λ o. IsRecoveredFrom me o (parts_of id rest) q) stored h in
      let b : IsRecoveredFrom me (stored_of id state.folders) (parts_of id (front ++ rest)) q = subst (λ ps. IsRecoveredFrom me (stored_of id state.folders) ps q) parts a in
      subst (λ ps. IsRecoveredFrom me (stored_of id state.folders) (parts_of id (front ++ rest)) (record q { plans = ps ++ q.plans })) (sym (ap (λ o. option_map_or (λ r. r.plans) o []) none)) b
  one q h (Some r) some =
      let id = q.stored.id in
      let found = found_in (λ (r : RecoveredFolder). bytes_eq r.stored.id id) rs r some in
      let same : r.stored.id ≡ id = same_bytes r.stored.id id found.1 in
      let was : IsRecoveredFolder me state front r = all_at (IsRecoveredFolder me state front) rs r first.each found.0 in
      let a : IsRecoveredFrom me (stored_of id state.folders) (parts_of id front) r = subst (λ x. IsRecoveredFrom me (stored_of x state.folders) (parts_of x front) r) same was in
      let b : IsRecoveredFrom me (Some r.stored) (parts_of id rest) q = subst (λ o. IsRecoveredFrom me o (parts_of id rest) q) (stored-in id rs ∙ ap (option_map (λ r. r.stored)) some) h in
      let c = both-from me (stored_of id state.folders) (parts_of id front) (parts_of id rest) r q a b in
      let d = subst (λ ps. IsRecoveredFrom me (stored_of id state.folders) ps (record q { plans = r.plans ++ q.plans })) (sym (parts-append id front rest)) c in
      subst (λ ps. IsRecoveredFrom me (stored_of id state.folders) (parts_of id (front ++ rest)) (record q { plans = ps ++ q.plans })) (sym (ap (λ o. option_map_or (λ r. r.plans) o []) some)) d

  ids-with : (qs : List RecoveredFolder) → map (λ r. r.stored.id) (map (with_plans rs) qs) ≡ map (λ r. r.stored.id) qs
  ids-with [] = refl
  ids-with (q ∷ qs) = ap (λ l. q.stored.id ∷ l) (ids-with qs)

  pub together : (qs : List RecoveredFolder) → IsRecovery me (state_after rs) rest qs → IsRecovery me state (front ++ rest) (map (with_plans rs) qs)
  together qs second = record {
    ids = ids-with qs ∙ second.ids ∙ sym (ids-append state (state_after rs) front rest (ids-after rs ∙ first.ids));
    each = all-map (IsRecoveredFolder me state (front ++ rest)) (with_plans rs) qs
        (all-then (IsRecoveredFolder me (state_after rs) rest) (λ q. IsRecoveredFolder me state (front ++ rest) (with_plans rs q)) (λ q h. one q h (find (λ r. bytes_eq r.stored.id q.stored.id) rs) refl) qs second.each);
  }
