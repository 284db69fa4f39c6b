-- What is noted of devices, as records are put and taken away.
use Rattle.std.proofs.Common.{eqb-true, ◌≡◌, ◌≢◌, ℕ, ◌<◌, ◌≤◌, Bool, true, false, List, [], ◌∷◌, ◌++◌, length, refl, sym, ap, subst, ◌∙◌, ◌⊎◌, inl, inr, arith}
use Rattle.std.specs.Prelude.{bytes_eq, cond, filter, find, fold, map, max, nat_le, not, Option, Some, None, unwrap_or}
use Rattle.std.specs.FinMap.{empty, entries, get, get-empty, insert, remove}
use Rattle.std.specs.List.{list_all}
use Rattle.std.proofs.lemmas.Bool.{and_parts, leb-true, true≢false, false_from_ne_true}
use Rattle.std.proofs.lemmas.Option.{none-some}
use Rattle.sync_record.specs.Devices.{Identity}
use Rattle.sync_record.specs.Records.{Name, FileRecord}
use Rattle.folder_core.specs.Announced.{Announced, Key, KeyedRecord, announce, is_by, key, key_cmp}
use Rattle.folder_core.proofs.AnnouncedMaps.{insert_here, insert_other, remove_here, remove_other}
use Rattle.folder_core.proofs.ListTests.{In, alike_bytes, get_in, in_filter, in_get, in_map, inside, of_filter, of_map, same_bytes}
use Rattle.folder_core.proofs.Orders.{exact_keys, keys_total}
use Rattle.folder_index.specs.declared.noted.Noted.{Noted}
use Rattle.folder_index.specs.Devices.{greatest_of, sequences_by}
use Rattle.folder_index.specs.Indexes.{AreApart, AreUnlike}
use Rattle.folder_index.specs.Noted.{AreNoted, IsNoted, loosened, nothing_of, noted_of, raised}

abbrev is_noted : Identity → Noted → Bool
is_noted d k = bytes_eq k.device d

module _ (d : Identity) (k : Noted) (own : k.device ≡ d) where
  pub found_new : (ks : List Noted) → find (λ k. bytes_eq k.device d) (filter (λ k. not (bytes_eq k.device d)) ks ++ k ∷ []) ≡ Some k
  found_new [] = ap (λ b. cond b (Some k) None) (alike_bytes k.device d own)
  found_new (x ∷ ks) =
      elim (bytes_eq x.device d) as (λ b. bytes_eq x.device d ≡ b → find (λ k. bytes_eq k.device d) (cond (not b) (x ∷ filter (λ k. not (bytes_eq k.device d)) ks) (filter (λ k. not (bytes_eq k.device d)) ks) ++ k ∷ []) ≡ Some k) [
        | true ↦ λ t. found_new ks
        | false ↦ λ f. ap (λ b. cond b (Some x) (find (λ k. bytes_eq k.device d) (filter (λ k. not (bytes_eq k.device d)) ks ++ k ∷ []))) f ∙ found_new ks
      ] refl

  pub found_other : (e : Identity) → e ≢ d → (ks : List Noted) → find (λ k. bytes_eq k.device e) (filter (λ k. not (bytes_eq k.device d)) ks ++ k ∷ []) ≡ find (λ k. bytes_eq k.device e) ks
  found_other e other [] = ap (λ b. cond b (Some k) None) (false_from_ne_true (bytes_eq k.device e) (λ t. other (sym (same_bytes k.device e t) ∙ own)))
  found_other e other (x ∷ ks) =
      elim (bytes_eq x.device d) as (λ b. bytes_eq x.device d ≡ b → find (λ k. bytes_eq k.device e) (cond (not b) (x ∷ filter (λ k. not (bytes_eq k.device d)) ks) (filter (λ k. not (bytes_eq k.device d)) ks) ++ k ∷ []) ≡ find (λ k. bytes_eq k.device e) (x ∷ ks)) [
        | true ↦ λ t. found_other e other ks ∙ sym (ap (λ b. cond b (Some x) (find (λ k. bytes_eq k.device e) ks)) (false_from_ne_true (bytes_eq x.device e) (λ s. other (sym (same_bytes x.device e s) ∙ same_bytes x.device d t))))
        | false ↦ λ f. ap (cond (bytes_eq x.device e) (Some x)) (found_other e other ks)
      ] refl

-- once a device is forgotten
pub found_none : (d : Identity) (ks : List Noted) → find (λ k. bytes_eq k.device d) (filter (λ k. not (bytes_eq k.device d)) ks) ≡ None
found_none d [] = refl
found_none d (x ∷ ks) =
    elim (bytes_eq x.device d) as (λ b. bytes_eq x.device d ≡ b → find (λ k. bytes_eq k.device d) (cond (not b) (x ∷ filter (λ k. not (bytes_eq k.device d)) ks) (filter (λ k. not (bytes_eq k.device d)) ks)) ≡ None) [
      | true ↦ λ t. found_none d ks
      | false ↦ λ f. ap (λ b. cond b (Some x) (find (λ k. bytes_eq k.device d) (filter (λ k. not (bytes_eq k.device d)) ks))) f ∙ found_none d ks
    ] refl

pub found_still : (d e : Identity) → e ≢ d → (ks : List Noted) → find (λ k. bytes_eq k.device e) (filter (λ k. not (bytes_eq k.device d)) ks) ≡ find (λ k. bytes_eq k.device e) ks
found_still d e other [] = refl
found_still d e other (x ∷ ks) =
    elim (bytes_eq x.device d) as (λ b. bytes_eq x.device d ≡ b → find (λ k. bytes_eq k.device e) (cond (not b) (x ∷ filter (λ k. not (bytes_eq k.device d)) ks) (filter (λ k. not (bytes_eq k.device d)) ks)) ≡ find (λ k. bytes_eq k.device e) (x ∷ ks)) [
      | true ↦ λ t. found_still d e other ks ∙ sym (ap (λ b. cond b (Some x) (find (λ k. bytes_eq k.device e) ks)) (false_from_ne_true (bytes_eq x.device e) (λ s. other (sym (same_bytes x.device e s) ∙ same_bytes x.device d t))))
      | false ↦ λ f. ap (cond (bytes_eq x.device e) (Some x)) (found_still d e other ks)
    ] refl

pub at_most_all : {A : Type 0} (p : A → Bool) (xs : List A) → length (filter p xs) ≤ length xs
at_most_all p [] = omega arith
at_most_all p (x ∷ xs) = elim (p x) as (λ b. length (cond b (x ∷ filter p xs) (filter p xs)) ≤ length (x ∷ xs)) [ true ↦ (let few = at_most_all p xs in omega arith) | false ↦ (let few = at_most_all p xs in omega arith) ]

pub fewer_noted : (d : Identity) (ks : List Noted) (k : Noted) → find (λ k. bytes_eq k.device d) ks ≡ Some k → length (filter (λ k. not (bytes_eq k.device d)) ks) < length ks
fewer_noted d [] k e = absurd (none-some k e)
fewer_noted d (x ∷ ks) k e =
    elim (bytes_eq x.device d) as (λ b. cond b (Some x) (find (λ k. bytes_eq k.device d) ks) ≡ Some k → length (cond (not b) (x ∷ filter (λ k. not (bytes_eq k.device d)) ks) (filter (λ k. not (bytes_eq k.device d)) ks)) < length (x ∷ ks)) [
      | true ↦ λ s. (let few = at_most_all (λ (k : Noted). not (bytes_eq k.device d)) ks in omega arith)
      | false ↦ λ s. (let few = fewer_noted d ks k s in omega arith)
    ] e

pub found_is : (d : Identity) (ks : List Noted) (k : Noted) → find (λ k. bytes_eq k.device d) ks ≡ Some k → k.device ≡ d
found_is d [] k e = absurd (none-some k e)
found_is d (x ∷ ks) k e =
    elim (bytes_eq x.device d) as (λ b. bytes_eq x.device d ≡ b → cond b (Some x) (find (λ k. bytes_eq k.device d) ks) ≡ Some k → k.device ≡ d) [
      | true ↦ λ t s. ap (λ (y : Noted). y.device) (sym (inside x k s)) ∙ same_bytes x.device d t
      | false ↦ λ t s. found_is d ks k s
    ] refl e

-- ---- the greatest sequence of a device

ge_start : (g : ℕ) (qs : List ℕ) → g ≤ fold max g qs
ge_start g [] = omega arith
ge_start g (q ∷ qs) = (let rest = ge_start (max g q) qs in omega arith)

ge_each : (g : ℕ) (qs : List ℕ) (q : ℕ) → In q qs → q ≤ fold max g qs
ge_each g [] q i = absurd i
ge_each g (x ∷ qs) q (inl e) = (let rest = ge_start (max g x) qs in omega arith)
ge_each g (x ∷ qs) q (inr i) = ge_each (max g x) qs q i

le_all : (top g : ℕ) (qs : List ℕ) → g ≤ top → ((q : ℕ) → In q qs → q ≤ top) → fold max g qs ≤ top
le_all top g [] le each = le
le_all top g (q ∷ qs) le each = le_all top (max g q) qs (let here = each q (inl refl) in omega arith) (λ x i. each x (inr i))

module _ (d : Identity) (a : Announced) where
  sequence_of : (q : ℕ) → In q (sequences_by d (entries a)) → (n : Name) × (r : FileRecord) × (get a (key n d) ≡ Some r) × (r.sequence ≡ q)
  sequence_of q i =
      let e = of_map (λ (e : KeyedRecord). e.1.sequence) (filter (is_by d) (entries a)) q i in
      let f = of_filter (is_by d) (entries a) e.0 e.1 in
      let own : e.0.0.device ≡ d = same_bytes e.0.0.device d f.1 in
      (e.0.0.name, e.0.1, ap (λ x. get a (key e.0.0.name x)) (sym own) ∙ in_get keys_total exact_keys a e.0 f.0, e.2)

  sequence_in : (n : Name) (r : FileRecord) → get a (key n d) ≡ Some r → In r.sequence (sequences_by d (entries a))
  sequence_in n r there =
      in_map (λ (e : KeyedRecord). e.1.sequence) (filter (is_by d) (entries a)) (key n d, r) (in_filter (is_by d) (entries a) (key n d, r) (get_in keys_total exact_keys a (key n d) r there) (alike_bytes d d refl))

  pub greatest_le : (g : ℕ) → ((n : Name) (r : FileRecord) → get a (key n d) ≡ Some r → r.sequence ≤ g) → greatest_of (sequences_by d (entries a)) ≤ g
  greatest_le g bounded = le_all g 0 (sequences_by d (entries a)) (omega arith) (λ q i. by q (sequence_of q i))
    where
      by : (q : ℕ) → (n : Name) × (r : FileRecord) × (get a (key n d) ≡ Some r) × (r.sequence ≡ q) → q ≤ g
      by q f = (let le = bounded f.0 f.1 f.2 in let e = f.3 in omega arith)

  pub greatest_ge : (n : Name) (r : FileRecord) → get a (key n d) ≡ Some r → r.sequence ≤ greatest_of (sequences_by d (entries a))
  greatest_ge n r there = ge_each 0 (sequences_by d (entries a)) r.sequence (sequence_in n r there)

-- what a device announced is all that counts
pub noted_too : (k : Noted) (d : Identity) (a b : Announced) → ((n : Name) → get b (key n d) ≡ get a (key n d)) → IsNoted k d a → IsNoted k d b
noted_too k d a b same is = record {
  bounded = λ n r there. is.bounded n r (sym (same n) ∙ there);
  exact = λ t.
      (let le = greatest_le d b (greatest_of (sequences_by d (entries a))) (λ n r there. greatest_ge d a n r (sym (same n) ∙ there)) in
      let ge = greatest_le d a (greatest_of (sequences_by d (entries b))) (λ n r there. greatest_ge d b n r (same n ∙ there)) in
      let one : greatest_of (sequences_by d (entries b)) ≡ greatest_of (sequences_by d (entries a)) = omega arith in one)
      ∙ is.exact t;
}

-- ---- records that are put

get_announce : (d : Identity) (rs : List FileRecord) (a : Announced) (n : Name) (r : FileRecord) → get (announce d rs a) (key n d) ≡ Some r → In r rs ⊎ (get a (key n d) ≡ Some r)
get_announce d [] a n r there = inr there
get_announce d (x ∷ rs) a n r there = by (get_announce d rs (insert a (key x.name d) x) n r there)
  where
    by : In r rs ⊎ (get (insert a (key x.name d) x) (key n d) ≡ Some r) → ((r ≡ x) ⊎ In r rs) ⊎ (get a (key n d) ≡ Some r)
    by (inl i) = inl (inr i)
    by (inr e) =
        elim (bytes_eq x.name n) as (λ b. bytes_eq x.name n ≡ b → ((r ≡ x) ⊎ In r rs) ⊎ (get a (key n d) ≡ Some r)) [
          | true ↦ λ t. inl (inl (sym (inside x r (sym (ap (λ m. get (insert a (key x.name d) x) (key m d)) (sym (same_bytes x.name n t)) ∙ insert_here keys_total exact_keys a (key x.name d) x) ∙ e))))
          | false ↦ λ f. inr (sym (insert_other keys_total exact_keys a (key x.name d) (key n d) x (λ s. true≢false (sym (alike_bytes x.name n (sym (ap (λ (q : Key). q.name) s))) ∙ f))) ∙ e)
        ] refl

unlike_stays : (d : Identity) (n : Name) (rs : List FileRecord) (a : Announced) → AreUnlike n rs → get (announce d rs a) (key n d) ≡ get a (key n d)
unlike_stays d n [] a unlike = refl
unlike_stays d n (x ∷ rs) a unlike =
    unlike_stays d n rs (insert a (key x.name d) x) unlike.1
    ∙ insert_other keys_total exact_keys a (key x.name d) (key n d) x (λ s. unlike.0 (sym (ap (λ (q : Key). q.name) s)))

announce_get : (d : Identity) (rs : List FileRecord) (a : Announced) → AreApart rs → (r : FileRecord) → In r rs → get (announce d rs a) (key r.name d) ≡ Some r
announce_get d [] a apart r i = absurd i
announce_get d (x ∷ rs) a apart r (inl e) =
    ap (λ (y : FileRecord). get (announce d rs (insert a (key x.name d) x)) (key y.name d)) e
    ∙ unlike_stays d x.name rs (insert a (key x.name d) x) apart.0
    ∙ insert_here keys_total exact_keys a (key x.name d) x
    ∙ ap Some (sym e)
announce_get d (x ∷ rs) a apart r (inr i) = announce_get d rs (insert a (key x.name d) x) apart.1 r i

others_stay : (d e : Identity) → e ≢ d → (rs : List FileRecord) (a : Announced) (n : Name) → get (announce d rs a) (key n e) ≡ get a (key n e)
others_stay d e other [] a n = refl
others_stay d e other (x ∷ rs) a n =
    others_stay d e other rs (insert a (key x.name d) x) n
    ∙ insert_other keys_total exact_keys a (key x.name d) (key n e) x (λ s. other (ap (λ (q : Key). q.device) s))

abbrev sequences : List FileRecord → List ℕ
sequences rs = map (λ r. r.sequence) rs

first_reaches : (least : ℕ) (rs : List FileRecord) → list_all (λ r. nat_le least r.sequence) rs ≡ true → rs ≢ [] → (r : FileRecord) × In r rs × (least ≤ r.sequence)
first_reaches least [] all some = absurd (some refl)
first_reaches least (r ∷ rs) all some = (r, inl refl, leb-true least r.sequence (and_parts _ _ all).0)

-- of the device
pub raised_noted : (d : Identity) (rs : List FileRecord) (a : Announced) (k : Noted) → AreApart rs → rs ≢ [] → IsNoted k d a → IsNoted (raised rs k) d (announce d rs a)
raised_noted d rs a k apart some is = record {
  bounded = bounded;
  exact = λ t.
      let le = greatest_le d (announce d rs a) (max (greatest_of (sequences rs)) k.greatest) bounded in
      let rest = le_all (greatest_of (sequences_by d (entries (announce d rs a)))) 0 (sequences rs) (omega arith) (λ q i. of_them q (of_map (λ (r : FileRecord). r.sequence) rs q i)) in
      let first = first_reaches k.greatest rs t some in
      let least = first.2 in
      let there = greatest_ge d (announce d rs a) first.0.name first.0 (announce_get d rs a apart first.0 first.1) in
      omega arith;
}
  where
    bounded : (n : Name) (r : FileRecord) → get (announce d rs a) (key n d) ≡ Some r → r.sequence ≤ max (greatest_of (sequences rs)) k.greatest
    bounded n r there = by (get_announce d rs a n r there)
      where
        by : In r rs ⊎ (get a (key n d) ≡ Some r) → r.sequence ≤ max (greatest_of (sequences rs)) k.greatest
        by (inl i) = (let le = ge_each 0 (sequences rs) r.sequence (in_map (λ (r : FileRecord). r.sequence) rs r i) in omega arith)
        by (inr e) = (let le = is.bounded n r e in omega arith)

    of_them : (q : ℕ) → (r : FileRecord) × In r rs × (r.sequence ≡ q) → q ≤ greatest_of (sequences_by d (entries (announce d rs a)))
    of_them q f = (let le = greatest_ge d (announce d rs a) f.0.name f.0 (announce_get d rs a apart f.0 f.1) in let e = f.2 in omega arith)

-- of all devices
pub all_raised : (me d : Identity) (rs : List FileRecord) (a : Announced) (ks new : List Noted) → d ≢ me → AreApart rs → rs ≢ [] → AreNoted me ks a → noted_of new d ≡ raised rs (noted_of ks d) → ((e : Identity) → e ≢ d → noted_of new e ≡ noted_of ks e) → AreNoted me new (announce d rs a)
all_raised me d rs a ks new other apart some are here others e not_me =
    elim (bytes_eq e d) as (λ b. bytes_eq e d ≡ b → IsNoted (noted_of new e) e (announce d rs a)) [
      | true ↦ λ t. subst (λ x. IsNoted (noted_of new x) x (announce d rs a)) (sym (same_bytes e d t)) (subst (λ k. IsNoted k d (announce d rs a)) (sym here) (raised_noted d rs a (noted_of ks d) apart some (are d other)))
      | false ↦ λ f.
          let apart_from : e ≢ d = λ s. true≢false (sym (alike_bytes e d s) ∙ f) in
          subst (λ k. IsNoted k e (announce d rs a)) (sym (others e apart_from)) (noted_too (noted_of ks e) e a (announce d rs a) (others_stay d e apart_from rs a) (are e not_me))
    ] refl

-- where this device announces it
pub own_noted : (me : Identity) (r : FileRecord) (a : Announced) (ks : List Noted) → AreNoted me ks a → AreNoted me ks (insert a (key r.name me) r)
own_noted me r a ks are e not_me = noted_too (noted_of ks e) e a (insert a (key r.name me) r) (others_stay me e not_me (r ∷ []) a) (are e not_me)

-- ---- a record that is taken away

loosened_noted : (d : Identity) (a b : Announced) (k : Noted) → ((n : Name) (r : FileRecord) → get b (key n d) ≡ Some r → get a (key n d) ≡ Some r) → IsNoted k d a → IsNoted (loosened k) d b
loosened_noted d a b k fewer is = record {
  bounded = λ n r there. is.bounded n r (fewer n r there);
  exact = λ t.
      let zero : k.greatest ≡ 0 = eqb-true k.greatest 0 t in
      let le = greatest_le d b k.greatest (λ n r there. is.bounded n r (fewer n r there)) in
      omega arith;
}

taken_too : (d : Identity) (n : Name) (a : Announced) (m : Name) (r : FileRecord) → get (remove a (key n d)) (key m d) ≡ Some r → get a (key m d) ≡ Some r
taken_too d n a m r there =
    elim (bytes_eq m n) as (λ b. bytes_eq m n ≡ b → get a (key m d) ≡ Some r) [
      | true ↦ λ t. absurd (none-some r (sym (remove_here keys_total exact_keys a (key n d)) ∙ ap (λ x. get (remove a (key n d)) (key x d)) (sym (same_bytes m n t)) ∙ there))
      | false ↦ λ f. sym (remove_other keys_total exact_keys a (key n d) (key m d) (λ s. true≢false (sym (alike_bytes m n (ap (λ (q : Key). q.name) s)) ∙ f))) ∙ there
    ] refl

pub all_loosened : (me d : Identity) (n : Name) (a : Announced) (ks new : List Noted) → AreNoted me ks a → noted_of new d ≡ loosened (noted_of ks d) → ((e : Identity) → e ≢ d → noted_of new e ≡ noted_of ks e) → AreNoted me new (remove a (key n d))
all_loosened me d n a ks new are here others e not_me =
    elim (bytes_eq e d) as (λ b. bytes_eq e d ≡ b → IsNoted (noted_of new e) e (remove a (key n d))) [
      | true ↦ λ t. subst (λ x. x ≢ me → IsNoted (noted_of new x) x (remove a (key n d))) (sym (same_bytes e d t)) (λ other. subst (λ k. IsNoted k d (remove a (key n d))) (sym here) (loosened_noted d a (remove a (key n d)) (noted_of ks d) (taken_too d n a) (are d other))) not_me
      | false ↦ λ f.
          let apart_from : e ≢ d = λ s. true≢false (sym (alike_bytes e d s) ∙ f) in
          subst (λ k. IsNoted k e (remove a (key n d))) (sym (others e apart_from)) (noted_too (noted_of ks e) e a (remove a (key n d)) (λ m. remove_other keys_total exact_keys a (key n d) (key m e) (λ s. apart_from (ap (λ (q : Key). q.device) s))) (are e not_me))
    ] refl

-- ---- a device that is forgotten

pub all_forgotten : (me d : Identity) (a : Announced) (ks new : List Noted) → ((n : Name) → get a (key n d) ≡ None) → AreNoted me ks a → noted_of new d ≡ nothing_of d → ((e : Identity) → e ≢ d → noted_of new e ≡ noted_of ks e) → AreNoted me new a
all_forgotten me d a ks new none are here others e not_me =
    elim (bytes_eq e d) as (λ b. bytes_eq e d ≡ b → IsNoted (noted_of new e) e a) [
      | true ↦ λ t. subst (λ x. IsNoted (noted_of new x) x a) (sym (same_bytes e d t)) (subst (λ k. IsNoted k d a) (sym here) (record {
        bounded = λ n r there. absurd (none-some r (sym (none n) ∙ there));
        exact = λ t. (let le = greatest_le d a 0 (λ n r there. absurd (none-some r (sym (none n) ∙ there))) in omega arith);
      }))
      | false ↦ λ f. subst (λ k. IsNoted k e a) (sym (others e (λ s. true≢false (sym (alike_bytes e d s) ∙ f)))) (are e not_me)
    ] refl

-- nothing is announced, and nothing noted
pub none_noted : (me : Identity) → AreNoted me [] empty
none_noted me e not_me = record {
  bounded = λ n r there. absurd (none-some r (sym (get-empty key_cmp (key n e)) ∙ there));
  exact = λ t. (let le = greatest_le e empty 0 (λ n r there. absurd (none-some r (sym (get-empty key_cmp (key n e)) ∙ there))) in omega arith);
}

-- what is noted of a device is of it
pub noted_device : (d : Identity) (ks : List Noted) → (noted_of ks d).device ≡ d
noted_device d ks = by (find (λ k. bytes_eq k.device d) ks) refl
  where
    by : (o : Option Noted) → find (λ k. bytes_eq k.device d) ks ≡ o → (unwrap_or o (nothing_of d)).device ≡ d
    by None e = refl
    by (Some k) e = found_is d ks k e
