-- What is restored from records is a folder, and every folder may be restored from its own.
use Rattle.std.proofs.Common.{◌≡◌, ◌≢◌, ◌↔◌, ◌⊎◌, zero, suc, true, false, List, [], ◌∷◌, get_or, refl, sym, ap, subst, ◌∙◌, arith, inl, inr}
use Rattle.std.specs.Prelude.{cond, ℤ, pos, negsuc, map, Some, None, Contains, AllPairs, IsTrue}
use Rattle.std.specs.Cmp.{Equal-is, tied_itself}
use Rattle.std.specs.Ordering.{eq_by_cmp, is_eq}
use Rattle.std.specs.FinMap.{get, entries, empty, find, from_entries, get-from_entries, get-entries, get-empty, len-entries, len-empty, same_map}
use Rattle.std.proofs.lemmas.Bool.{false_from_ne_true, true≢false}
use Rattle.std.proofs.lemmas.Option.{none-some}
use Rattle.sync_record.specs.Devices.{Identity, bytes_cmp}
use Rattle.sync_record.specs.Infos.{is_natural, natural}
use Rattle.sync_record.specs.Records.{Name, FileRecord}
use Rattle.folder_core.specs.Announced.{Announced, KeyedRecord, IsNamed, Key, key, key_cmp, by_device}
use Rattle.folder_core.specs.States.{FolderState, Pull, IsFolder, local}
use Rattle.folder_core.specs.Restores.{MayRestore, key_of, records_of, restored_folder}
use Rattle.folder_core.proofs.ListTests.{inside, In, in_contains, contains_in, in_map, of_map, in_get}
use Rattle.folder_core.proofs.Orders.{keys_total, exact_keys}
use Rattle.folder_core.proofs.PullCommits.{none_counted}
use Rattle.folder_core.proofs.ReadLists.{Apart, at_in, apart-map}
use Rattle.folder_core.proofs.ReadNumbers.{entries-apart, one-entry}

-- ---- elements of which something is apart

module _ {A B : Type 0} (f : A → B) where
  pub pairs-apart_by : (xs : List A) → AllPairs (λ x y. f x ≢ f y) xs → Apart (map f xs)
  pairs-apart_by [] pairs = tt
  pairs-apart_by (x ∷ xs) pairs = (
    λ i.
        let m = of_map f xs (f x) i in
        let c = in_contains xs m.0 m.1 in
        let b = c.1 in
        pairs 0 (suc c.0) m.0 (omega arith) (omega arith) (sym m.2 ∙ ap f (sym c.2)),
    pairs-apart_by xs (λ i j d before below. pairs (suc i) (suc j) d (omega arith) (omega arith)),
  )

  pub apart-pairs_by : (xs : List A) → Apart (map f xs) → AllPairs (λ x y. f x ≢ f y) xs
  apart-pairs_by [] apart i j d before below = absurd (omega arith)
  apart-pairs_by (x ∷ xs) apart i zero d before below = absurd (omega arith)
  apart-pairs_by (x ∷ xs) apart zero (suc j) d before below = λ same.
      apart.0 (subst (λ y. In y (map f xs)) (sym same) (in_map f xs (get_or xs j d) (at_in xs j d (omega arith))))
  apart-pairs_by (x ∷ xs) apart (suc i) (suc j) d before below = apart-pairs_by xs apart.1 i j d (omega arith) (omega arith)

-- ---- what is looked up among the records

abbrev filed : Identity × FileRecord → KeyedRecord
filed p = (key_of p, p.1)

abbrev given : List (Identity × FileRecord) → Announced
given records = from_entries (map filed records)

pub tie : (k : Key) → eq_by_cmp key_cmp k k ≡ true
tie k = ap is_eq (tied_itself keys_total k)

found-filed : (ps : List (Identity × FileRecord)) (p : Identity × FileRecord) → Apart (map key_of ps) → In p ps → find key_cmp (key_of p) (map filed ps) ≡ Some p.1
found-filed [] p apart i = absurd i
found-filed (q ∷ ps) p apart (inl e) =
    ap (λ (x : Identity × FileRecord). cond (eq_by_cmp key_cmp (key_of x) (key_of q)) (Some q.1) (find key_cmp (key_of x) (map filed ps))) e
    ∙ ap (λ b. cond b (Some q.1) (find key_cmp (key_of q) (map filed ps))) (tie (key_of q))
    ∙ ap (λ (x : Identity × FileRecord). Some x.1) (sym e)
found-filed (q ∷ ps) p apart (inr i) =
    let other = false_from_ne_true (eq_by_cmp key_cmp (key_of p) (key_of q)) (λ t.
    let same = exact_keys (key_of p) (key_of q) ((Equal-is (key_cmp (key_of p) (key_of q))).0 t) in
    apart.0 (subst (λ k. In k (map key_of ps)) same (in_map key_of ps p i))) in
    ap (λ b. cond b (Some q.1) (find key_cmp (key_of p) (map filed ps))) other ∙ found-filed ps p apart.1 i

filed-found : (ps : List (Identity × FileRecord)) (k : Key) (r : FileRecord) → find key_cmp k (map filed ps) ≡ Some r → In (k.device, r) ps × (r.name ≡ k.name)
filed-found [] k r e = absurd (none-some r e)
filed-found (q ∷ ps) k r e =
    elim (eq_by_cmp key_cmp k (key_of q)) as (λ b. eq_by_cmp key_cmp k (key_of q) ≡ b → cond b (Some q.1) (find key_cmp k (map filed ps)) ≡ Some r → (((k.device, r) ≡ q) ⊎ In (k.device, r) ps) × (r.name ≡ k.name)) [
      | true ↦ λ t f.
          let same = exact_keys k (key_of q) ((Equal-is (key_cmp k (key_of q))).0 t) in
          let value : r ≡ q.1 = sym (inside q.1 r f) in
          (inl (λ i. ((same i).device, value i)), ap (λ (x : FileRecord). x.name) value ∙ ap (λ (x : Key). x.name) (sym same))
      | false ↦ λ t f. let h = filed-found ps k r f in (inr h.0, h.1)
    ] refl e

module _ (records : List (Identity × FileRecord)) where
  pub given-found : (k : Key) (r : FileRecord) → get (given records) k ≡ Some r → In (k.device, r) records × (r.name ≡ k.name)
  given-found k r g = filed-found records k r (sym (get-from_entries keys_total (map filed records) k) ∙ g)

  pub found-given : AllPairs (λ p q. key_of p ≢ key_of q) records → (d : Identity) (r : FileRecord) → In (d, r) records → get (given records) (key r.name d) ≡ Some r
  found-given once d r i = get-from_entries keys_total (map filed records) (key r.name d) ∙ found-filed records (d, r) (pairs-apart_by key_of records once) i

-- ---- a folder is restored

none_there : {A B : Type 0} (x : A) → None ≡ Some x → B
none_there x e = absurd (none-some x e)

module _ (me : Identity) (records : List (Identity × FileRecord)) (last : ℤ) where
  abbrev restored : FolderState
  restored = restored_folder me records last

  own-given : (n : Name) (r : FileRecord) → local restored n ≡ Some r → Contains records (me, r) × (r.name ≡ n)
  own-given n r g = let h = given-found records (key n me) r g in (in_contains records (me, r) h.0, h.1)

  pub restored-folder : MayRestore me records last → IsFolder restored
  restored-folder m = record {
    named = λ k r g. (given-found records k r g).1;
    valid = λ n r g. m.valid r (own-given n r g).0;
    numbered = record {
      in_range = λ n r g. m.in_range r (own-given n r g).0;
      distinct = λ k n q r g h same.
          let a = own-given k q g in
          let b = own-given n r h in
          sym a.1 ∙ ap (λ (x : FileRecord). x.name) (m.distinct q r a.0 b.0 same) ∙ b.1;
    };
    unmoved = λ n p g. none_there p (sym (get-empty bytes_cmp n) ∙ g);
    targets = λ n p g. none_there p (sym (get-empty bytes_cmp n) ∙ g);
    room =
        let none = none_counted (entries (empty {R = bytes_cmp})) (sym (len-entries empty) ∙ len-empty bytes_cmp Pull) in
        let fits = m.fits in
        omega arith;
  }

  own-found : AllPairs (λ p q. key_of p ≢ key_of q) records → (r : FileRecord) → Contains records (me, r) → local restored r.name ≡ Some r
  own-found once r c = found-given records once me r (contains_in records (me, r) c)

  pub folder-restored : IsTrue (is_natural last) → AllPairs (λ p q. key_of p ≢ key_of q) records → IsFolder restored → MayRestore me records last
  folder-restored natural once folder = record {
    not_negative = natural;
    fits = let room = folder.room in omega arith;
    once = once;
    valid = λ r c. folder.valid r.name r (own-found once r c);
    in_range = λ r c. folder.numbered.in_range r.name r (own-found once r c);
    distinct = λ q r c d same.
        let g = own-found once q c in
        let h = own-found once r d in
        let named = folder.numbered.distinct q.name r.name q r g h same in
        inside q r (sym g ∙ ap (local restored) named ∙ h);
  }

  pub restored-records : MayRestore me records last → (d : Identity) (n : Name) (r : FileRecord) → (get restored.announced (key n d) ≡ Some r) ↔ (Contains records (d, r) × (r.name ≡ n))
  restored-records m d n r = (
    λ g. let h = given-found records (key n d) r g in (in_contains records (d, r) h.0, h.1),
    λ h. ap (λ x. get restored.announced (key x d)) (sym h.1) ∙ found-given records m.once d r (contains_in records (d, r) h.0),
  )

pub restored-last : (z : ℤ) → IsTrue (is_natural z) → pos (natural z) ≡ z
restored-last (pos n) e = refl
restored-last (negsuc n) e = absurd (true≢false (sym e))

-- ---- a folder's own records

filed-again : (es : List KeyedRecord) → ((e : KeyedRecord) → In e es → e.1.name ≡ e.0.name) → map filed (map by_device es) ≡ es
filed-again [] named = refl
filed-again (e ∷ es) named =
    let name = named e (inl refl) in
    let rest = filed-again es (λ f i. named f (inr i)) in
    λ i. (key (name i) e.0.device, e.1) ∷ rest i

keys-again : (es : List KeyedRecord) → ((e : KeyedRecord) → In e es → e.1.name ≡ e.0.name) → map key_of (map by_device es) ≡ map (λ e. e.0) es
keys-again [] named = refl
keys-again (e ∷ es) named =
    let name = named e (inl refl) in
    let rest = keys-again es (λ f i. named f (inr i)) in
    λ i. key (name i) e.0.device ∷ rest i

given-again : (a : Announced) → IsNamed a → given (map by_device (entries a)) ≡ a
given-again a named = same_map keys_total exact_keys (given (map by_device (entries a))) a (λ k.
    get-from_entries keys_total (map filed (map by_device (entries a))) k
    ∙ ap (find key_cmp k) (filed-again (entries a) (λ e i. named e.0 e.1 (in_get keys_total exact_keys a e i)))
    ∙ sym (get-entries a k))

module _ (s : FolderState) (folder : IsFolder s) where
  pub restored-again : restored_folder s.me (records_of s) (pos s.last) ≡ record s { pulls = empty }
  restored-again = ap (λ a. record s { announced = a; pulls = empty }) (given-again s.announced folder.named)

  once-again : AllPairs (λ p q. key_of p ≢ key_of q) (records_of s)
  once-again =
      let es : List KeyedRecord = entries s.announced in
      let keys : Apart (map (λ (e : KeyedRecord). e.0) es) =
      apart-map (λ (e : KeyedRecord). e.0) es (entries-apart keys_total exact_keys s.announced) (one-entry keys_total exact_keys s.announced) in
      apart-pairs_by key_of (records_of s) (subst Apart (sym (keys-again es (λ e i. folder.named e.0 e.1 (in_get keys_total exact_keys s.announced e i)))) keys)

  own-again : (r : FileRecord) → Contains (records_of s) (s.me, r) → local s r.name ≡ Some r
  own-again r c =
      let m = of_map by_device (entries s.announced) (s.me, r) (contains_in (records_of s) (s.me, r) c) in
      let e : KeyedRecord = m.0 in
      let g = in_get keys_total exact_keys s.announced e m.1 in
      let value : e.1 ≡ r = ap (λ (p : Identity × FileRecord). p.1) m.2 in
      let device : e.0.device ≡ s.me = ap (λ (p : Identity × FileRecord). p.0) m.2 in
      let name : r.name ≡ e.0.name = ap (λ (x : FileRecord). x.name) (sym value) ∙ folder.named e.0 e.1 g in
      (λ i. get s.announced (key (name i) (sym device i))) ∙ g ∙ ap Some value

  pub may-again : MayRestore s.me (records_of s) (pos s.last)
  may-again = record {
    not_negative = refl;
    fits = let room = folder.room in omega arith;
    once = once-again;
    valid = λ r c. folder.valid r.name r (own-again r c);
    in_range = λ r c. folder.numbered.in_range r.name r (own-again r c);
    distinct = λ q r c d same.
        let g = own-again q c in
        let h = own-again r d in
        inside q r (sym g ∙ ap (local s) (folder.numbered.distinct q.name r.name q r g h same) ∙ h);
  }
