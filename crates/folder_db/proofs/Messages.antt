-- What an index message, and the forgetting of a device, make of an index is the step's.
use Rattle.std.proofs.Common.{◌≡◌, ◌≢◌, ℕ, ◌+◌, ◌-◌, ◌^◌, ◌≤◌, Bool, true, false, List, [], ◌∷◌, length, refl, sym, ap, subst, ◌∙◌, arith}
use Rattle.std.proofs.lemmas.List.{reverse-append}
use Rattle.std.specs.Prelude.{bytes_eq, ◌||◌, cond, filter, find as first_where, is_some, map, not, reverse, T, Option, Some, None}
use Rattle.std.specs.Bool.{passes}
use Rattle.std.specs.Cmp.{Equal-is, tied_itself}
use Rattle.std.specs.FinMap.{contains_key, entries, entries_sorted, from_sorted, get, get-remove, is_sorted, put, remove, same_map}
use Rattle.std.specs.FinMap.Entries.{below_all, is_sorted-put}
use Rattle.std.specs.FinSet.{contains, contains-from_list, len, len-empty, len-insert, same_set}
use Rattle.std.specs.List.{list_any}
use Rattle.std.specs.Option.{option_or}
use Rattle.std.specs.Ordering.{eq_by_cmp, is_eq}
use Rattle.std.specs.declared.cmp.Ordering.TheVariants.{Less, Equal}
use Rattle.std.proofs.lemmas.Bool.{true≢false}
use Rattle.std.proofs.lemmas.List.Folds.{find-append}
use Rattle.sync_record.specs.Devices.{Identity, bytes_cmp}
use Rattle.sync_record.specs.Records.{Name, FileRecord}
use Rattle.folder_core.specs.Announced.{Announced, Key, KeyedRecord, announce, is_by, key, key_cmp, last_of, without}
use Rattle.folder_core.specs.Plain.{IsLastOfEach, NamesRise, filed_by, named, pulls_of, put_all}
use Rattle.folder_core.specs.States.{FolderState, IsFolder}
use Rattle.folder_core.specs.Steps.{MayChange, step}
use Rattle.folder_core.specs.declared.answer.Answer.{Answer}
use Rattle.folder_core.specs.declared.answer.Answer.TheVariants.{Applied}
use Rattle.folder_core.specs.declared.change.Change.{Change}
use Rattle.folder_core.specs.declared.change.Change.TheVariants.{Forget, IndexFull, IndexMore}
use Rattle.folder_core.specs.declared.plain.pull.OpenPull.{OpenPull}
use Rattle.folder_core.proofs.AnnouncedIndexes.{get-announce, get-announce_own, get-index_other, get-index_own, same_key}
use Rattle.folder_core.proofs.ChangeFolders.{step-folder}
use Rattle.folder_core.proofs.ListTests.{alike_bytes, any_in, by_or, get_in, in_any, in_filter, in_map, is_less, of_filter, parts, same_bytes}
use Rattle.folder_core.proofs.Orders.{bytes_total, exact_keys, exact_names, insert_listed, is_true, keys_total, listed}
use Rattle.folder_core.proofs.PlainChange.{announce-sorted}
use Rattle.folder_core.proofs.PlainOwn.{same_tests}
use Rattle.folder_index.specs.Devices.{names_by, without_device, without_names}
use Rattle.folder_index.specs.Indexes.{AreApart, AreUnlike, IndexState, counted, with_records, without_record}
use Rattle.folder_index.proofs.Announcing.{forgotten, names_me, names_promised}
use Rattle.folder_db.specs.Indexed.{IsIndexed, counted_more, folder_with, names_in}

-- ---- of a message the last of each name counts

announce-put : (d : Identity) (rs : List FileRecord) (es : List KeyedRecord) → is_sorted key_cmp es ≡ true → announce d rs (from_sorted es) ≡ from_sorted (put_all es (map (filed_by d) rs))
announce-put d [] es h = refl
announce-put d (r ∷ rs) es h =
    ap (announce d rs) (insert_listed keys_total exact_keys es (key r.name d) r h)
    ∙ announce-put d rs (put key_cmp (key r.name d) r es) (is_true _ (is_sorted-put key_cmp keys_total (key r.name d) r es (passes _ h)))

pub same-announced : (d : Identity) (records kept : List FileRecord) (a : Announced) → IsLastOfEach records kept → announce d kept a ≡ announce d records a
same-announced d records kept a l =
    ap (announce d kept) (listed keys_total exact_keys a)
    ∙ announce-put d kept (entries a) (is_true _ (entries_sorted a))
    ∙ sym (announce-sorted d records kept (entries a) l (entries_sorted a))
    ∙ ap (announce d records) (sym (listed keys_total exact_keys a))

-- ---- names that rise

less-unlike : (n m : Name) → bytes_cmp n m ≡ Less → m ≢ n
less-unlike n m less same = let e : Less ≡ Equal = sym less ∙ ap (bytes_cmp n) same ∙ tied_itself bytes_total n in cc

unlike-below : (n : Name) (rs : List FileRecord) → T (below_all bytes_cmp n (map named rs)) → AreUnlike n rs
unlike-below n [] b = tt
unlike-below n (r ∷ rs) b = (less-unlike n r.name (is_less _ (parts _ _ b).0), unlike-below n rs (parts _ _ b).1)

pub apart-rising : (rs : List FileRecord) → NamesRise rs → AreApart rs
apart-rising [] h = tt
apart-rising (r ∷ rs) h = let b = parts _ _ (passes _ h) in (unlike-below r.name rs b.0, apart-rising rs (is_true _ b.1))

pub tied-name : (n m : Name) → eq_by_cmp bytes_cmp n m ≡ bytes_eq m n
tied-name n m = same_tests _ _
    (λ t. alike_bytes m n (sym (exact_names n m ((Equal-is (bytes_cmp n m)).0 t))))
    (λ t. ap (λ x. eq_by_cmp bytes_cmp n x) (same_bytes m n t) ∙ ap is_eq (tied_itself bytes_total n))

pub none-below : (n : Name) (rs : List FileRecord) → T (below_all bytes_cmp n (map named rs)) → list_any (eq_by_cmp bytes_cmp n) (map (λ r. r.name) rs) ≡ false
none-below n [] b = refl
none-below n (r ∷ rs) b = ap (λ o. is_eq o || list_any (eq_by_cmp bytes_cmp n) (map (λ r. r.name) rs)) (is_less _ (parts _ _ b).0) ∙ none-below n rs (parts _ _ b).1

pub names-counted : (rs : List FileRecord) → NamesRise rs → len (names_in rs) ≡ length rs
names-counted [] h = len-empty bytes_cmp
names-counted (r ∷ rs) h =
    let b = parts _ _ (passes _ h) in
    let rest = names-counted rs (is_true _ b.1) in
    len-insert bytes_total (names_in rs) r.name
    ∙ ap (λ c. cond c (len (names_in rs)) (len (names_in rs) + 1)) (contains-from_list bytes_total (map (λ r. r.name) rs) r.name ∙ none-below r.name rs b.0)
    ∙ omega arith

pub has-name : (n : Name) (rs : List FileRecord) → list_any (eq_by_cmp bytes_cmp n) (map (λ r. r.name) rs) ≡ list_any (λ r. bytes_eq r.name n) rs
has-name n [] = refl
has-name n (r ∷ rs) = λ i. tied-name n r.name i || has-name n rs i

some-named : (n : Name) (rs : List FileRecord) → is_some (first_where (λ r. bytes_eq r.name n) rs) ≡ list_any (λ r. bytes_eq r.name n) rs
some-named n [] = refl
some-named n (r ∷ rs) = by (bytes_eq r.name n) (some-named n rs)
  where
    by : (b : Bool) → is_some (first_where (λ r. bytes_eq r.name n) rs) ≡ list_any (λ r. bytes_eq r.name n) rs → is_some (cond b (Some r) (first_where (λ r. bytes_eq r.name n) rs)) ≡ (b || list_any (λ r. bytes_eq r.name n) rs)
    by true rest = refl
    by false rest = rest

some-last : (n : Name) (rs : List FileRecord) → is_some (last_of n rs) ≡ list_any (λ r. bytes_eq r.name n) rs
some-last n [] = refl
some-last n (r ∷ rs) =
    ap is_some (ap (first_where (λ r. bytes_eq r.name n)) (reverse-append (r ∷ []) rs) ∙ find-append (λ r. bytes_eq r.name n) (reverse rs) (r ∷ []))
    ∙ by (bytes_eq r.name n) (last_of n rs)
    ∙ ap (λ b. bytes_eq r.name n || b) (some-last n rs)
  where
    by : (b : Bool) (o : Option FileRecord) → is_some (option_or o (cond b (Some r) None)) ≡ (b || is_some o)
    by true None = refl
    by true (Some q) = refl
    by false None = refl
    by false (Some q) = refl

pub same-any : (n : Name) (records kept : List FileRecord) → IsLastOfEach records kept → list_any (eq_by_cmp bytes_cmp n) (map (λ r. r.name) kept) ≡ list_any (eq_by_cmp bytes_cmp n) (map (λ r. r.name) records)
same-any n records kept l = has-name n kept ∙ sym (some-named n kept) ∙ ap is_some (l.last n) ∙ sym (has-name n records ∙ sym (some-last n records))

same-names : (records kept : List FileRecord) → IsLastOfEach records kept → names_in kept ≡ names_in records
same-names records kept l = same_set bytes_total exact_names (names_in kept) (names_in records) (λ n.
    contains-from_list bytes_total (map (λ r. r.name) kept) n ∙ same-any n records kept l ∙ sym (contains-from_list bytes_total (map (λ r. r.name) records) n))

-- as many records count as the message has names
pub kept-counted : (records kept : List FileRecord) → IsLastOfEach records kept → length kept ≡ len (names_in records)
kept-counted records kept l = sym (names-counted kept l.rise) ∙ ap len (same-names records kept l)

-- a message without records counts none
pub none-counted : (n : ℕ) → n ≤ 2 ^ 64 - 1 → (records : List FileRecord) → records ≡ [] → n ≡ counted_more n (len (names_in records))
none-counted n low records none = let many = ap (λ rs. len (names_in rs)) none ∙ len-empty bytes_cmp in omega arith

-- ---- a change of what other devices announce

names-low : (d : Identity) (ns : List Name) (s : IndexState) → s.choices ≤ 2 ^ 64 - 1 → (without_names d ns s).choices ≤ 2 ^ 64 - 1
names-low d [] s low = low
names-low d (n ∷ ns) s low = names-low d ns (without_record d n s) (by (contains_key s.announced (key n d)))
  where
    by : (b : Bool) → (cond b (record { me = s.me; announced = remove s.announced (key n d); choices = counted s.choices; promised = s.promised }) s).choices ≤ 2 ^ 64 - 1
    by true = omega arith
    by false = low

module _ (s : IndexState) (last : ℕ) (ps : List OpenPull) (copies : List (Option FileRecord)) (is : IsIndexed s last ps copies) where
  abbrev pub state : FolderState
  state = folder_with s last (pulls_of ps)

  pub applied-indexed : (c : Change) (new : IndexState) → MayChange s.me c → step state c ≡ (Applied, folder_with new last (pulls_of ps)) → new.promised ≡ s.promised → new.choices ≤ 2 ^ 64 - 1 → IsIndexed new last ps copies
  applied-indexed c new may answer promised low = record {
    pulls_rise = is.pulls_rise;
    folder = subst IsFolder (ap (λ (d : Answer × FolderState). d.1) answer) (step-folder state c is.folder may);
    ready = is.ready;
    copied = is.copied;
    reserved = λ n. ap (λ p. contains p n) promised ∙ is.reserved n;
    counted = low;
  }

  module _ (d : Identity) (other : d ≢ s.me) where
    pub more-step : (records kept : List FileRecord) → IsLastOfEach records kept → step state (IndexMore d records) ≡ (Applied, folder_with (with_records d kept s) last (pulls_of ps))
    more-step records kept l = ap (λ a. (Applied, record state { announced = a })) (sym (same-announced d records kept s.announced l))

    pub more-indexed : (records kept : List FileRecord) → IsLastOfEach records kept → IsIndexed (with_records d kept s) last ps copies
    more-indexed records kept l = applied-indexed (IndexMore d records) (with_records d kept s) other (more-step records kept l) refl (omega arith)

    pub more-counted : (records kept : List FileRecord) → IsLastOfEach records kept → (with_records d kept s).choices ≡ counted_more s.choices (len (names_in records))
    more-counted records kept l = ap (counted_more s.choices) (kept-counted records kept l)

    pub forget-step : step state (Forget d) ≡ (Applied, folder_with (without_device d s) last (pulls_of ps))
    forget-step = (λ i. (Applied, record { me = sym (names_me d (names_by d (entries s.announced)) s) i; announced = sym (forgotten d s) i; last = last; pulls = pulls_of ps }))

    pub forget-indexed : IsIndexed (without_device d s) last ps copies
    forget-indexed = applied-indexed (Forget d) (without_device d s) other forget-step (names_promised d (names_by d (entries s.announced)) s) (names-low d (names_by d (entries s.announced)) s is.counted)

-- ---- what a full index leaves out

abbrev pub stale : Identity → List FileRecord → Announced → List Name
stale d kept a = filter (λ n. not (list_any (λ r. bytes_eq r.name n) kept)) (names_by d (entries a))

module _ (d : Identity) where
  abbrev at : Key → Name → Bool
  at q n = eq_by_cmp key_cmp q (key n d)

  pub one-cleared : (n : Name) (s : IndexState) (q : Key) → get (without_record d n s).announced q ≡ cond (at q n) None (get s.announced q)
  one-cleared n s q = by (contains_key s.announced (key n d)) refl
    where
      absent : (b : Bool) → at q n ≡ b → is_some (get s.announced (key n d)) ≡ false → get s.announced q ≡ cond b None (get s.announced q)
      absent true t none = ap (get s.announced) (same_key q (key n d) t) ∙ no_one (get s.announced (key n d)) none
        where
          no_one : (o : Option FileRecord) → is_some o ≡ false → o ≡ None
          no_one None e = refl
          no_one (Some r) e = absurd (true≢false e)
      absent false t none = refl

      by : (b : Bool) → contains_key s.announced (key n d) ≡ b → get (cond b (record { me = s.me; announced = remove s.announced (key n d); choices = counted s.choices; promised = s.promised }) s).announced q ≡ cond (at q n) None (get s.announced q)
      by true t = get-remove keys_total s.announced (key n d) q
      by false f = absent (at q n) refl f

  names-cleared : (ns : List Name) (s : IndexState) (q : Key) → get (without_names d ns s).announced q ≡ cond (list_any (at q) ns) None (get s.announced q)
  names-cleared [] s q = refl
  names-cleared (n ∷ ns) s q =
      names-cleared ns (without_record d n s) q
      ∙ ap (λ o. cond (list_any (at q) ns) None o) (one-cleared n s q)
      ∙ either (at q n) (list_any (at q) ns)
    where
      either : (a b : Bool) → cond b None (cond a None (get s.announced q)) ≡ cond (a || b) None (get s.announced q)
      either true true = refl
      either true false = refl
      either false b = refl

  -- other devices' records are none of them
  none-other : (q : Key) (ns : List Name) → q.device ≢ d → list_any (at q) ns ≡ false
  none-other q [] other = refl
  none-other q (n ∷ ns) other =
      by_or (at q n) (list_any (at q) (n ∷ ns) ≡ false)
      (λ t. absurd (other (ap (λ (k : Key). k.device) (same_key q (key n d) t))))
      (λ f. ap (λ b. b || list_any (at q) ns) f ∙ none-other q ns other)

  own-at : (n : Name) → at (key n d) n ≡ true
  own-at n = ap is_eq (tied_itself keys_total (key n d))

  -- a name of the message is none of them
  none-kept : (kept : List FileRecord) (a : Announced) (n : Name) → list_any (λ r. bytes_eq r.name n) kept ≡ true → list_any (at (key n d)) (stale d kept a) ≡ false
  none-kept kept a n has =
      by_or (list_any (at (key n d)) (stale d kept a)) (list_any (at (key n d)) (stale d kept a) ≡ false)
      (λ t.
      let found = any_in (at (key n d)) (stale d kept a) t in
      let same : n ≡ found.0 = ap (λ (k : Key). k.name) (same_key (key n d) (key found.0 d) found.2) in
      let kept_not = (of_filter (λ m. not (list_any (λ r. bytes_eq r.name m) kept)) (names_by d (entries a)) found.0 found.1).1 in
      absurd (true≢false (sym kept_not ∙ ap (λ m. not (list_any (λ r. bytes_eq r.name m) kept)) (sym same) ∙ ap not has)))
      (λ f. f)

  -- and any other name of the device is one
  any-stale : (kept : List FileRecord) (a : Announced) (n : Name) (r : FileRecord) → list_any (λ r. bytes_eq r.name n) kept ≡ false → get a (key n d) ≡ Some r → list_any (at (key n d)) (stale d kept a) ≡ true
  any-stale kept a n r none there =
      let i = in_map (λ (x : KeyedRecord). x.0.name) (filter (is_by d) (entries a)) (key n d, r) (in_filter (is_by d) (entries a) (key n d, r) (get_in keys_total exact_keys a (key n d) r there) (alike_bytes d d refl)) in
      in_any (at (key n d)) (stale d kept a) n (in_filter (λ m. not (list_any (λ r. bytes_eq r.name m) kept)) (names_by d (entries a)) n i (ap not none)) (own-at n)

  module _ (records kept : List FileRecord) (l : IsLastOfEach records kept) (s : IndexState) where
    abbrev pub full : IndexState
    full = without_names d (stale d kept s.announced) (with_records d kept s)

    full-own : (n : Name) → get full.announced (key n d) ≡ get (announce d records (without d s.announced)) (key n d)
    full-own n =
        names-cleared (stale d kept s.announced) (with_records d kept s) (key n d)
        ∙ ap (λ a. cond (list_any (at (key n d)) (stale d kept s.announced)) None (get a (key n d))) (same-announced d records kept s.announced l)
        ∙ ap (cond (list_any (at (key n d)) (stale d kept s.announced)) None) (get-announce_own d records s.announced n)
        ∙ by (last_of n records) refl (get s.announced (key n d)) refl
        ∙ sym (get-index_own d records s.announced n)
      where
        has : (o : Option FileRecord) → last_of n records ≡ o → list_any (λ r. bytes_eq r.name n) kept ≡ is_some o
        has o e = sym (some-named n kept) ∙ ap is_some (l.last n ∙ e)

        by : (o : Option FileRecord) → last_of n records ≡ o → (p : Option FileRecord) → get s.announced (key n d) ≡ p → cond (list_any (at (key n d)) (stale d kept s.announced)) None (option_or o p) ≡ o
        by (Some r) e p f = ap (λ b. cond b None (Some r)) (none-kept kept s.announced n (has (Some r) e))
        by None e (Some r) f = ap (λ b. cond b None (Some r)) (any-stale kept s.announced n r (has None e) f)
        by None e None f = neither (list_any (at (key n d)) (stale d kept s.announced))
          where
            neither : (b : Bool) → ◌≡◌ {A = Option FileRecord} (cond b None None) None
            neither true = refl
            neither false = refl

    full-other : (q : Key) → q.device ≢ d → get full.announced q ≡ get (announce d records (without d s.announced)) q
    full-other q other =
        names-cleared (stale d kept s.announced) (with_records d kept s) q
        ∙ ap (λ b. cond b None (get (with_records d kept s).announced q)) (none-other q (stale d kept s.announced) other)
        ∙ get-announce d kept s.announced q.device q.name (λ e. other (sym e))
        ∙ sym (get-index_other d records s.announced q.device q.name (λ e. other (sym e)))

    pub full-announced : full.announced ≡ announce d records (without d s.announced)
    full-announced = same_map keys_total exact_keys full.announced (announce d records (without d s.announced)) (λ q.
        by_or (bytes_eq q.device d) (get full.announced q ≡ get (announce d records (without d s.announced)) q)
        (λ t. subst (λ e. get full.announced (key q.name e) ≡ get (announce d records (without d s.announced)) (key q.name e)) (sym (same_bytes q.device d t)) (full-own q.name))
        (λ f. full-other q (λ e. true≢false (sym (alike_bytes q.device d e) ∙ f))))

    module _ (last : ℕ) (ps : List OpenPull) (copies : List (Option FileRecord)) (is : IsIndexed s last ps copies) (other : d ≢ s.me) where
      pub full-step : step (folder_with s last (pulls_of ps)) (IndexFull d records) ≡ (Applied, folder_with full last (pulls_of ps))
      full-step = (λ i. (Applied, record { me = sym (names_me d (stale d kept s.announced) (with_records d kept s)) i; announced = sym full-announced i; last = last; pulls = pulls_of ps }))

      pub full-indexed : IsIndexed full last ps copies
      full-indexed = applied-indexed s last ps copies is (IndexFull d records) full other full-step (names_promised d (stale d kept s.announced) (with_records d kept s)) (names-low d (stale d kept s.announced) (with_records d kept s) (omega arith))
