-- What one device announces, and all of it, group by group.
use Rattle.std.proofs.Common.{append-nil, get_or, take, ◌<◌, ◌≡◌, ◌≢◌, ℕ, ◌+◌, ◌≤◌, Bool, true, false, List, [], ◌∷◌, ◌++◌, length, refl, sym, ap, subst, ◌∙◌, inl, inr, arith}
use Rattle.std.specs.Prelude.{bytes_eq, cond, filter, flat_map, fold, map, max, not, Option, Some, None, is_some}
use Rattle.std.specs.Bool.{passes}
use Rattle.std.specs.FinMap.{contains_key, empty, entries, entries-from_sorted, get, get-remove, get-retain_keys, remove, same_map}
use Rattle.std.specs.Cmp.{Equal-is}
use Rattle.std.specs.Map.{values_of}
use Rattle.std.specs.Ordering.{eq_by_cmp}
use Rattle.std.specs.declared.cmp.Ordering.TheVariants.{Equal}
use Rattle.std.proofs.lemmas.Bool.{true≢false}
use Rattle.std.proofs.lemmas.Grind.{flat_map-append}
use Rattle.std.proofs.lemmas.List.{map-append, take_all, take_more}
use Rattle.std.proofs.lemmas.List.Elements.{filter-append}
use Rattle.std.proofs.lemmas.List.Sums.{fold-append}
use Rattle.sync_record.specs.Devices.{Identity}
use Rattle.sync_record.specs.Records.{Name, FileRecord}
use Rattle.folder_core.specs.declared.announcement.Announcement.{Announcement as Entry}
use Rattle.folder_core.specs.Announced.{Announced, Key, KeyedRecord, is_by, is_of, key, key_cmp, without}
use Rattle.folder_core.specs.Plain.{filed}
use Rattle.folder_core.specs.PlainReads.{is_from}
use Rattle.folder_core.proofs.AnnouncedMaps.{remove_here, remove_other}
use Rattle.folder_core.proofs.ListFilters.{filter_map}
use Rattle.folder_core.proofs.ListTests.{In, alike_bytes, get_in, in_filter, in_map, same_bytes}
use Rattle.folder_core.proofs.Orders.{exact_keys, keys_total}
use Rattle.folder_index.specs.declared.chunks.Chunks.{Chunks}
use Rattle.folder_index.specs.declared.group.Group.{Group}
use Rattle.folder_index.specs.Chunks.{Chunk, groups_in, in_chunk, keyed}
use Rattle.folder_index.specs.declared.totals.Totals.{Totals}
use Rattle.folder_index.specs.Devices.{names_by, names_from, sequences_by, sequences_from, without_device, without_names}
use Rattle.folder_index.specs.Groups.{AreGroups, entries_in, index_of, listed}
use Rattle.folder_index.specs.Indexes.{IndexState, counted, without_record}
use Rattle.folder_index.specs.declared.local.Local.{Local}
use Rattle.folder_index.specs.Locals.{IsIndex}
use Rattle.folder_index.proofs.Found.{none_announced}
use Rattle.folder_index.proofs.Indexed.{other_index_cleared}
use Rattle.folder_index.proofs.Listed.{Groups, at_is, entries_at, rises}
use Rattle.folder_index.proofs.Written.{each_of}

map_map : {A B C : Type 0} (f : A → B) (g : B → C) (xs : List A) → map g (map f xs) ≡ map (λ x. g (f x)) xs
map_map f g [] = refl
map_map f g (x ∷ xs) = ap (λ ys. g (f x) ∷ ys) (map_map f g xs)

-- the entries of groups
abbrev pub entries_of : List Group → List Entry
entries_of gs = flat_map (λ (g : Group). entries_in g) gs

-- those of chunks
abbrev pub entries_chunked : List Chunk → List Entry
entries_chunked vs = flat_map (λ (v : Chunk). entries_of v.items) vs

pub one_chunked : (vs : List Chunk) (i : ℕ) (v : Chunk) → i < length vs → v ≡ get_or vs i v → entries_chunked (take (i + 1) vs) ≡ entries_chunked (take i vs) ++ entries_of v.items
one_chunked vs i v short is =
    ap (λ (l : List Chunk). entries_chunked l) (take_more vs i v short ∙ ap (λ x. take i vs ++ x ∷ []) (sym is))
    ∙ flat_map-append (λ (v : Chunk). entries_of v.items) (take i vs) (v ∷ [])
    ∙ ap (λ l. entries_chunked (take i vs) ++ l) (append-nil (entries_of v.items))

pub one_grouped : (gs : List Group) (i : ℕ) (g : Group) → i < length gs → g ≡ get_or gs i g → entries_of (take (i + 1) gs) ≡ entries_of (take i gs) ++ entries_in g
one_grouped gs i g short is =
    ap (λ (l : List Group). entries_of l) (take_more gs i g short ∙ ap (λ x. take i gs ++ x ∷ []) (sym is))
    ∙ flat_map-append (λ (g : Group). entries_in g) (take i gs) (g ∷ [])
    ∙ ap (λ l. entries_of (take i gs) ++ l) (append-nil (entries_in g))

pub chunked_listed : (vs : List Chunk) → entries_chunked vs ≡ listed (flat_map in_chunk vs)
chunked_listed [] = refl
chunked_listed (v ∷ vs) =
    (λ i. keyed_listed v.items i ++ chunked_listed vs i)
    ∙ sym (flat_map-append (λ (h : Name × Group). entries_in h.1) (in_chunk v) (flat_map in_chunk vs))
  where
    keyed_listed : (gs : List Group) → entries_of gs ≡ listed (map keyed gs)
    keyed_listed [] = refl
    keyed_listed (g ∷ gs) = ap (λ l. entries_in g ++ l) (keyed_listed gs)

pub listed_values : (gs : Groups) → entries_of (values_of gs) ≡ listed gs
listed_values [] = refl
listed_values (h ∷ gs) = ap (λ es. (entries_in h.1) ++ es) (listed_values gs)

pub names_listed : (d : Identity) (es : List Entry) → names_by d (map filed es) ≡ names_from d es
names_listed d es = ap (map (λ (e : KeyedRecord). e.0.name)) (filter_map filed (is_by d) es) ∙ map_map filed (λ (e : KeyedRecord). e.0.name) (filter (is_from d) es)

pub sequences_listed : (d : Identity) (es : List Entry) → sequences_by d (map filed es) ≡ sequences_from d es
sequences_listed d es = ap (map (λ (e : KeyedRecord). e.1.sequence)) (filter_map filed (is_by d) es) ∙ map_map filed (λ (e : KeyedRecord). e.1.sequence) (filter (is_from d) es)

module _ (me : Identity) (gs : Groups) (t : Totals) (are : AreGroups me gs t) (choices : ℕ) where
  pub entries_are : map filed (listed gs) ≡ entries (index_of me gs choices).announced
  entries_are = sym (entries-from_sorted key_cmp (map filed (listed gs)) (passes _ (rises me gs are.ordered (each_of me gs t are))))

  pub names_are : (d : Identity) → names_from d (listed gs) ≡ names_by d (entries (index_of me gs choices).announced)
  names_are d = sym (names_listed d (listed gs)) ∙ ap (names_by d) entries_are

  pub sequences_are : (d : Identity) → sequences_from d (listed gs) ≡ sequences_by d (entries (index_of me gs choices).announced)
  sequences_are d = sym (sequences_listed d (listed gs)) ∙ ap (sequences_by d) entries_are

  pub entries_named : (n : Name) → map filed (entries_at n gs) ≡ filter (is_of n) (entries (index_of me gs choices).announced)
  entries_named n =
      ap (map filed) (sym (at_is me gs are.ordered (each_of me gs t are) n))
      ∙ sym (filter_map filed (is_of n) (listed gs))
      ∙ ap (filter (is_of n)) entries_are

-- of two lists of entries
module _ (d : Identity) (xs ys : List Entry) where
  pub names_append : names_from d (xs ++ ys) ≡ names_from d xs ++ names_from d ys
  names_append = ap (map (λ (e : Entry). e.record.name)) (filter-append (is_from d) xs ys) ∙ map-append (λ (e : Entry). e.record.name) (filter (is_from d) xs) (filter (is_from d) ys)

  pub sequences_append : sequences_from d (xs ++ ys) ≡ sequences_from d xs ++ sequences_from d ys
  sequences_append = ap (map (λ (e : Entry). e.record.sequence)) (filter-append (is_from d) xs ys) ∙ map-append (λ (e : Entry). e.record.sequence) (filter (is_from d) xs) (filter (is_from d) ys)

  pub greatest_append : (greatest : ℕ) → fold max greatest (sequences_from d (xs ++ ys)) ≡ fold max (fold max greatest (sequences_from d xs)) (sequences_from d ys)
  greatest_append greatest = ap (fold max greatest) sequences_append ∙ fold-append max greatest (sequences_from d xs) (sequences_from d ys)

-- a record of the device has a name
pub has_name : (d : Identity) (es : List Entry) (e : Entry) → In e es → is_from d e ≡ true → names_from d es ≡ [] → ⊥
has_name d es e i own none = subst (In e.record.name) none (in_map (λ (e : Entry). e.record.name) (filter (is_from d) es) e (in_filter (is_from d) es e i own))

-- no entries
pub unfiled : (es : List Entry) → map filed es ≡ [] → es ≡ []
unfiled [] e = refl
unfiled (x ∷ es) e = cc

pub nothing_listed : (a : Announced) → a ≡ empty → entries a ≡ []
nothing_listed a e = ap entries (e ∙ sym none_announced) ∙ entries-from_sorted key_cmp [] tt

-- no list is empty of which a part has something
pub left_part : {A : Type 0} (xs ys : List A) → xs ++ ys ≡ [] → xs ≡ []
left_part [] ys e = refl
left_part (x ∷ xs) ys e = cc

pub right_part : {A : Type 0} (xs ys : List A) → xs ++ ys ≡ [] → ys ≡ []
right_part [] ys e = e
right_part (x ∷ xs) ys e = cc

-- ---- a device is forgotten

-- what isn't there need not be taken away
removed_none : (a : Announced) (k : Key) → get a k ≡ None → a ≡ remove a k
removed_none a k none = same_map keys_total exact_keys a (remove a k) (λ q. by q (eq_by_cmp key_cmp q k) refl ∙ sym (get-remove keys_total a k q))
  where
    by : (q : Key) (b : Bool) → eq_by_cmp key_cmp q k ≡ b → get a q ≡ cond b None (get a q)
    by q true t = ap (get a) (exact_keys q k ((Equal-is (key_cmp q k)).0 t)) ∙ none
    by q false f = refl

none_there : (o : Option FileRecord) → is_some o ≡ false → o ≡ None
none_there None e = refl
none_there (Some r) e = absurd (true≢false e)

neither : (b : Bool) → ◌≡◌ {A = Option FileRecord} (cond b None None) None
neither true = refl
neither false = refl

module _ (d : Identity) where
  abbrev remove_names : List Name → Announced → Announced
  remove_names ns a = fold (λ (a : Announced) (n : Name). remove a (key n d)) a ns

  one_removed : (n : Name) (s : IndexState) → (without_record d n s).announced ≡ remove s.announced (key n d)
  one_removed n s = by (contains_key s.announced (key n d)) refl
    where
      by : (b : Bool) → contains_key s.announced (key n d) ≡ b → (cond b (record { me = s.me; announced = remove s.announced (key n d); choices = counted s.choices; promised = s.promised }) s).announced ≡ remove s.announced (key n d)
      by true t = refl
      by false f = removed_none s.announced (key n d) (none_there (get s.announced (key n d)) f)

  all_removed : (ns : List Name) (s : IndexState) → (without_names d ns s).announced ≡ remove_names ns s.announced
  all_removed [] s = refl
  all_removed (n ∷ ns) s = all_removed ns (without_record d n s) ∙ ap (remove_names ns) (one_removed n s)

  -- other devices' records stay
  others_stay : (ns : List Name) (a : Announced) (k : Key) → k.device ≢ d → get (remove_names ns a) k ≡ get a k
  others_stay [] a k other = refl
  others_stay (n ∷ ns) a k other =
      others_stay ns (remove a (key n d)) k other
      ∙ remove_other keys_total exact_keys a (key n d) k (λ s. other (ap (λ (q : Key). q.device) s))

  -- what is gone stays so
  none_stays : (ns : List Name) (a : Announced) (k : Key) → get a k ≡ None → get (remove_names ns a) k ≡ None
  none_stays [] a k none = none
  none_stays (n ∷ ns) a k none =
      none_stays ns (remove a (key n d)) k (get-remove keys_total a (key n d) k ∙ ap (λ (o : Option FileRecord). cond (eq_by_cmp key_cmp k (key n d)) None o) none ∙ neither (eq_by_cmp key_cmp k (key n d)))

  -- and a name's record is gone
  gone : (ns : List Name) (a : Announced) (n : Name) → In n ns → get (remove_names ns a) (key n d) ≡ None
  gone [] a n i = absurd i
  gone (m ∷ ns) a n (inl s) =
      none_stays ns (remove a (key m d)) (key n d) (ap (λ x. get (remove a (key m d)) (key x d)) s ∙ remove_here keys_total exact_keys a (key m d))
  gone (m ∷ ns) a n (inr i) = gone ns (remove a (key m d)) n i

  is_kept : Key → Bool
  is_kept k = not (bytes_eq k.device d)

  kept_alike : (k q : Key) → key_cmp k q ≡ Equal → not (bytes_eq q.device d) ≡ not (bytes_eq k.device d)
  kept_alike k q e = ap (λ (x : Key). not (bytes_eq x.device d)) (sym (exact_keys k q e))

  pub forgotten_none : (a : Announced) (n : Name) → get (without d a) (key n d) ≡ None
  forgotten_none a n =
      get-retain_keys a (λ (q : Key). not (bytes_eq q.device d)) (key n d) (λ q e. kept_alike (key n d) q e)
      ∙ ap (λ b. cond (not b) (get a (key n d)) None) (alike_bytes d d refl)

  pub forgotten : (s : IndexState) → (without_device d s).announced ≡ without d s.announced
  forgotten s =
      all_removed (names_by d (entries s.announced)) s
      ∙ same_map keys_total exact_keys (remove_names (names_by d (entries s.announced)) s.announced) (without d s.announced) (λ k.
      by k (bytes_eq k.device d) refl ∙ sym (get-retain_keys s.announced (λ (q : Key). not (bytes_eq q.device d)) k (λ q e. kept_alike k q e)))
    where
      own : (k : Key) → k.device ≡ d → (o : Option FileRecord) → get s.announced k ≡ o → get (remove_names (names_by d (entries s.announced)) s.announced) k ≡ None
      own k dev None e = none_stays (names_by d (entries s.announced)) s.announced k e
      own k dev (Some r) e =
          let i = in_map (λ (x : KeyedRecord). x.0.name) (filter (is_by d) (entries s.announced)) (k, r) (in_filter (is_by d) (entries s.announced) (k, r) (get_in keys_total exact_keys s.announced k r e) (alike_bytes k.device d dev)) in
          ap (λ x. get (remove_names (names_by d (entries s.announced)) s.announced) (key k.name x)) dev
          ∙ gone (names_by d (entries s.announced)) s.announced k.name i

      by : (k : Key) (b : Bool) → bytes_eq k.device d ≡ b → get (remove_names (names_by d (entries s.announced)) s.announced) k ≡ cond (not b) (get s.announced k) None
      by k true t = own k (same_bytes k.device d t) (get s.announced k) refl
      by k false f = others_stay (names_by d (entries s.announced)) s.announced k (λ e. true≢false (sym (alike_bytes k.device d e) ∙ f))

  -- the rest stays, and each name is counted once at most
  one_me : (n : Name) (s : IndexState) → (without_record d n s).me ≡ s.me
  one_me n s = elim (contains_key s.announced (key n d)) as (λ b. (cond b (record { me = s.me; announced = remove s.announced (key n d); choices = counted s.choices; promised = s.promised }) s).me ≡ s.me) [ true ↦ refl | false ↦ refl ]

  one_promised : (n : Name) (s : IndexState) → (without_record d n s).promised ≡ s.promised
  one_promised n s = elim (contains_key s.announced (key n d)) as (λ b. (cond b (record { me = s.me; announced = remove s.announced (key n d); choices = counted s.choices; promised = s.promised }) s).promised ≡ s.promised) [ true ↦ refl | false ↦ refl ]

  one_counted : (n : Name) (s : IndexState) → (without_record d n s).choices ≤ s.choices + 1
  one_counted n s = elim (contains_key s.announced (key n d)) as (λ b. (cond b (record { me = s.me; announced = remove s.announced (key n d); choices = counted s.choices; promised = s.promised }) s).choices ≤ s.choices + 1) [ true ↦ omega arith | false ↦ omega arith ]

  pub names_me : (ns : List Name) (s : IndexState) → (without_names d ns s).me ≡ s.me
  names_me [] s = refl
  names_me (n ∷ ns) s = names_me ns (without_record d n s) ∙ one_me n s

  pub names_promised : (ns : List Name) (s : IndexState) → (without_names d ns s).promised ≡ s.promised
  names_promised [] s = refl
  names_promised (n ∷ ns) s = names_promised ns (without_record d n s) ∙ one_promised n s

  pub names_counted : (ns : List Name) (s : IndexState) → (without_names d ns s).choices ≤ s.choices + length ns
  names_counted [] s = omega arith
  names_counted (n ∷ ns) s = (let rest = names_counted ns (without_record d n s) in let one = one_counted n s in omega arith)

  -- one name more
  pub without_push : (ns : List Name) (n : Name) (s : IndexState) → without_names d (ns ++ n ∷ []) s ≡ without_record d n (without_names d ns s)
  without_push ns n s = fold-append (λ (s : IndexState) (n : Name). without_record d n s) s ns (n ∷ [])

-- an index once another device is forgotten
pub forgotten_index : (d : Identity) (ns : List Name) (s : IndexState) (l : Local) → IsIndex s l → d ≢ s.me → IsIndex (without_names d ns s) l
forgotten_index d [] s l is other = is
forgotten_index d (n ∷ ns) s l is other = forgotten_index d ns (without_record d n s) l (other_index_cleared s l is d other n) (λ e. other (e ∙ one_me d n s))

-- ---- what a group has is a part of what all have

pub part_names : (d : Identity) (gs : Groups) (h : Name × Group) → In h gs → names_from d (listed gs) ≡ [] → names_from d (entries_in h.1) ≡ []
part_names d [] h i none = absurd i
part_names d (k ∷ gs) h (inl e) none = ap (λ (x : Name × Group). names_from d (entries_in x.1)) e ∙ left_part (names_from d (entries_in k.1)) (names_from d (listed gs)) (sym (names_append d (entries_in k.1) (listed gs)) ∙ none)
part_names d (k ∷ gs) h (inr i) none = part_names d gs h i (right_part (names_from d (entries_in k.1)) (names_from d (listed gs)) (sym (names_append d (entries_in k.1) (listed gs)) ∙ none))

pub part_entries : (gs : Groups) (h : Name × Group) → In h gs → listed gs ≡ [] → entries_in h.1 ≡ []
part_entries [] h i none = absurd i
part_entries (k ∷ gs) h (inl e) none = ap (λ (x : Name × Group). entries_in x.1) e ∙ left_part (entries_in k.1) (listed gs) none
part_entries (k ∷ gs) h (inr i) none = part_entries gs h i (right_part (entries_in k.1) (listed gs) none)

-- all chunks
pub all_chunked : (cs : Chunks) (vs : List Chunk) (i : ℕ) → vs ≡ cs.chunks.items → length vs ≤ i → entries_chunked (take i vs) ≡ listed (groups_in cs)
all_chunked cs vs i is past = ap entries_chunked (take_all i vs past ∙ is) ∙ chunked_listed cs.chunks.items
