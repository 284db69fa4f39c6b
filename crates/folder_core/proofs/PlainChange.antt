-- What the merge with a message makes of a folder is the message's step.
use Rattle.std.proofs.Common.{◌≡◌, ℕ, ◌+◌, ◌<◌, ◌≤◌, Bool, true, false, List, [], ◌∷◌, length, refl, sym, ap, subst, ◌∙◌, arith}
use Rattle.std.proofs.lemmas.Bool.{true≢false}
use Rattle.std.specs.Prelude.{bytes_eq, ◌&&◌, not, cond, T, Option, Some, None, filter, map, find as first_where}
use Rattle.std.specs.Bool.{passes}
use Rattle.std.specs.Option.{option_or}
use Rattle.std.specs.declared.cmp.Ordering.{Ordering}
use Rattle.std.specs.declared.cmp.Ordering.TheVariants.{Less, Equal, Greater}
use Rattle.std.specs.Ordering.{eq_by_cmp, is_eq, ordering_then}
use Rattle.std.specs.Cmp.{both_ways}
use Rattle.std.specs.Cmp.Lexicographic.{texts_ties}
use Rattle.std.specs.FinMap.{empty, find, from_sorted, get, get-empty, get-from_sorted, is_sorted, put, same_map}
use Rattle.std.specs.FinMap.Entries.{below_all, find-put, is_sorted-put, is_sorted-where_key}
use Rattle.sync_record.specs.Devices.{Identity, bytes_cmp}
use Rattle.sync_record.specs.Records.{Name, FileRecord}
use Rattle.folder_core.specs.declared.announcement.Announcement.{Announcement as Entry}
use Rattle.folder_core.specs.Announced.{Announced, KeyedRecord, Key, announce, key, key_cmp, without, last_of}
use Rattle.folder_core.specs.Codes.{Pulls}
use Rattle.folder_core.specs.Plain.{IsLastOfEach, IsPlain, Rises, commits, filed, filed_by, folder_of, pulls_of, put_all}
use Rattle.folder_core.specs.declared.plain.pull.OpenPull.{OpenPull}
use Rattle.folder_core.specs.States.{FolderState, IsFolder}
use Rattle.folder_core.specs.declared.answer.Answer.{Answer}
use Rattle.folder_core.specs.declared.answer.Answer.TheVariants.{Applied}
use Rattle.folder_core.specs.declared.change.Change.{Change}
use Rattle.folder_core.specs.declared.change.Change.TheVariants.{Forget, IndexFull, IndexMore}
use Rattle.folder_core.specs.Steps.{MayChange, step}
use Rattle.folder_core.proofs.AnnouncedIndexes.{get-announce, get-announce_own, same_key}
use Rattle.folder_core.proofs.ChangeFolders.{step-folder, empty-folder}
use Rattle.folder_core.proofs.Orders.{bytes_total, exact_keys, exact_names, is_true, keys_total, retain_listed}
use Rattle.folder_core.proofs.PlainMerge.{keys_rise}
use Rattle.folder_core.proofs.ListFilters.{filter_map}
use Rattle.folder_core.proofs.ListTests.{alike_bytes, by_or, is_less, parts, same_bytes}

-- ---- what is found in a list in which others were put

find-above : (k : Key) (es : List KeyedRecord) → T (below_all key_cmp k es) → find key_cmp k es ≡ None
find-above k [] b = refl
find-above k (e ∷ es) b = ap (λ r. cond (is_eq r) (Some e.1) (find key_cmp k es)) (is_less _ (parts _ _ b).0) ∙ find-above k es (parts _ _ b).1

find-put_all : (q : Key) (es rs : List KeyedRecord) → T (is_sorted key_cmp rs) → find key_cmp q (put_all es rs) ≡ option_or (find key_cmp q rs) (find key_cmp q es)
find-put_all q es [] h = refl
find-put_all q es (r ∷ rs) h =
    find-put_all q (put key_cmp r.0 r.1 es) rs (parts _ _ h).1
    ∙ ap (option_or (find key_cmp q rs)) (find-put key_cmp keys_total q r.0 r.1 es)
    ∙ elim (eq_by_cmp key_cmp q r.0) as (λ b. eq_by_cmp key_cmp q r.0 ≡ b → option_or (find key_cmp q rs) (cond b (Some r.1) (find key_cmp q es)) ≡ option_or (cond b (Some r.1) (find key_cmp q rs)) (find key_cmp q es)) [
      | true ↦ λ t. ap (λ o. option_or o (Some r.1)) (find-above q rs (subst (λ k. T (below_all key_cmp k rs)) (sym (same_key q r.0 t)) (parts _ _ h).0))
      | false ↦ λ t. refl
    ] refl

-- ---- a device's records by their names

is_key : (q : Key) (m : Name) (d : Identity) → eq_by_cmp key_cmp q (key m d) ≡ (bytes_eq m q.name && bytes_eq q.device d)
is_key q m d =
    then_eq (bytes_cmp q.name m) (bytes_cmp q.device d)
    ∙ (λ i. sym (texts_ties q.name m) i && sym (texts_ties q.device d) i)
    ∙ ap (λ b. b && bytes_eq q.device d) (turned q.name m)
  where
    then_eq : (r s : Ordering) → is_eq (ordering_then r s) ≡ (is_eq r && is_eq s)
    then_eq Less s = refl
    then_eq Equal s = refl
    then_eq Greater s = refl

    turned : (m n : Name) → bytes_eq m n ≡ bytes_eq n m
    turned m n = both_ways _ _ (λ t. alike_bytes n m (sym (same_bytes m n t))) (λ t. alike_bytes m n (sym (same_bytes n m t)))

find-by : (q : Key) (d : Identity) (rs : List FileRecord) → find key_cmp q (map (filed_by d) rs) ≡ cond (bytes_eq q.device d) (first_where (λ r. bytes_eq r.name q.name) rs) None
find-by q d [] = elim (bytes_eq q.device d) as (λ b. ◌≡◌ {A = Option FileRecord} None (cond b None None)) [ true ↦ refl | false ↦ refl ]
find-by q d (r ∷ rs) =
    (λ i. cond (is_key q r.name d i) (Some r) (find-by q d rs i))
    ∙ either (bytes_eq r.name q.name) (bytes_eq q.device d) (Some r) (first_where (λ r. bytes_eq r.name q.name) rs)
  where
    either : (a b : Bool) (x y : Option FileRecord) → cond (a && b) x (cond b y None) ≡ cond b (cond a x y) None
    either true true x y = refl
    either true false x y = refl
    either false b x y = refl

get-announce_at : (q : Key) (d : Identity) (rs : List FileRecord) (a : Announced) → get (announce d rs a) q ≡ option_or (cond (bytes_eq q.device d) (last_of q.name rs) None) (get a q)
get-announce_at q d rs a =
    by_or (bytes_eq q.device d) (get (announce d rs a) q ≡ option_or (cond (bytes_eq q.device d) (last_of q.name rs) None) (get a q))
    (λ t. (λ i. get (announce d rs a) (key q.name (same_bytes q.device d t i))) ∙ get-announce_own d rs a q.name
    ∙ (λ i. option_or (cond (sym t i) (last_of q.name rs) None) (get a (key q.name (sym (same_bytes q.device d t) i)))))
    (λ f. get-announce d rs a q.device q.name (λ s. true≢false (sym (alike_bytes q.device d (sym s)) ∙ f))
    ∙ ap (λ b. option_or (cond b (last_of q.name rs) None) (get a q)) (sym f))

-- ---- the changes

put_all-rises : (es rs : List KeyedRecord) → T (is_sorted key_cmp es) → T (is_sorted key_cmp (put_all es rs))
put_all-rises es [] h = h
put_all-rises es (r ∷ rs) h = put_all-rises (put key_cmp r.0 r.1 es) rs (is_sorted-put key_cmp keys_total r.0 r.1 es h)

pub announce-sorted : (d : Identity) (records kept : List FileRecord) (es : List KeyedRecord) → IsLastOfEach records kept → T (is_sorted key_cmp es) →
    announce d records (from_sorted es) ≡ from_sorted (put_all es (map (filed_by d) kept))
announce-sorted d records kept es l h = same_map keys_total exact_keys _ _ (λ q.
    get-announce_at q d records (from_sorted es)
    ∙ (λ i. option_or (cond (bytes_eq q.device d) (sym (l.last q.name) i) None) (get-from_sorted key_cmp es q h i))
    ∙ sym (get-from_sorted key_cmp (put_all es (map (filed_by d) kept)) q (put_all-rises es (map (filed_by d) kept) h)
    ∙ find-put_all q es (map (filed_by d) kept) (keys_rise d kept l.rise)
    ∙ ap (λ o. option_or o (find key_cmp q es)) (find-by q d kept)))

abbrev pub is_of_another : Identity → Entry → Bool
is_of_another d e = not (bytes_eq e.device d)

pub without-sorted : (d : Identity) (es : List Entry) → Rises es → without d (from_sorted (map filed es)) ≡ from_sorted (map filed (filter (is_of_another d) es))
without-sorted d es rises =
    retain_listed keys_total exact_keys (map filed es) (λ k. not (bytes_eq k.device d)) rises
    ∙ ap from_sorted (filter_map filed (λ e. not (bytes_eq e.0.device d)) es)

pub others-rise : (d : Identity) (es : List Entry) → Rises es → Rises (filter (is_of_another d) es)
others-rise d es rises =
    ap (is_sorted key_cmp) (sym (filter_map filed (λ e. not (bytes_eq e.0.device d)) es))
    ∙ is_true _ (is_sorted-where_key key_cmp (λ k. not (bytes_eq k.device d)) (map filed es) (passes _ rises))

module _ (me d : Identity) (es new : List Entry) (last : ℕ) (pulls : Pulls) (records kept : List FileRecord) (l : IsLastOfEach records kept) (rises : Rises es) where
  pub more_rises : map filed new ≡ put_all (map filed es) (map (filed_by d) kept) → Rises new
  more_rises is = ap (is_sorted key_cmp) is ∙ is_true _ (put_all-rises (map filed es) (map (filed_by d) kept) (passes _ rises))

  pub more_step : map filed new ≡ put_all (map filed es) (map (filed_by d) kept) → step (folder_of me es last pulls) (IndexMore d records) ≡ (Applied, folder_of me new last pulls)
  more_step is =
      ap (λ a. (Applied, record (folder_of me es last pulls) { announced = a }))
      (announce-sorted d records kept (map filed es) l (passes _ rises) ∙ ap from_sorted (sym is))

  pub full_rises : map filed new ≡ put_all (map filed (filter (is_of_another d) es)) (map (filed_by d) kept) → Rises new
  full_rises is =
      ap (is_sorted key_cmp) is ∙ is_true _ (put_all-rises (map filed (filter (is_of_another d) es)) (map (filed_by d) kept) (passes _ (others-rise d es rises)))

  pub full_step : map filed new ≡ put_all (map filed (filter (is_of_another d) es)) (map (filed_by d) kept) → step (folder_of me es last pulls) (IndexFull d records) ≡ (Applied, folder_of me new last pulls)
  full_step is =
      ap (λ a. (Applied, record (folder_of me es last pulls) { announced = a }))
      (ap (announce d records) (without-sorted d es rises)
      ∙ announce-sorted d records kept (map filed (filter (is_of_another d) es)) l (passes _ (others-rise d es rises)) ∙ ap from_sorted (sym is))

pub forgot : (me d : Identity) (es new : List Entry) (last : ℕ) (pulls : Pulls) → Rises es → new ≡ filter (is_of_another d) es → step (folder_of me es last pulls) (Forget d) ≡ (Applied, folder_of me new last pulls)
forgot me d es new last pulls rises is =
    ap (λ a. (Applied, record (folder_of me es last pulls) { announced = a }))
    (without-sorted d es rises ∙ ap (λ xs. from_sorted (map filed xs)) (sym is))

-- ---- the empty folder

pub nothing_announced : (me : Identity) (pulls : Pulls) → folder_of me [] 0 pulls ≡ record { me = me; announced = empty; last = 0; pulls = pulls }
nothing_announced me pulls =
    ap (λ (a : Announced). record { me = me; announced = a; last = 0; pulls = pulls })
    (same_map keys_total exact_keys _ _ (λ q. get-from_sorted key_cmp [] q tt ∙ sym (get-empty key_cmp q)))

pub no_pulls : pulls_of [] ≡ empty
no_pulls = same_map bytes_total exact_names _ _ (λ n. get-from_sorted bytes_cmp [] n tt ∙ sym (get-empty bytes_cmp n))

-- ---- the lists stay a plain folder's

-- with other records, of which there are not more than there is room for
pub plain_with : (me : Identity) (es new : List Entry) (old_capacity capacity last : ℕ) (ps : List OpenPull) (c : Change) → IsPlain me es old_capacity last ps → MayChange me c → Rises new
    → step (folder_of me es last (pulls_of ps)) c ≡ (Applied, folder_of me new last (pulls_of ps)) → length new + commits ps ≤ capacity → IsPlain me new capacity last ps
plain_with me es new old_capacity capacity last ps c old may rises is room = record {
  rises = rises;
  pulls_rise = old.pulls_rise;
  folder = subst IsFolder (ap (λ (d : Answer × FolderState). d.1) is) (step-folder (folder_of me es last (pulls_of ps)) c old.folder may);
  ready = old.ready;
  room = room;
}

-- with more room
pub plain_roomy : (me : Identity) (es new : List Entry) (old_capacity capacity last : ℕ) (ps : List OpenPull) → IsPlain me es old_capacity last ps → new ≡ es → length new + commits ps ≤ capacity → IsPlain me new capacity last ps
plain_roomy me es new old_capacity capacity last ps old same room = record {
  rises = subst Rises (sym same) old.rises;
  pulls_rise = old.pulls_rise;
  folder = subst (λ xs. IsFolder (folder_of me xs last (pulls_of ps))) (sym same) old.folder;
  ready = old.ready;
  room = room;
}

pub plain_new : (me : Identity) (capacity : ℕ) → IsPlain me [] capacity 0 []
plain_new me capacity = record {
  rises = refl;
  pulls_rise = refl;
  folder = subst IsFolder (sym (nothing_announced me (pulls_of []) ∙ ap (λ ps. record { me = me; announced = empty; last = 0; pulls = ps }) no_pulls)) (empty-folder me);
  ready = λ i p below. absurd (let none : i < 0 = below in omega arith);
  room = leq_zero capacity;
}
  where
    leq_zero : (n : ℕ) → 0 + 0 ≤ n
    leq_zero n = omega arith
