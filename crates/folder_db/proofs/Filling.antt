-- An index that is made of announcements, one after the other.
use Rattle.std.proofs.Common.{◌≡◌, ℕ, zero, suc, ◌+◌, ◌-◌, ◌^◌, ◌<◌, ◌≤◌, Bool, true, false, List, [], ◌∷◌, drop, drop-cons, get_or, length, refl, sym, ap, subst, ◌∙◌, ◌⊎◌, inl, inr, arith}
use Rattle.std.proofs.Math.ListN.{drop_of_length-le}
use Rattle.std.specs.Prelude.{All, bytes_eq, cond, filter, fold, map, max, T, Option, Some, None}
use Rattle.std.specs.Bool.{passes}
use Rattle.std.specs.FinMap as fin
use Rattle.std.specs.FinMap.{empty, entries, entries_sorted, find, from_sorted, get, get-empty, get-from_sorted, get-insert, is_sorted, same_map}
use Rattle.std.specs.FinMap.Entries.{below_all}
use Rattle.std.specs.FinSet.{contains, contains-empty}
use Rattle.std.specs.FinSet as set
use Rattle.std.specs.Option.{option_or}
use Rattle.std.specs.Ordering.{eq_by_cmp, is_eq}
use Rattle.std.proofs.lemmas.List.{length-map}
use Rattle.sync_record.specs.Devices.{Identity, bytes_cmp}
use Rattle.sync_record.specs.Records.{Name, FileRecord}
use Rattle.folder_core.specs.Announced.{Announced, Key, KeyedRecord, is_by, key, key_cmp}
use Rattle.folder_core.specs.Reads.{known}
use Rattle.folder_core.specs.Plain.{IsReady, PullsRise, Rises, filed, pulls_of}
use Rattle.folder_core.specs.States.{FolderState, IsFolder}
use Rattle.folder_core.specs.declared.plain.pull.OpenPull.{OpenPull}
use Rattle.folder_core.specs.declared.announcement.Announcement.{Announcement as Entry}
use Rattle.folder_core.proofs.AnnouncedIndexes.{same_key}
use Rattle.folder_core.proofs.AnnouncedMaps.{insert_split}
use Rattle.folder_core.proofs.ListTests.{In, in_get, in_map, is_less, parts}
use Rattle.folder_core.proofs.Orders.{entries_listed, exact_keys, is_true, keys_total, listed}
use Rattle.folder_core.proofs.PlainChange.{no_pulls}
use Rattle.folder_index.specs.Indexes.{IndexState, with_record}
use Rattle.folder_index.specs.Locals.{IsFree}
use Rattle.folder_db.specs.Indexed.{IsIndexed, counted_more, folder_with, ready_of}
use Rattle.folder_db.proofs.Reserved.{commits_at, none-removed, nothing-reserved}

abbrev pub new_index : Identity → IndexState
new_index me = record { me = me; announced = empty; choices = 0; promised = set.empty }

-- the index once the announcements were put
abbrev pub put_all : List Entry → IndexState → IndexState
put_all es s = fold (λ s e. with_record e.device e.record s) s es

abbrev pub all : List Entry → Announced
all es = from_sorted (map filed es)

-- the announcement is one of those
in_all : (es : List Entry) → Rises es → (e : Entry) → In e es → get (all es) (key e.record.name e.device) ≡ Some e.record
in_all es rises e i = in_get keys_total exact_keys (all es) (filed e) (subst (In (filed e)) (sym (entries_listed key_cmp (map filed es) rises)) (in_map filed es e i))

-- how far a loop has come
pub record IsPartly (me : Identity) (es rest : List Entry) (s : IndexState) : Type 0 where
  pub is_me : s.me ≡ me
  pub whole : put_all rest s ≡ put_all es (new_index me)
  pub only : (k : Key) (r : FileRecord) → get s.announced k ≡ Some r → get (all es) k ≡ Some r

pub partly-none : (me : Identity) (es : List Entry) → IsPartly me es es (new_index me)
partly-none me es = record { is_me = refl; whole = refl; only = λ k r there. absurd (let e : None ≡ Some r = sym (get-empty key_cmp k) ∙ there in cc) }

abbrev pub HasOwnSequences : Identity → Announced → Type 0
HasOwnSequences me a = (m n : Name) (q r : FileRecord) → get a (key m me) ≡ Some q → get a (key n me) ≡ Some r → q.sequence ≡ r.sequence → m ≡ n

module _ (me : Identity) (es : List Entry) (rises : Rises es) (e : Entry) (i : In e es) (rest : List Entry) (s : IndexState) where
  pub partly-more : IsPartly me es (e ∷ rest) s → IsPartly me es rest (with_record e.device e.record s)
  partly-more is = record {
    is_me = is.is_me;
    whole = is.whole;
    only = λ k r there. by k r (insert_split keys_total exact_keys s.announced (key e.record.name e.device) k e.record r there);
  }
    where
      by : (k : Key) (r : FileRecord) → ((k ≡ key e.record.name e.device) × (e.record ≡ r)) ⊎ (get s.announced k ≡ Some r) → get (all es) k ≡ Some r
      by k r (inl x) = ap (get (all es)) x.0 ∙ in_all es rises e i ∙ ap Some x.1
      by k r (inr x) = is.only k r x

  pub partly-free : IsPartly me es (e ∷ rest) s → HasOwnSequences me (all es) → e.device ≡ s.me → IsFree s e.record.name e.record.sequence
  partly-free is distinct own m r there other same =
      other (distinct m e.record.name r e.record (is.only (key m me) r (ap (λ d. get s.announced (key m d)) (sym is.is_me) ∙ there))
      (ap (λ d. get (all es) (key e.record.name d)) (sym (own ∙ is.is_me)) ∙ in_all es rises e i) same)

-- ---- all of them

find-past : (k : Key) (es : List KeyedRecord) → T (below_all key_cmp k es) → find key_cmp k es ≡ None
find-past k [] b = refl
find-past k (e ∷ es) b = ap (λ r. cond (is_eq r) (Some e.1) (find key_cmp k es)) (is_less _ (parts _ _ b).0) ∙ find-past k es (parts _ _ b).1

put-announced : (es : List Entry) (s : IndexState) (q : Key) → T (is_sorted key_cmp (map filed es)) → get (put_all es s).announced q ≡ option_or (find key_cmp q (map filed es)) (get s.announced q)
put-announced [] s q h = refl
put-announced (e ∷ es) s q h =
    put-announced es (with_record e.device e.record s) q (parts _ _ h).1
    ∙ ap (option_or (find key_cmp q (map filed es))) (get-insert keys_total s.announced (filed e).0 e.record q)
    ∙ elim (eq_by_cmp key_cmp q (filed e).0) as (λ b. eq_by_cmp key_cmp q (filed e).0 ≡ b → option_or (find key_cmp q (map filed es)) (cond b (Some e.record) (get s.announced q)) ≡ option_or (cond b (Some e.record) (find key_cmp q (map filed es))) (get s.announced q)) [
      | true ↦ λ t. ap (λ o. option_or o (Some e.record)) (find-past q (map filed es) (subst (λ k. T (below_all key_cmp k (map filed es))) (sym (same_key q (filed e).0 t)) (parts _ _ h).0))
      | false ↦ λ t. refl
    ] refl

put-choices : (es : List Entry) (s : IndexState) → s.choices ≤ 2 ^ 64 - 1 → (put_all es s).choices ≡ counted_more s.choices (length es)
put-choices [] s low = omega arith
put-choices (e ∷ es) s low = let rest = put-choices es (with_record e.device e.record s) (omega arith) in omega arith

put-me : (es : List Entry) (s : IndexState) → (put_all es s).me ≡ s.me
put-me [] s = refl
put-me (e ∷ es) s = put-me es (with_record e.device e.record s)

put-promised : (es : List Entry) (s : IndexState) → s.promised ≡ set.empty → (put_all es s).promised ≡ set.empty
put-promised [] s none = none
put-promised (e ∷ es) s none = put-promised es (with_record e.device e.record s) (by (bytes_eq e.device s.me))
  where
    by : (b : Bool) → cond b (set.remove s.promised e.record.name) s.promised ≡ set.empty
    by true = ap (λ p. set.remove p e.record.name) none ∙ none-removed set.empty e.record.name (contains-empty bytes_cmp e.record.name)
    by false = none

or-none : (o : Option FileRecord) → option_or o None ≡ o
or-none None = refl
or-none (Some r) = refl

pub put-is : (me : Identity) (es : List Entry) → Rises es → put_all es (new_index me) ≡ record { me = me; announced = all es; choices = counted_more 0 (length es); promised = set.empty }
put-is me es rises = (λ i. record {
  me = put-me es (new_index me) i;
  announced = same i;
  choices = put-choices es (new_index me) (omega arith) i;
  promised = put-promised es (new_index me) refl i;
})
  where
    same : (put_all es (new_index me)).announced ≡ all es
    same = same_map keys_total exact_keys (put_all es (new_index me)).announced (all es) (λ q.
        put-announced es (new_index me) q (passes _ rises)
        ∙ ap (option_or (find key_cmp q (map filed es))) (get-empty key_cmp q)
        ∙ or-none (find key_cmp q (map filed es))
        ∙ sym (get-from_sorted key_cmp (map filed es) q (passes _ rises)))

pub partly-all : (me : Identity) (es : List Entry) → Rises es → (s : IndexState) → IsPartly me es [] s → s ≡ record { me = me; announced = all es; choices = counted_more 0 (length es); promised = set.empty }
partly-all me es rises s is = is.whole ∙ put-is me es rises

-- ---- a folder without open pulls

module _ (p : FolderState) (folder : IsFolder p) (closed : p.pulls ≡ fin.empty) (s : IndexState) (me-is : s.me ≡ p.me) (announced-is : s.announced ≡ p.announced) (last : ℕ) (last-is : last ≡ p.last) (ps : List OpenPull) (none : ps ≡ []) where
  pub closed-state : folder_with s last (pulls_of ps) ≡ p
  closed-state = (λ i. record { me = me-is i; announced = announced-is i; last = last-is i; pulls = (ap pulls_of none ∙ no_pulls ∙ sym closed) i })

  pub closed-indexed : (copies : List (Option FileRecord)) → copies ≡ [] → s.promised ≡ set.empty → s.choices ≤ 2 ^ 64 - 1 → IsIndexed s last ps copies
  closed-indexed copies nothing promised low = record {
    pulls_rise = subst PullsRise (sym none) refl;
    folder = subst IsFolder (sym closed-state) folder;
    ready = subst (All IsReady) (sym none) (λ i q below. absurd (let short : i < 0 = below in omega arith));
    copied = nothing ∙ sym (ap ready_of none);
    reserved = λ n. ap (λ names. contains names n) promised ∙ nothing-reserved n ∙ ap (λ m. commits_at m n) (sym (ap pulls_of none ∙ no_pulls));
    counted = low;
  }

-- what is lent of a folder's records are all of them
module _ (p : FolderState) (all : List Entry) (are : map filed all ≡ entries p.announced) where
  pub lent-rises : Rises all
  lent-rises = ap (is_sorted key_cmp) are ∙ is_true _ (entries_sorted p.announced)

  pub lent-announced : from_sorted (map filed all) ≡ p.announced
  lent-announced = ap from_sorted are ∙ sym (listed keys_total exact_keys p.announced)

  pub lent-counted : length all ≡ fin.len p.announced
  lent-counted = sym (length-map all filed) ∙ ap length are ∙ sym (fin.len-entries p.announced)

  pub lent-distinct : (me : Identity) → me ≡ p.me → IsFolder p → HasOwnSequences me (from_sorted (map filed all))
  lent-distinct me me-is folder = subst (λ a. HasOwnSequences me a) (sym lent-announced) (subst (λ d. HasOwnSequences d p.announced) (sym me-is) folder.numbered.distinct)

-- ---- what is known of a device

pub known-own : (s : FolderState) (d : Identity) → bytes_eq d s.me ≡ true → known s d ≡ s.last
known-own s d own = ap (λ b. cond b s.last (fold max 0 (map (λ e. e.1.sequence) (filter (is_by d) (entries s.announced))))) own

pub known-another : (s : FolderState) (d : Identity) → bytes_eq d s.me ≡ false → known s d ≡ fold max 0 (map (λ e. e.1.sequence) (filter (is_by d) (entries s.announced)))
known-another s d other = ap (λ b. cond b s.last (fold max 0 (map (λ e. e.1.sequence) (filter (is_by d) (entries s.announced))))) other

-- ---- where a loop is

in-at : {A : Type 0} (xs : List A) (k : ℕ) (d : A) → k < length xs → In (get_or xs k d) xs
in-at [] k d short = absurd (omega arith)
in-at (x ∷ xs) zero d short = inl refl
in-at (x ∷ xs) (suc k) d short = inr (in-at xs k d (omega arith))

module _ (me : Identity) (es : List Entry) (rises : Rises es) (k : ℕ) (e : Entry) (short : k < length es) (is : e ≡ get_or es k e) (s : IndexState) (partly : IsPartly me es (drop k es) s) where
  it-in : In e es
  it-in = subst (λ x. In x es) (sym is) (in-at es k e short)

  rest-is : drop k es ≡ e ∷ drop (suc k) es
  rest-is = drop-cons es k e short ∙ ap (λ x. x ∷ drop (suc k) es) (sym is)

  pub put-next : IsPartly me es (drop (k + 1) es) (with_record e.device e.record s)
  put-next = subst (λ j. IsPartly me es (drop j es) (with_record e.device e.record s)) (sym (one-more k)) (partly-more me es rises e it-in (drop (suc k) es) s (subst (λ rest. IsPartly me es rest s) rest-is partly))
    where
      one-more : (n : ℕ) → n + 1 ≡ suc n
      one-more n = omega arith

  pub free-next : HasOwnSequences me (all es) → e.device ≡ s.me → IsFree s e.record.name e.record.sequence
  free-next = partly-free me es rises e it-in (drop (suc k) es) s (subst (λ rest. IsPartly me es rest s) rest-is partly)

pub put-all : (me : Identity) (es : List Entry) → Rises es → (k : ℕ) → length es ≤ k → (s : IndexState) → IsPartly me es (drop k es) s → s ≡ record { me = me; announced = all es; choices = counted_more 0 (length es); promised = set.empty }
put-all me es rises k end s partly = partly-all me es rises s (subst (λ rest. IsPartly me es rest s) (drop_of_length-le es end) partly)
