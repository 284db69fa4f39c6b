-- Index numbers of peers as a list and as a map.
use Rattle.std.proofs.Common.{◌≡◌, ℕ, zero, suc, ◌+◌, ◌<◌, Bool, true, false, List, [], ◌∷◌, ◌++◌, length, get_or, take, drop, map, refl, sym, ap, subst, ◌∙◌, arith, inl, inr}
use Rattle.std.specs.Bool.{passes}
use Rattle.std.specs.Cmp.{Equal-is}
use Rattle.std.specs.FinMap.{empty, entries-from_sorted, entries-insert, find, from_entries, from_entries_push, from_sorted, get-empty, get-from_sorted, insert as add, is_sorted, put, same_entries_map, same_map}
use Rattle.std.specs.FinMap.Entries.{by_order, is_sorted-put}
use Rattle.std.specs.List.{AllByRecursion, AllWithin, insert, list_any}
use Rattle.std.specs.Ordering.{eq_by_cmp, ordering_reverse}
use Rattle.std.specs.Prelude.{IsTrue, None, Some, bytes_eq, cond, filter, slice_set}
use Rattle.std.specs.declared.cmp.Ordering.TheVariants.{Less, Equal, Greater}
use Rattle.std.proofs.lemmas.Bool.{true≢false}
use Rattle.std.proofs.lemmas.List.{append-nil, take-append-drop, take_more}
use Rattle.folder_core.proofs.ListTests.{In, alike_bytes, any_in, by_or, in_any, in_map, of_map, same_bytes}
use Rattle.folder_core.proofs.Orders.{bytes_total, exact_names, is_true}
use Rattle.folder_core.proofs.ReadLists.{Apart}
use Rattle.folder_core.proofs.RestoreFolders.{apart-pairs_by, pairs-apart_by}
use Rattle.sync_record.specs.Devices.{Identity, bytes_cmp}
use Rattle.node_state.specs.declared.kept.PeerIndex.{PeerIndex}
use Rattle.node_state.specs.Peers.{Peers, is_kept, pair}
use Rattle.node_state.specs.Reading.{AreOnce}
use Rattle.node_state.proofs.Apart.{not-apart, push-apart}

abbrev pub peers_of : List (Identity × ℕ) → Peers
peers_of = from_sorted

pub no_peers : peers_of [] ≡ empty
no_peers = same_map bytes_total exact_names _ _ (λ d. get-from_sorted bytes_cmp [] d tt ∙ sym (get-empty bytes_cmp d))

-- ---- one that is put in its place

abbrev pub IsBefore : PeerIndex → PeerIndex → Type 0
IsBefore x p = bytes_cmp p.device x.device ≡ Less

over : (e x : PeerIndex) (es : List (Identity × ℕ)) → IsBefore x e → put bytes_cmp x.device x.index_id (pair e ∷ es) ≡ pair e ∷ put bytes_cmp x.device x.index_id es
over e x es less =
    ap (λ o. by_order o (pair x ∷ pair e ∷ es) ((e.device, x.index_id) ∷ es) (pair e ∷ put bytes_cmp x.device x.index_id es))
    (bytes_total.antisymm x.device e.device ∙ ap ordering_reverse less)

pub put-inserts : (x : PeerIndex) (es : List PeerIndex) (i : ℕ) (y : PeerIndex) → i < length es → AllWithin (IsBefore x) es 0 i → y ≡ get_or es i y → bytes_cmp y.device x.device ≡ Greater
    → map pair (insert es i x) ≡ put bytes_cmp x.device x.index_id (map pair es)
put-inserts x [] i y lt pass is next = absurd (omega arith)
put-inserts x (e ∷ es) zero y lt pass is next =
    sym (ap (λ o. by_order o (pair x ∷ pair e ∷ map pair es) ((e.device, x.index_id) ∷ map pair es) (pair e ∷ put bytes_cmp x.device x.index_id (map pair es)))
    (bytes_total.antisymm x.device e.device ∙ ap ordering_reverse (ap (λ (z : PeerIndex). bytes_cmp z.device x.device) (sym is) ∙ next)))
put-inserts x (e ∷ es) (suc i) y lt pass is next =
    ap (λ ys. pair e ∷ ys) (put-inserts x es i y (omega arith) (λ k d l s. pass (suc k) d (omega arith) (omega arith)) is next)
    ∙ sym (over e x (map pair es) (pass 0 e (omega arith) (omega arith)))

pub put-sets : (x : PeerIndex) (es : List PeerIndex) (i : ℕ) (y : PeerIndex) → i < length es → AllWithin (IsBefore x) es 0 i → y ≡ get_or es i y → bytes_cmp y.device x.device ≡ Equal
    → map pair (slice_set es i x) ≡ put bytes_cmp x.device x.index_id (map pair es)
put-sets x [] i y lt pass is same = absurd (omega arith)
put-sets x (e ∷ es) zero y lt pass is same =
    let here : bytes_cmp e.device x.device ≡ Equal = ap (λ (z : PeerIndex). bytes_cmp z.device x.device) (sym is) ∙ same in
    sym (ap (λ o. by_order o (pair x ∷ pair e ∷ map pair es) ((e.device, x.index_id) ∷ map pair es) (pair e ∷ put bytes_cmp x.device x.index_id (map pair es)))
    (bytes_total.antisymm x.device e.device ∙ ap ordering_reverse here)
    ∙ ap (λ (d : Identity). (d, x.index_id) ∷ map pair es) (exact_names e.device x.device here))
put-sets x (e ∷ es) (suc i) y lt pass is same =
    ap (λ ys. pair e ∷ ys) (put-sets x es i y (omega arith) (λ k d l s. pass (suc k) d (omega arith) (omega arith)) is same)
    ∙ sym (over e x (map pair es) (pass 0 e (omega arith) (omega arith)))

pub put-last : (x : PeerIndex) (es : List PeerIndex) → AllWithin (IsBefore x) es 0 (length es) → map pair (es ++ x ∷ []) ≡ put bytes_cmp x.device x.index_id (map pair es)
put-last x [] pass = refl
put-last x (e ∷ es) pass =
    ap (λ ys. pair e ∷ ys) (put-last x es (λ k d l s. pass (suc k) d (omega arith) (omega arith)))
    ∙ sym (over e x (map pair es) (pass 0 e (omega arith) (omega arith)))

module _ (old new : List (Identity × ℕ)) (d : Identity) (n : ℕ) (sorted : IsTrue (is_sorted bytes_cmp old)) (is : new ≡ put bytes_cmp d n old) where
  pub put-sorted : IsTrue (is_sorted bytes_cmp new)
  put-sorted = subst (λ es. IsTrue (is_sorted bytes_cmp es)) (sym is) (is_true _ (is_sorted-put bytes_cmp bytes_total d n old (passes _ sorted)))

  pub put-adds : peers_of new ≡ add (peers_of old) d n
  put-adds =
      same_entries_map _ _ (entries-from_sorted bytes_cmp new (passes _ put-sorted) ∙ is
      ∙ ap (put bytes_cmp d n) (sym (entries-from_sorted bytes_cmp old (passes _ sorted)))
      ∙ sym (entries-insert bytes_total (peers_of old) d n))

-- ---- peers one by one, of which no two are one

abbrev pub device_of : Identity × ℕ → Identity
device_of p = p.0

abbrev pub devices : List PeerIndex → List Identity
devices ps = map device_of (map pair ps)

abbrev kept_of : List PeerIndex → List (Identity × ℕ)
kept_of ps = filter is_kept (map pair ps)

none-found : (d : Identity) (es : List (Identity × ℕ)) → ¬ (In d (map device_of es)) → find bytes_cmp d es ≡ None
none-found d [] new = refl
none-found d (e ∷ es) new =
    by_or (eq_by_cmp bytes_cmp d e.0) (find bytes_cmp d (e ∷ es) ≡ None)
    (λ t. absurd (new (inl (exact_names d e.0 ((Equal-is (bytes_cmp d e.0)).0 t)))))
    (λ f. ap (λ b. cond b (Some e.1) (find bytes_cmp d es)) f ∙ none-found d es (λ i. new (inr i)))

of-filtered : (p : Identity × ℕ → Bool) (es : List (Identity × ℕ)) (d : Identity) → In d (map device_of (filter p es)) → In d (map device_of es)
of-filtered p [] d i = absurd i
of-filtered p (e ∷ es) d i =
    elim (p e) as (λ b. In d (map device_of (cond b (e ∷ filter p es) (filter p es))) → In d (map device_of (e ∷ es))) [
      | true ↦ λ j. elim j [ inl s ↦ inl s | inr k ↦ inr (of-filtered p es d k) ]
      | false ↦ λ j. inr (of-filtered p es d j)
    ] i

kept-push : (ps : List PeerIndex) (p : PeerIndex) → kept_of (ps ++ p ∷ []) ≡ kept_of ps ++ cond (is_kept (pair p)) (pair p ∷ []) []
kept-push [] p = refl
kept-push (q ∷ ps) p =
    elim (is_kept (pair q)) as (λ b. cond b (pair q ∷ kept_of (ps ++ p ∷ [])) (kept_of (ps ++ p ∷ [])) ≡ cond b (pair q ∷ kept_of ps) (kept_of ps) ++ cond (is_kept (pair p)) (pair p ∷ []) []) [
      | true ↦ ap (λ es. pair q ∷ es) (kept-push ps p)
      | false ↦ kept-push ps p
    ]

devices-push : (ps : List PeerIndex) (p : PeerIndex) → devices (ps ++ p ∷ []) ≡ devices ps ++ p.device ∷ []
devices-push [] p = refl
devices-push (q ∷ ps) p = ap (λ ds. q.device ∷ ds) (devices-push ps p)

in-devices : (ps : List PeerIndex) (d : Identity) → list_any (λ p. bytes_eq p.device d) ps ≡ true → In d (devices ps)
in-devices ps d t =
    let m = any_in (λ (p : PeerIndex). bytes_eq p.device d) ps t in
    let x : PeerIndex = m.0 in
    subst (λ e. In e (devices ps)) (same_bytes x.device d m.2) (in_map device_of (map pair ps) (pair x) (in_map pair ps x m.1))

not-devices : (ps : List PeerIndex) (d : Identity) → list_any (λ p. bytes_eq p.device d) ps ≡ false → ¬ (In d (devices ps))
not-devices ps d f i =
    let m = of_map device_of (map pair ps) d i in
    let n = of_map pair ps m.0 m.1 in
    let x : PeerIndex = n.0 in
    let e : x.device ≡ d = ap device_of n.2 ∙ m.2 in
    true≢false (sym (in_any (λ (p : PeerIndex). bytes_eq p.device d) ps x n.1 (alike_bytes x.device d e)) ∙ f)

module _ (ps : List PeerIndex) (i : ℕ) (p : PeerIndex) (lt : i < length ps) (is : p ≡ get_or ps i p) where
  abbrev front : List PeerIndex
  front = take i ps

  pushed : take (i + 1) ps ≡ front ++ p ∷ []
  pushed = take_more ps i p lt ∙ ap (λ (q : PeerIndex). take i ps ++ q ∷ []) (sym is)

  pub peers-apart : Apart (devices front) → list_any (λ q. bytes_eq q.device p.device) front ≡ false → Apart (devices (take (i + 1) ps))
  peers-apart apart new =
      subst (λ qs. Apart (devices qs)) (sym pushed) (subst Apart (sym (devices-push front p)) (push-apart (devices front) p.device apart (not-devices front p.device new)))

  pub peers-kept : list_any (λ q. bytes_eq q.device p.device) front ≡ false → is_kept (pair p) ≡ true → (m : Peers) → m ≡ from_entries (kept_of front)
      → add m p.device p.index_id ≡ from_entries (kept_of (take (i + 1) ps))
  peers-kept new kept m so_far =
      let none = none-found p.device (kept_of front) (λ j. not-devices front p.device new (of-filtered is_kept (map pair front) p.device j)) in
      ap (λ k. add k p.device p.index_id) so_far
      ∙ sym (from_entries_push bytes_total exact_names (kept_of front) p.device p.index_id none)
      ∙ ap (λ es. from_entries es) (sym (ap kept_of pushed ∙ kept-push front p ∙ ap (λ b. kept_of front ++ cond b (pair p ∷ []) []) kept))

  pub peers-skipped : is_kept (pair p) ≡ false → (m : Peers) → m ≡ from_entries (kept_of front) → m ≡ from_entries (kept_of (take (i + 1) ps))
  peers-skipped kept m so_far =
      so_far ∙ ap (λ es. from_entries es) (sym (ap kept_of pushed ∙ kept-push front p ∙ ap (λ b. kept_of front ++ cond b (pair p ∷ []) []) kept ∙ append-nil (kept_of front)))

  split : (qs : List PeerIndex) → ps ≡ front ++ p ∷ qs → In p.device (devices front) → ¬ (Apart (devices ps))
  split qs e i apart = not-apart (devices front) (devices qs) p.device i (subst Apart (ap devices e ∙ devices-append front (p ∷ qs)) apart)
    where
      devices-append : (xs ys : List PeerIndex) → devices (xs ++ ys) ≡ devices xs ++ devices ys
      devices-append [] ys = refl
      devices-append (x ∷ xs) ys = ap (λ ds. x.device ∷ ds) (devices-append xs ys)

  pub peers-repeat : list_any (λ q. bytes_eq q.device p.device) front ≡ true → ¬ (AreOnce (map pair ps))
  peers-repeat old once =
      split (drop (i + 1) ps) (sym (take-append-drop (i + 1) ps) ∙ ap (λ xs. xs ++ drop (i + 1) ps) pushed ∙ again front (drop (i + 1) ps))
      (in-devices front p.device old) (pairs-apart_by device_of (map pair ps) once)
    where
      again : (xs ys : List PeerIndex) → (xs ++ p ∷ []) ++ ys ≡ xs ++ p ∷ ys
      again [] ys = refl
      again (x ∷ xs) ys = ap (λ zs. x ∷ zs) (again xs ys)

pub once-of : (ps : List PeerIndex) → Apart (devices ps) → AreOnce (map pair ps)
once-of ps apart = apart-pairs_by device_of (map pair ps) apart

-- ---- the devices of the peers of which a number is kept

all-push : (es : List (Identity × ℕ)) (e : Identity × ℕ) → AllByRecursion (λ p. length p.0 ≡ 32) es → length e.0 ≡ 32 → AllByRecursion (λ p. length p.0 ≡ 32) (es ++ e ∷ [])
all-push [] e all here = (here, tt)
all-push (x ∷ es) e all here = (all.0, all-push es e all.1 here)

module _ (ps : List PeerIndex) (i : ℕ) (p : PeerIndex) (lt : i < length ps) (is : p ≡ get_or ps i p) where
  next : kept_of (take (i + 1) ps) ≡ kept_of (take i ps) ++ cond (is_kept (pair p)) (pair p ∷ []) []
  next = ap kept_of (take_more ps i p lt ∙ ap (λ (q : PeerIndex). take i ps ++ q ∷ []) (sym is)) ∙ kept-push (take i ps) p

  pub pairs-more : is_kept (pair p) ≡ true → AllByRecursion (λ e. length e.0 ≡ 32) (kept_of (take i ps)) → length p.device ≡ 32 → AllByRecursion (λ e. length e.0 ≡ 32) (kept_of (take (i + 1) ps))
  pairs-more kept all here =
      subst (AllByRecursion (λ (e : Identity × ℕ). length e.0 ≡ 32)) (sym (next ∙ ap (λ b. kept_of (take i ps) ++ cond b (pair p ∷ []) []) kept)) (all-push (kept_of (take i ps)) (pair p) all here)

  pub pairs-skipped : is_kept (pair p) ≡ false → AllByRecursion (λ e. length e.0 ≡ 32) (kept_of (take i ps)) → AllByRecursion (λ e. length e.0 ≡ 32) (kept_of (take (i + 1) ps))
  pairs-skipped kept all =
      subst (AllByRecursion (λ (e : Identity × ℕ). length e.0 ≡ 32)) (sym (next ∙ ap (λ b. kept_of (take i ps) ++ cond b (pair p ∷ []) []) kept ∙ append-nil (kept_of (take i ps)))) all
