-- The last number of a device is kept.
use Rattle.std.proofs.Common.{◌≡◌, ◌≢◌, ℕ, zero, suc, ◌<◌, ◌≤◌, Bool, true, false, List, [], ◌∷◌, ◌++◌, refl, sym, ap, subst, ◌∙◌, inl, inr, arith}
use Rattle.std.specs.Prelude.{◌==◌, ◌&&◌, ◌⊎◌, bytes_eq, cond, filter, fold, map, not, Option, Some, None, slice_get}
use Rattle.std.specs.Cmp.{Equal-is, tied_itself}
use Rattle.std.specs.FinMap.{empty, get, get-empty, get-insert, insert}
use Rattle.std.specs.List.{zip}
use Rattle.std.specs.Ordering.{eq_by_cmp, is_eq}
use Rattle.std.proofs.lemmas.Bool.{and_from, and_parts, eqb-true, eq-eqb, false_from_ne_true, ne_eqb, true≢false}
use Rattle.std.proofs.lemmas.List.Sums.{fold-append}
use Rattle.sync_record.specs.Devices.{Identity, bytes_cmp}
use Rattle.folder_core.proofs.ListTests.{alike_bytes, by_or, same_bytes}
use Rattle.folder_core.proofs.Orders.{bytes_total, exact_names}
use Rattle.node_config.specs.declared.config.PeerConfig.{PeerConfig}
use Rattle.node_state.specs.Peers.{Peers}
use Rattle.node_resume.specs.declared.shares.Share.{Share}
use Rattle.node_resume.specs.Left.{numbers_at, numbers_of, peers_left}
use Rattle.proof_node.specs.Numbers.{IsNumberAt}
use Rattle.proof_node.proofs.Places.{both-at, inside, none-there}

abbrev pub keep : Peers → List (Identity × ℕ) → Peers
keep m es = fold (λ m e. insert m e.0 e.1) m es

abbrev no-peers : Peers
no-peers = empty

keep-append : (m : Peers) (es fs : List (Identity × ℕ)) → keep m (es ++ fs) ≡ keep (keep m es) fs
keep-append m es fs = fold-append (λ (m : Peers) (e : Identity × ℕ). insert m e.0 e.1) m es fs

get-own : (m : Peers) (d : Identity) (n : ℕ) → get (insert m d n) d ≡ Some n
get-own m d n = get-insert bytes_total m d n d ∙ ap (λ b. cond b (Some n) (get m d)) (ap is_eq (tied_itself bytes_total d))

get-other : (m : Peers) (e : Identity) (n : ℕ) (d : Identity) → (e ≡ d → ⊥) → get (insert m e n) d ≡ get m d
get-other m e n d other =
    get-insert bytes_total m e n d
    ∙ ap (λ b. cond b (Some n) (get m d)) (false_from_ne_true (eq_by_cmp bytes_cmp d e) (λ t. other (sym (exact_names d e ((Equal-is (bytes_cmp d e)).0 t)))))

module _ (place : ℕ) where
  abbrev is_picked : Share × ℕ → Bool
  is_picked p = p.0.folder == place && not (p.1 == 0)

  picked-folder : (s : Share) (n : ℕ) → is_picked (s, n) ≡ true → s.folder ≡ place
  picked-folder s n t = eqb-true s.folder place (and_parts (s.folder == place) (not (n == 0)) t).0

  picked-number : (s : Share) (n : ℕ) → is_picked (s, n) ≡ true → n ≢ 0
  picked-number s n t none = true≢false (sym (and_parts (s.folder == place) (not (n == 0)) t).1 ∙ ap not (eq-eqb n 0 none))

  is-picked : (s : Share) (n : ℕ) → s.folder ≡ place → n ≢ 0 → is_picked (s, n) ≡ true
  is-picked s n folder some = and_from (s.folder == place) (not (n == 0)) (eq-eqb s.folder place folder) (ap not (ne_eqb n 0 some))

  -- ---- those of one peer

  record IsOwn (ss : List Share) (ns : List ℕ) (j n : ℕ) : Type 0 where
    share : (s : Share) × (slice_get ss j ≡ Some s) × (s.folder ≡ place)
    number : slice_get ns j ≡ Some n
    some : n ≢ 0

  -- the last one is what there is, or there is none and it is what was there before
  abbrev OwnOf : Option ℕ → Option ℕ → List Share → List ℕ → Type 0
  OwnOf is was ss ns =
      ((j : ℕ) × (n : ℕ) × IsOwn ss ns j n × (is ≡ Some n) × ((l k : ℕ) → IsOwn ss ns l k → l ≤ j))
      ⊎ (((l k : ℕ) → IsOwn ss ns l k → ⊥) × (is ≡ was))

  module _ (s : Share) (n : ℕ) (ss : List Share) (ns : List ℕ) where
    onward : (j k : ℕ) → IsOwn ss ns j k → IsOwn (s ∷ ss) (n ∷ ns) (suc j) k
    onward j k h = record { share = h.share; number = h.number; some = h.some }

    back : (j k : ℕ) → IsOwn (s ∷ ss) (n ∷ ns) (suc j) k → IsOwn ss ns j k
    back j k h = record { share = h.share; number = h.number; some = h.some }

    latest-onward : (j : ℕ) → ((l k : ℕ) → IsOwn ss ns l k → l ≤ j) → (l k : ℕ) → IsOwn (s ∷ ss) (n ∷ ns) l k → l ≤ suc j
    latest-onward j latest zero k h = omega arith
    latest-onward j latest (suc l) k h = let e = latest l k (back l k h) in omega arith

    latest-here : ((l k : ℕ) → IsOwn ss ns l k → ⊥) → (l k : ℕ) → IsOwn (s ∷ ss) (n ∷ ns) l k → l ≤ 0
    latest-here none zero k h = omega arith
    latest-here none (suc l) k h = absurd (none l k (back l k h))

    none-here : is_picked (s, n) ≡ false → ((l k : ℕ) → IsOwn ss ns l k → ⊥) → (l k : ℕ) → IsOwn (s ∷ ss) (n ∷ ns) l k → ⊥
    none-here f none zero k h =
        let folder : s.folder ≡ place = ap (λ (x : Share). x.folder) (inside s h.share.0 h.share.1) ∙ h.share.2 in
        let same : n ≡ k = inside n k h.number in
        true≢false (sym (is-picked s n folder (λ z. h.some (sym same ∙ z))) ∙ f)
    none-here f none (suc l) k h = none l k (back l k h)

    taken : (is was new : Option ℕ) → is_picked (s, n) ≡ true → new ≡ Some n → OwnOf is new ss ns → OwnOf is was (s ∷ ss) (n ∷ ns)
    taken is was new t own (inl f) = inl (suc f.0, f.1, onward f.0 f.1 f.2, f.3, latest-onward f.0 f.4)
    taken is was new t own (inr f) =
        inl (0, n, record { share = (s, refl, picked-folder s n t); number = refl; some = picked-number s n t }, f.1 ∙ own, latest-here f.0)

    passed : (is was : Option ℕ) → is_picked (s, n) ≡ false → OwnOf is was ss ns → OwnOf is was (s ∷ ss) (n ∷ ns)
    passed is was t (inl f) = inl (suc f.0, f.1, onward f.0 f.1 f.2, f.3, latest-onward f.0 f.4)
    passed is was t (inr f) = inr (none-here t f.0, f.1)

  module _ (e : Identity) where
    abbrev numbered : List (Share × ℕ) → List (Identity × ℕ)
    numbered ps = map (λ p. (e, p.1)) ps

    own : (m : Peers) (ss : List Share) (ns : List ℕ) → OwnOf (get (keep m (numbers_of place e ss ns)) e) (get m e) ss ns
    own m [] ns = inr ((λ l k h. none-there h.share.0 h.share.1), refl)
    own m (s ∷ ss) [] = inr ((λ l k h. none-there k h.number), refl)
    own m (s ∷ ss) (n ∷ ns) =
        elim (is_picked (s, n)) as (λ b. is_picked (s, n) ≡ b → OwnOf (get (keep m (numbered (cond b ((s, n) ∷ filter is_picked (zip ss ns)) (filter is_picked (zip ss ns))))) e) (get m e) (s ∷ ss) (n ∷ ns)) [
          | true ↦ λ t. taken s n ss ns _ (get m e) (get (insert m e n) e) t (get-own m e n) (own (insert m e n) ss ns)
          | false ↦ λ t. passed s n ss ns _ (get m e) t (own m ss ns)
        ] refl

    unlike : (d : Identity) → (e ≡ d → ⊥) → (m : Peers) (ps : List (Share × ℕ)) → get (keep m (numbered (filter is_picked ps))) d ≡ get m d
    unlike d other m [] = refl
    unlike d other m (p ∷ ps) =
        elim (is_picked p) as (λ b. get (keep m (numbered (cond b (p ∷ filter is_picked ps) (filter is_picked ps)))) d ≡ get m d) [
          | true ↦ unlike d other (insert m e p.1) ps ∙ get-other m e p.1 d other
          | false ↦ unlike d other m ps
        ]

  -- ---- those of all peers

  abbrev After : ℕ → ℕ → ℕ → ℕ → Type 0
  After i j k l = (k < i) ⊎ ((k ≡ i) × (l ≤ j))

  module _ (d : Identity) where
    abbrev Last : List PeerConfig → List (List Share) → List (List ℕ) → ℕ → ℕ → Type 0
    Last ps sss nss i j = (k l n : ℕ) → IsNumberAt place ps sss nss d k l n → After i j k l

    abbrev AllOf : Option ℕ → Option ℕ → List PeerConfig → List (List Share) → List (List ℕ) → Type 0
    AllOf is was ps sss nss =
        ((i : ℕ) × (j : ℕ) × (n : ℕ) × IsNumberAt place ps sss nss d i j n × (is ≡ Some n) × Last ps sss nss i j)
        ⊎ (((k l n : ℕ) → IsNumberAt place ps sss nss d k l n → ⊥) × (is ≡ was))

    -- what the first peer's make of it
    abbrev FirstOf : Option ℕ → Option ℕ → PeerConfig → List Share → List ℕ → Type 0
    FirstOf is was p ss ns = ((p.device ≡ d) × OwnOf is was ss ns) ⊎ ((p.device ≡ d → ⊥) × (is ≡ was))

    module _ (p : PeerConfig) (ss : List Share) (ns : List ℕ) (ps : List PeerConfig) (sss : List (List Share)) (nss : List (List ℕ)) where
      abbrev At : ℕ → ℕ → ℕ → Type 0
      At i j n = IsNumberAt place (p ∷ ps) (ss ∷ sss) (ns ∷ nss) d i j n

      abbrev Later : ℕ → ℕ → ℕ → Type 0
      Later i j n = IsNumberAt place ps sss nss d i j n

      next : (i j n : ℕ) → Later i j n → At (suc i) j n
      next i j n h = record { peer = h.peer; share = h.share; number = h.number; some = h.some }

      before : (i j n : ℕ) → At (suc i) j n → Later i j n
      before i j n h = record { peer = h.peer; share = h.share; number = h.number; some = h.some }

      owned : (j n : ℕ) → At 0 j n → IsOwn ss ns j n
      owned j n h = record {
        share = (h.share.1, ap (λ xs. slice_get xs j) (inside ss h.share.0 h.share.2) ∙ h.share.3, h.share.4);
        number = ap (λ xs. slice_get xs j) (inside ns h.number.0 h.number.1) ∙ h.number.2;
        some = h.some;
      }

      at-first : p.device ≡ d → (j n : ℕ) → IsOwn ss ns j n → At 0 j n
      at-first same j n h = record { peer = (p, refl, same); share = (ss, h.share.0, refl, h.share.1, h.share.2); number = (ns, refl, h.number); some = h.some }

      pushed : (i j k l : ℕ) → After i j k l → After (suc i) j (suc k) l
      pushed i j k l (inl lt) = inl (omega arith)
      pushed i j k l (inr h) = inr (ap suc h.0, h.1)

      last-later : (i j : ℕ) → Last ps sss nss i j → (k l n : ℕ) → At k l n → After (suc i) j k l
      last-later i j last zero l n h = inl (omega arith)
      last-later i j last (suc k) l n h = pushed i j k l (last k l n (before k l n h))

      last-first : (j : ℕ) → ((k l n : ℕ) → Later k l n → ⊥) → ((l n : ℕ) → IsOwn ss ns l n → l ≤ j) → (k l n : ℕ) → At k l n → After 0 j k l
      last-first j none latest zero l n h = inr (refl, latest l n (owned l n h))
      last-first j none latest (suc k) l n h = absurd (none k l n (before k l n h))

      none-at : ((k l n : ℕ) → Later k l n → ⊥) → ((l n : ℕ) → At 0 l n → ⊥) → (k l n : ℕ) → At k l n → ⊥
      none-at none here zero l n h = here l n h
      none-at none here (suc k) l n h = none k l n (before k l n h)

      own-last : (is mid was : Option ℕ) → ((k l n : ℕ) → Later k l n → ⊥) → is ≡ mid → p.device ≡ d → OwnOf mid was ss ns → AllOf is was (p ∷ ps) (ss ∷ sss) (ns ∷ nss)
      own-last is mid was none e same (inl g) = inl (0, g.0, g.1, at-first same g.0 g.1 g.2, e ∙ g.3, last-first g.0 none g.4)
      own-last is mid was none e same (inr g) = inr (none-at none (λ l n h. g.0 l n (owned l n h)), e ∙ g.1)

      first-last : (is mid was : Option ℕ) → ((k l n : ℕ) → Later k l n → ⊥) → is ≡ mid → FirstOf mid was p ss ns → AllOf is was (p ∷ ps) (ss ∷ sss) (ns ∷ nss)
      first-last is mid was none e (inl g) = own-last is mid was none e g.0 g.1
      first-last is mid was none e (inr g) =
          inr (none-at none (λ l n h. g.0 (ap (λ (x : PeerConfig). x.device) (inside p h.peer.0 h.peer.1) ∙ h.peer.2)), e ∙ g.1)

      joined : (is mid was : Option ℕ) → AllOf is mid ps sss nss → FirstOf mid was p ss ns → AllOf is was (p ∷ ps) (ss ∷ sss) (ns ∷ nss)
      joined is mid was (inl f) g = inl (suc f.0, f.1, f.2, next f.0 f.1 f.2 f.3, f.4, last-later f.0 f.1 f.5)
      joined is mid was (inr f) g = first-last is mid was f.0 f.1 g

    first-of : (m : Peers) (p : PeerConfig) (ss : List Share) (ns : List ℕ) → FirstOf (get (keep m (numbers_of place p.device ss ns)) d) (get m d) p ss ns
    first-of m p ss ns =
        by_or (bytes_eq p.device d) (FirstOf (get (keep m (numbers_of place p.device ss ns)) d) (get m d) p ss ns)
        (λ t.
        let same : p.device ≡ d = same_bytes p.device d t in
        inl (same, subst (λ x. OwnOf (get (keep m (numbers_of place p.device ss ns)) x) (get m x) ss ns) same (own p.device m ss ns)))
        (λ f.
        let other : p.device ≡ d → ⊥ = λ s. true≢false (sym (alike_bytes p.device d s) ∙ f) in
        inr (other, unlike p.device d other m (zip ss ns)))

    pub all-numbers : (m : Peers) (ps : List PeerConfig) (sss : List (List Share)) (nss : List (List ℕ)) → AllOf (get (keep m (numbers_at place ps sss nss)) d) (get m d) ps sss nss
    all-numbers m [] sss nss = inr ((λ k l n h. none-there h.peer.0 h.peer.1), refl)
    all-numbers m (p ∷ ps) [] nss = inr ((λ k l n h. none-there h.share.0 h.share.2), refl)
    all-numbers m (p ∷ ps) (ss ∷ sss) [] = inr ((λ k l n h. none-there h.number.0 h.number.1), refl)
    all-numbers m (p ∷ ps) (ss ∷ sss) (ns ∷ nss) =
        let mid = keep m (numbers_of place p.device ss ns) in
        subst (λ x. AllOf x (get m d) (p ∷ ps) (ss ∷ sss) (ns ∷ nss)) (ap (λ (y : Peers). get y d) (sym (keep-append m (numbers_of place p.device ss ns) (numbers_at place ps sss nss))))
        (joined p ss ns ps sss nss _ (get mid d) (get m d) (all-numbers mid ps sss nss) (first-of m p ss ns))

    pub last-number : (ps : List PeerConfig) (sss : List (List Share)) (nss : List (List ℕ)) (n : ℕ) → get (peers_left place ps sss nss) d ≡ Some n
        → (i : ℕ) × (j : ℕ) × IsNumberAt place ps sss nss d i j n × Last ps sss nss i j
    last-number ps sss nss n e = by (all-numbers no-peers ps sss nss)
      where
        by : AllOf (get (peers_left place ps sss nss) d) (get no-peers d) ps sss nss → (i : ℕ) × (j : ℕ) × IsNumberAt place ps sss nss d i j n × Last ps sss nss i j
        by (inl f) = (f.0, f.1, subst (λ k. IsNumberAt place ps sss nss d f.0 f.1 k) (both-at _ f.2 n f.4 e) f.3, f.5)
        by (inr f) = none-there n (sym (get-empty bytes_cmp d) ∙ sym f.1 ∙ e)

    pub no-number : (ps : List PeerConfig) (sss : List (List Share)) (nss : List (List ℕ)) → get (peers_left place ps sss nss) d ≡ None
        → (i j n : ℕ) → IsNumberAt place ps sss nss d i j n → ⊥
    no-number ps sss nss e = by (all-numbers no-peers ps sss nss)
      where
        by : AllOf (get (peers_left place ps sss nss) d) (get no-peers d) ps sss nss → (i j n : ℕ) → IsNumberAt place ps sss nss d i j n → ⊥
        by (inl f) = λ i j n h. none-there f.2 (sym e ∙ f.4)
        by (inr f) = f.0
