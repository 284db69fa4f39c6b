-- The numbers that are kept of devices.
use Rattle.std.proofs.Common.{◌≡◌, ℕ, ◌+◌, ◌<◌, Bool, true, false, List, [], ◌∷◌, ◌++◌, length, get_or, take, refl, sym, ap, ◌∙◌, arith}
use Rattle.std.specs.Prelude.{◌==◌, ◌&&◌, bytes_eq, cond, filter, fold, map, min, not, option_map, Option, None, Some, unwrap_or}
use Rattle.std.specs.Cmp.Lexicographic.{nat_list_eq_equiv, texts_ties}
use Rattle.std.specs.FinMap.{empty, entries, find as look_up, get, get-entries, insert}
use Rattle.std.specs.List.{find, flat_map, zip}
use Rattle.std.specs.Ordering.{eq_by_cmp}
use Rattle.std.proofs.lemmas.Bool.{and_from, eq-eqb, ne_eqb}
use Rattle.std.proofs.lemmas.Grind.{flat_map-append}
use Rattle.std.proofs.lemmas.List.{append-nil, map-append, take_more}
use Rattle.std.proofs.lemmas.List.Elements.{filter-append}
use Rattle.std.proofs.lemmas.List.Sums.{fold-append}
use Rattle.std.proofs.lemmas.Slice.Zip.{get_or-zip, length-zip}
use Rattle.sync_record.specs.Devices.{Identity, bytes_cmp}
use Rattle.node_config.specs.declared.config.PeerConfig.{PeerConfig}
use Rattle.node_state.specs.declared.kept.PeerIndex.{PeerIndex}
use Rattle.node_state.specs.Peers.{Peers, pair}
use Rattle.node_resume.specs.declared.shares.Share.{Share}
use Rattle.node_resume.specs.Left.{numbers_of}

-- ---- the number of a device

same : (d e : Identity) → eq_by_cmp bytes_cmp d e ≡ bytes_eq e d
same d e = sym (texts_ties d e) ∙ nat_list_eq_equiv.symm d e

chosen : (a b : Bool) (p : PeerIndex) (o : Option PeerIndex) → a ≡ b → cond a (Some p.index_id) (option_map (λ q. q.index_id) o) ≡ option_map (λ q. q.index_id) (cond b (Some p) o)
chosen true true p o e = refl
chosen true false p o e = absurd cc
chosen false true p o e = absurd cc
chosen false false p o e = refl

looked-up : (d : Identity) (ps : List PeerIndex) → look_up bytes_cmp d (map pair ps) ≡ option_map (λ p. p.index_id) (find (λ p. bytes_eq p.device d) ps)
looked-up d [] = refl
looked-up d (p ∷ ps) =
    ap (cond (eq_by_cmp bytes_cmp d p.device) (Some p.index_id)) (looked-up d ps)
    ∙ chosen (eq_by_cmp bytes_cmp d p.device) (bytes_eq p.device d) p (find (λ q. bytes_eq q.device d) ps) (same d p.device)

pub number-in : (m : Peers) (ps : List PeerIndex) (d : Identity) → map pair ps ≡ entries m → get m d ≡ option_map (λ p. p.index_id) (find (λ p. bytes_eq p.device d) ps)
number-in m ps d is = get-entries m d ∙ ap (look_up bytes_cmp d) (sym is) ∙ looked-up d ps

-- ---- numbers that are kept one by one

abbrev pub keep : Peers → List (Identity × ℕ) → Peers
keep m es = fold (λ m e. insert m e.0 e.1) m es

keep-append : (m : Peers) (es fs : List (Identity × ℕ)) → keep m (es ++ fs) ≡ keep (keep m es) fs
keep-append m es fs = fold-append (λ (m : Peers) (e : Identity × ℕ). insert m e.0 e.1) m es fs

abbrev pub is_picked : ℕ → Share × ℕ → Bool
is_picked place p = p.0.folder == place && not (p.1 == 0)

abbrev pub picked : ℕ → Identity → List (Share × ℕ) → List (Identity × ℕ)
picked place device ps = map (λ p. (device, p.1)) (filter (is_picked place) ps)

module _ (place : ℕ) (device : Identity) (m : Peers) (ps : List (Share × ℕ)) (i : ℕ) (p : Share × ℕ) (lt : i < length ps) (is : p ≡ get_or ps i p) where
  abbrev numbered : List (Share × ℕ) → List (Identity × ℕ)
  numbered qs = map (λ q. (device, q.1)) qs

  next : (b : Bool) → is_picked place p ≡ b → keep m (picked place device (take (i + 1) ps)) ≡ keep (keep m (picked place device (take i ps))) (numbered (cond b (p ∷ []) []))
  next b e =
      ap (λ qs. keep m (picked place device qs)) (take_more ps i p lt ∙ ap (λ (q : Share × ℕ). take i ps ++ q ∷ []) (sym is))
      ∙ ap (λ qs. keep m (numbered qs)) (filter-append (is_picked place) (take i ps) (p ∷ []) ∙ ap (λ t. filter (is_picked place) (take i ps) ++ cond t (p ∷ []) []) e)
      ∙ ap (keep m) (map-append (λ (q : Share × ℕ). (device, q.1)) (filter (is_picked place) (take i ps)) (cond b (p ∷ []) []))
      ∙ keep-append m (picked place device (take i ps)) (numbered (cond b (p ∷ []) []))

  pub kept-more : is_picked place p ≡ true → keep m (picked place device (take (i + 1) ps)) ≡ insert (keep m (picked place device (take i ps))) device p.1
  kept-more e = next true e

  pub kept-same : is_picked place p ≡ false → keep m (picked place device (take (i + 1) ps)) ≡ keep m (picked place device (take i ps))
  kept-same e = next false e

and_no : (b : Bool) → (b && false) ≡ false
and_no true = refl
and_no false = refl

pub is-picked : (place : ℕ) (p : Share × ℕ) → p.0.folder ≡ place → (p.1 ≡ 0 → ⊥) → is_picked place p ≡ true
is-picked place p folder number = and_from (p.0.folder == place) (not (p.1 == 0)) (eq-eqb p.0.folder place folder) (ap not (ne_eqb p.1 0 number))

pub not-picked-folder : (place : ℕ) (p : Share × ℕ) → (p.0.folder ≡ place → ⊥) → is_picked place p ≡ false
not-picked-folder place p other = ap (λ b. b && not (p.1 == 0)) (ne_eqb p.0.folder place other)

pub not-picked-number : (place : ℕ) (p : Share × ℕ) → p.1 ≡ 0 → is_picked place p ≡ false
not-picked-number place p none = ap (λ b. (p.0.folder == place) && not b) (eq-eqb p.1 0 none) ∙ and_no (p.0.folder == place)

-- ---- those of all peers

abbrev pub OfPeer : Type 0
OfPeer = PeerConfig × (List Share × List ℕ)

abbrev pub of_peer : ℕ → OfPeer → List (Identity × ℕ)
of_peer place p = numbers_of place p.0.device p.1.0 p.1.1

pub peers-more : (place : ℕ) (m : Peers) (ps : List OfPeer) (i : ℕ) (p : OfPeer) → i < length ps → p ≡ get_or ps i p
    → keep m (flat_map (of_peer place) (take (i + 1) ps)) ≡ keep (keep m (flat_map (of_peer place) (take i ps))) (of_peer place p)
peers-more place m ps i p lt is =
    ap (λ qs. keep m (flat_map (of_peer place) qs)) (take_more ps i p lt ∙ ap (λ (q : OfPeer). take i ps ++ q ∷ []) (sym is))
    ∙ ap (keep m) (flat_map-append (of_peer place) (take i ps) (p ∷ []) ∙ ap (λ es. flat_map (of_peer place) (take i ps) ++ es) (append-nil (of_peer place p)))
    ∙ keep-append m (flat_map (of_peer place) (take i ps)) (of_peer place p)

-- what stands at a place of two lists, and of three
pub pair-at : {A B : Type 0} (xs : List A) (ys : List B) (i : ℕ) (x : A) (y : B) → i < length xs → i < length ys → x ≡ get_or xs i x → y ≡ get_or ys i y → (x, y) ≡ get_or (zip xs ys) i (x, y)
pair-at xs ys i x y lx ly ex ey = (λ j. (ex j, ey j)) ∙ sym (get_or-zip xs ys i (x, y) lx ly)

module _ {A B C : Type 0} (xs : List A) (ys : List B) (zs : List C) where
  pub three-at : (i : ℕ) (x : A) (y : B) (z : C) → i < length xs → i < length ys → i < length zs → x ≡ get_or xs i x → y ≡ get_or ys i y → z ≡ get_or zs i z → (x, (y, z)) ≡ get_or (zip xs (zip ys zs)) i (x, (y, z))
  three-at i x y z lx ly lz ex ey ez =
      let long = length-zip ys zs in
      pair-at xs (zip ys zs) i x (y, z) lx (omega arith) ex (pair-at ys zs i y z ly lz ey ez)

  pub three-long : length (zip xs (zip ys zs)) ≡ min (min (length xs) (length ys)) (length zs)
  three-long = let a = length-zip xs (zip ys zs) in let b = length-zip ys zs in omega arith
