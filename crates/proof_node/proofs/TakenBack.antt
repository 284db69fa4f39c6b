-- What is left, and taken over.
use Rattle.std.proofs.Common.{◌≡◌, ◌≢◌, ◌∙◌, ℕ, ◌<◌, true, false, List, length, map, refl, sym, ap, arith}
use Rattle.std.specs.Prelude.{◌==◌, Contains, Option, None, Some, slice_get, unwrap_or}
use Rattle.std.specs.FinMap.{get}
use Rattle.std.proofs.lemmas.Bool.{eqb-true, eq-eqb, true≢false}
use Rattle.std.proofs.lemmas.List.{length-map}
use Rattle.folder_core.specs.States.{FolderState}
use Rattle.node_config.specs.declared.config.Config.{Config}
use Rattle.node_config.specs.declared.config.FolderConfig.{FolderConfig}
use Rattle.node_config.specs.declared.config.PeerConfig.{PeerConfig}
use Rattle.node_resume.specs.Left.{folders_left, peers_left}
use Rattle.node_resume.specs.Resumed.{Resumed, resumed_all, resumed_from}
use Rattle.node_resume.specs.Shares.{firsts, share_of, shares_of}
use Rattle.node_resume.specs.declared.shares.Share.{Share}
use Rattle.node_state.specs.declared.state.State.{State}
use Rattle.node_state.specs.declared.state.StoredFolder.{StoredFolder}
use Rattle.proof_node.specs.Numbers.{IsNumberAt}
use Rattle.proof_node.specs.Takeovers.{HaveOwnDevices, HaveOwnIds, IsStoredUnder, IsTakenOver}
use Rattle.proof_node.proofs.FirstPlaces.{firsts-first, there-contains}
use Rattle.proof_node.proofs.LastNumbers.{last-number, no-number}
use Rattle.proof_node.proofs.LeftPlaces.{left-at, left-id, stored}
use Rattle.proof_node.proofs.Places.{below-there, both-at, map-at, of-map, pair-at, same-list, there-below}
use Rattle.proof_node.proofs.SharePlaces.{number-in, share-at, share-in-order}
use Rattle.proof_node.proofs.TakenOver.{came-stored, counted, stored-under}

between : (m n : ℕ) → (m < n → ⊥) → (n < m → ⊥) → m ≡ n
between m n below above = omega arith

index-of : (r q : Resumed) → r ≡ q → r.index_id ≡ q.index_id
index-of r q e = ap (λ (x : Resumed). x.index_id) e

module _ (config : Config) (ids : List ℕ) (shares : List (List Share)) (records : List FolderState) (kept : List (List ℕ))
    (li : length ids ≡ length config.folders) (lr : length records ≡ length config.folders) (own : HaveOwnIds config.folders) where
  abbrev left : State
  left = record { folders = folders_left config ids shares records kept }

  abbrev at-place : ℕ → FolderConfig → ℕ → FolderState → StoredFolder
  at-place place c n s = stored config ids shares records kept li lr place c n s

  -- under each id stands the folder of its place
  pub left-under : (place : ℕ) (c : FolderConfig) (n : ℕ) (s : FolderState) → slice_get config.folders place ≡ Some c → slice_get ids place ≡ Some n → slice_get records place ≡ Some s
      → IsStoredUnder c.id left.folders (at-place place c n s)
  left-under place c n s ec en es = (
    place,
    record {
      at = left-at config ids shares records kept li lr place c n s ec en es;
      is = refl;
      first = λ i f lt at same.
          let d = left-id config ids shares records kept li lr i f at in
          pair-at (λ (f g : FolderConfig). f.id ≢ g.id) config.folders own i place d.0 c lt d.1 ec (sym d.2 ∙ same);
    },
  )

  module _ (new place : ℕ) (s : FolderState) (r : Resumed) (es : slice_get records place ≡ Some s) (er : slice_get (resumed_all config left new false) place ≡ Some r) where
    -- the folder of the configuration there, and its number
    pub back : (c : FolderConfig) × (n : ℕ) × (slice_get ids place ≡ Some n) × (r ≡ resumed_from config new false place (Some (at-place place c n s)))
    back =
        let lt = there-below records place s es in
        let c = below-there config.folders place (omega arith) in
        let n = below-there ids place (omega arith) in
        let is : IsTakenOver config left new false place c.0 r = record { configured = c.1; taken = er } in
        (c.0, n.0, n.1, came-stored config left new false place c.0 r is (at-place place c.0 n.0 s) (left-under place c.0 n.0 s c.1 n.1 es))

  pub numbers-back : (new : ℕ) → map (λ r. r.index_id) (resumed_all config left new false) ≡ ids
  numbers-back new =
      let all = resumed_all config left new false in
      let count : length all ≡ length config.folders = counted config left new false in
      same-list (map (λ (r : Resumed). r.index_id) all) ids (length-map all (λ (r : Resumed). r.index_id) ∙ count ∙ sym li)
      (λ i x y ex ey.
      let r = of-map (λ (r : Resumed). r.index_id) all i x ex in
      let lt = there-below ids i y ey in
      let s = below-there records i (omega arith) in
      let b = back new i s.0 r.0 s.1 r.1 in
      let number = index-of r.0 (resumed_from config new false i (Some (at-place i b.0 b.1 s.0))) b.3 in
      sym r.2 ∙ number ∙ both-at _ b.1 y b.2 ey)

  -- ---- the numbers that are kept of a peer

  module _ (devices : HaveOwnDevices config.peers) (old : State) (i : ℕ) (peer : PeerConfig) (numbers : List ℕ) (at : slice_get config.peers i ≡ Some peer)
      (inside : (place : ℕ) → Contains peer.folders place → place < length config.folders) (es : slice_get shares i ≡ Some (shares_of config old peer))
      (ek : slice_get kept i ≡ Some numbers) (long : length numbers ≡ length (shares_of config old peer)) where
    -- a peer of this device is the one at i
    only-peer : (k : ℕ) (p : PeerConfig) → slice_get config.peers k ≡ Some p → p.device ≡ peer.device → k ≡ i
    only-peer k p e same =
        let not_before : k < i → ⊥ = λ lt. pair-at (λ (a b : PeerConfig). a.device ≢ b.device) config.peers devices k i p peer lt e at same in
        let not_after : i < k → ⊥ = λ lt. pair-at (λ (a b : PeerConfig). a.device ≢ b.device) config.peers devices i k peer p lt at e (sym same) in
        between k i not_before not_after

    -- and of its shares one is of the folder
    only-share : (l j : ℕ) (t s : Share) → slice_get (shares_of config old peer) l ≡ Some t → slice_get (shares_of config old peer) j ≡ Some s → t.folder ≡ s.folder → l ≡ j
    only-share l j t s et es same = between l j (unlike l j t s et es same) (unlike j l s t es et (sym same))
      where
        unlike : (l j : ℕ) (t s : Share) → slice_get (shares_of config old peer) l ≡ Some t → slice_get (shares_of config old peer) j ≡ Some s → t.folder ≡ s.folder → l < j → ⊥
        unlike l j t s et es same lt =
            let o = share-in-order config old peer l j t s lt et es in
            o.3.first o.0 t.folder o.4 o.2.at same

    module _ (j : ℕ) (s : Share) (n : ℕ) (e : slice_get (shares_of config old peer) j ≡ Some s) (f : slice_get numbers j ≡ Some n) where
      it-is : n ≢ 0 → IsNumberAt s.folder config.peers shares kept peer.device i j n
      it-is some = record { peer = (peer, at, refl); share = (shares_of config old peer, s, es, e, refl); number = (numbers, ek, f); some = some }

      it-only : (k l m : ℕ) → IsNumberAt s.folder config.peers shares kept peer.device k l m → m ≡ n
      it-only k l m h =
          let first : k ≡ i = only-peer k h.peer.0 h.peer.1 h.peer.2 in
          let ss : h.share.0 ≡ shares_of config old peer = both-at _ h.share.0 _ h.share.2 (ap (λ x. slice_get shares x) first ∙ es) in
          let ns : h.number.0 ≡ numbers = both-at _ h.number.0 _ h.number.1 (ap (λ x. slice_get kept x) first ∙ ek) in
          let second : l ≡ j = only-share l j h.share.1 s (ap (λ (xs : List Share). slice_get xs l) (sym ss) ∙ h.share.3) e h.share.4 in
          both-at _ m n h.number.2 ((λ x. slice_get (ns x) (second x)) ∙ f)

      told : (o : Option ℕ) → get (peers_left s.folder config.peers shares kept) peer.device ≡ o → unwrap_or o 0 ≡ n
      told None g =
          let none = no-number s.folder peer.device config.peers shares kept g in
          elim (n == 0) as (λ b. (n == 0) ≡ b → 0 ≡ n) [
            | true ↦ λ t. sym (eqb-true n 0 t)
            | false ↦ λ t. absurd (none i j n (it-is (λ z. true≢false (sym (eq-eqb n 0 z) ∙ t))))
          ] refl
      told (Some m) g =
          let r = last-number s.folder peer.device config.peers shares kept m g in
          it-only r.0 r.1 m r.2

      kept-again : unwrap_or (get (peers_left s.folder config.peers shares kept) peer.device) 0 ≡ n
      kept-again = told _ refl

    pub kept-back : map (λ s. s.kept_index_id) (shares_of config left peer) ≡ numbers
    kept-back =
        let count : length (shares_of config left peer) ≡ length (shares_of config old peer) =
        length-map (firsts peer.folders) (share_of config left peer.device) ∙ sym (length-map (firsts peer.folders) (share_of config old peer.device)) in
        same-list (map (λ (s : Share). s.kept_index_id) (shares_of config left peer)) numbers
        (length-map (shares_of config left peer) (λ (s : Share). s.kept_index_id) ∙ count ∙ sym long)
        (λ j x y ex ey.
        let s = of-map (λ (s : Share). s.kept_index_id) (shares_of config left peer) j x ex in
        let place : ℕ = s.0.folder in
        let listed = (share-at config left peer j s.0 s.1).0 in
        let first = firsts-first peer.folders j place listed in
        let lt : place < length config.folders = inside place (there-contains peer.folders first.0 place first.1.at) in
        let c = below-there config.folders place lt in
        let n = below-there ids place (omega arith) in
        let r = below-there records place (omega arith) in
        let f = at-place place c.0 n.0 r.0 in
        let told : s.0.kept_index_id ≡ unwrap_or (get (peers_left place config.peers shares kept) peer.device) 0 =
        number-in config left peer j s.0 s.1 c.0 (Some f) c.1 (stored-under c.0.id left.folders f (left-under place c.0 n.0 r.0 c.1 n.1 r.1)) in
        sym s.2 ∙ told ∙ kept-again j (share_of config old peer.device place) y (map-at (share_of config old peer.device) (firsts peer.folders) j place listed) ey)
