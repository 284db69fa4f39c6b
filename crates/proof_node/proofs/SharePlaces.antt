-- The shares of a peer, by their places.
use Rattle.std.proofs.Common.{◌≡◌, ◌∙◌, ℕ, ◌<◌, map, sym, ap, subst}
use Rattle.std.specs.Prelude.{Contains, Option, None, Some, slice_get}
use Rattle.node_config.specs.declared.config.Config.{Config}
use Rattle.node_config.specs.declared.config.FolderConfig.{FolderConfig}
use Rattle.node_config.specs.declared.config.PeerConfig.{PeerConfig}
use Rattle.node_resume.specs.Resumed.{stored_of}
use Rattle.node_resume.specs.Shares.{firsts, kept_in, kept_of, share_of, shares_of}
use Rattle.node_resume.specs.declared.shares.Share.{Share}
use Rattle.node_state.specs.declared.state.State.{State}
use Rattle.node_state.specs.declared.state.StoredFolder.{StoredFolder}
use Rattle.proof_node.specs.Firsts.{IsFirstPlace}
use Rattle.proof_node.proofs.FirstPlaces.{contains-there, firsts-first, firsts-has, firsts-order, there-contains}
use Rattle.proof_node.proofs.Places.{map-at, of-map}

module _ (config : Config) (state : State) (peer : PeerConfig) where
  abbrev share : ℕ → Share
  share place = share_of config state peer.device place

  abbrev folder : Share → ℕ
  folder s = s.folder

  -- each share is of a place that is listed
  pub share-at : (i : ℕ) (s : Share) → slice_get (shares_of config state peer) i ≡ Some s → (slice_get (firsts peer.folders) i ≡ Some s.folder) × (s ≡ share s.folder)
  share-at i s e =
      let p = of-map share (firsts peer.folders) i s e in
      let same : p.0 ≡ s.folder = ap folder p.2 in
      (p.1 ∙ ap Some same, sym p.2 ∙ ap share same)

  pub share-in-order : (i j : ℕ) (s t : Share) → i < j → slice_get (shares_of config state peer) i ≡ Some s → slice_get (shares_of config state peer) j ≡ Some t
      → (k : ℕ) × (l : ℕ) × IsFirstPlace peer.folders k s.folder × IsFirstPlace peer.folders l t.folder × (k < l)
  share-in-order i j s t lt e f = firsts-order peer.folders i j s.folder t.folder lt (share-at i s e).0 (share-at j t f).0

  pub share-listed : (place : ℕ) → Contains (map folder (shares_of config state peer)) place → Contains peer.folders place
  share-listed place c =
      let k = contains-there (map folder (shares_of config state peer)) place c in
      let s = of-map folder (shares_of config state peer) k.0 place k.1 in
      let f = firsts-first peer.folders k.0 s.0.folder (share-at k.0 s.0 s.1).0 in
      subst (λ n. Contains peer.folders n) s.2 (there-contains peer.folders f.0 s.0.folder f.1.at)

  pub listed-share : (place : ℕ) → Contains peer.folders place → Contains (map folder (shares_of config state peer)) place
  listed-share place c =
      let k = contains-there peer.folders place c in
      let f = firsts-has peer.folders k.0 place k.1 in
      there-contains (map folder (shares_of config state peer)) f.0 place
      (map-at folder (shares_of config state peer) f.0 (share place) (map-at share (firsts peer.folders) f.0 place f.1))

  module _ (i : ℕ) (s : Share) (e : slice_get (shares_of config state peer) i ≡ Some s) where
    number : s.kept_index_id ≡ kept_of state peer.device (slice_get config.folders s.folder)
    number = ap (λ (t : Share). t.kept_index_id) (share-at i s e).1

    pub number-nowhere : slice_get config.folders s.folder ≡ None → s.kept_index_id ≡ 0
    number-nowhere f = number ∙ ap (kept_of state peer.device) f

    pub number-in : (c : FolderConfig) (o : Option StoredFolder) → slice_get config.folders s.folder ≡ Some c → stored_of c.id state.folders ≡ o → s.kept_index_id ≡ kept_in peer.device o
    number-in c o f g = number ∙ ap (kept_of state peer.device) f ∙ ap (kept_in peer.device) g
