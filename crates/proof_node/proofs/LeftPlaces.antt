-- What a run leaves, by places.
use Rattle.std.proofs.Common.{◌≡◌, ◌∙◌, ℕ, List, length, sym, ap, arith}
use Rattle.std.specs.Prelude.{Some, slice_get}
use Rattle.std.specs.List.{enumerate_from, zip}
use Rattle.std.proofs.lemmas.List.{length-map}
use Rattle.std.proofs.lemmas.List.FromFn.{length-enumerate_from}
use Rattle.std.proofs.lemmas.Slice.Zip.{length-zip}
use Rattle.folder_core.specs.States.{FolderState}
use Rattle.node_config.specs.declared.config.Config.{Config}
use Rattle.node_config.specs.declared.config.FolderConfig.{FolderConfig}
use Rattle.node_resume.specs.Left.{folders_left, peers_left, stored_at}
use Rattle.node_resume.specs.declared.shares.Share.{Share}
use Rattle.node_state.specs.declared.state.StoredFolder.{StoredFolder}
use Rattle.proof_node.proofs.Places.{below-there, both-at, map-at, of-map, of-place, place-at, there-below, zip-at}

pub long : (config : Config) (ids : List ℕ) (records : List FolderState) → length ids ≡ length config.folders → length records ≡ length config.folders → length (zip ids records) ≡ length config.folders
long config ids records li lr = let l = length-zip ids records in omega arith

module _ (config : Config) (ids : List ℕ) (shares : List (List Share)) (records : List FolderState) (kept : List (List ℕ)) where
  abbrev all : List (ℕ × (FolderConfig × (ℕ × FolderState)))
  all = enumerate_from 0 (zip config.folders (zip ids records))

  -- the numbers in a folder are those of its place
  pub left-peers : (place : ℕ) (f : StoredFolder) → slice_get (folders_left config ids shares records kept) place ≡ Some f → f.peers ≡ peers_left place config.peers shares kept
  left-peers place f e =
      let p = of-map (stored_at config shares kept) all place f e in
      let q = of-place (zip config.folders (zip ids records)) place p.0 p.1 in
      ap (λ (x : StoredFolder). x.peers) (sym p.2) ∙ ap (λ n. peers_left n config.peers shares kept) q.0

  module _ (li : length ids ≡ length config.folders) (lr : length records ≡ length config.folders) where
    pub left-counted : length (folders_left config ids shares records kept) ≡ length config.folders
    left-counted =
        let a = long config ids records li lr in
        let b = length-zip config.folders (zip ids records) in
        let e : length (zip config.folders (zip ids records)) ≡ length config.folders = omega arith in
        length-map all (stored_at config shares kept) ∙ length-enumerate_from 0 (zip config.folders (zip ids records)) ∙ e

    -- the folder at a place
    abbrev pub stored : ℕ → FolderConfig → ℕ → FolderState → StoredFolder
    stored place c n s = record { id = c.id; index_id = n; folder = s; peers = peers_left place config.peers shares kept }

    pub left-at : (place : ℕ) (c : FolderConfig) (n : ℕ) (s : FolderState) → slice_get config.folders place ≡ Some c → slice_get ids place ≡ Some n → slice_get records place ≡ Some s
        → slice_get (folders_left config ids shares records kept) place ≡ Some (stored place c n s)
    left-at place c n s ec en es =
        map-at (stored_at config shares kept) all place (place, (c, (n, s)))
        (place-at (zip config.folders (zip ids records)) place (c, (n, s)) (zip-at config.folders (zip ids records) place c (n, s) ec (zip-at ids records place n s en es)))

    -- and what there is at one, is of the folder there
    pub left-id : (place : ℕ) (f : StoredFolder) → slice_get (folders_left config ids shares records kept) place ≡ Some f
        → (c : FolderConfig) × (slice_get config.folders place ≡ Some c) × (f.id ≡ c.id)
    left-id place f e =
        let count = left-counted in
        let lt = there-below (folders_left config ids shares records kept) place f e in
        let c = below-there config.folders place (omega arith) in
        let n = below-there ids place (omega arith) in
        let s = below-there records place (omega arith) in
        (c.0, c.1, ap (λ (x : StoredFolder). x.id) (both-at _ f (stored place c.0 n.0 s.0) e (left-at place c.0 n.0 s.0 c.1 n.1 s.1)))
