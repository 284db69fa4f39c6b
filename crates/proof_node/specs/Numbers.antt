-- Where a run has the numbers of its peers' indexes.
use Rattle.std.specs.Prelude.{◌≡◌, ◌≢◌, ℕ, List, Some, slice_get}
use Rattle.node_config.specs.declared.config.PeerConfig.{PeerConfig}
use Rattle.node_resume.specs.declared.shares.Share.{Share}
use Rattle.sync_record.specs.Devices.{Identity}

-- The peer with number i is the device, its share with number j is of the folder at the place, and the number that belongs to that share
-- is n, and not 0.
pub record IsNumberAt (place : ℕ) (peers : List PeerConfig) (shares : List (List Share)) (kept : List (List ℕ)) (device : Identity) (i j n : ℕ) : Type 0 where
  pub peer : (p : PeerConfig) × (slice_get peers i ≡ Some p) × (p.device ≡ device)
  pub share : (ss : List Share) × (s : Share) × (slice_get shares i ≡ Some ss) × (slice_get ss j ≡ Some s) × (s.folder ≡ place)
  pub number : (ns : List ℕ) × (slice_get kept i ≡ Some ns) × (slice_get ns j ≡ Some n)
  pub some : n ≢ 0
