-- Whether a ClusterConfig is for this device and the peer, and what is told of what came (own rule).
use Rattle.std.specs.Prelude.{ℕ, Bool, bytes_eq, ◌&&◌}
use Rattle.std.specs.List.{list_any}
use Rattle.bep_messages.specs.declared.folder.Folder.{Folder}
use Rattle.sync_record.specs.Devices.{Identity}

-- the folder has the device
abbrev pub has : Identity → Folder → Bool
has device f = list_any (λ d. bytes_eq d.id device) f.devices

abbrev pub has_both : Identity → Identity → Folder → Bool
has_both me peer f = has me f && has peer f
