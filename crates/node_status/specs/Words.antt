-- What is said of folders and peers, in words.
use Rattle.std.specs.Prelude.{ℕ, ◌==◌, ◌&&◌, ◌||◌, nat_lt, Bool, true, false, List, [], ◌∷◌, ◌++◌, map, take, codes, string_bytes, Option, Some, None, option_map, if◌then◌else◌}
use Rattle.node_status.specs.declared.status.FolderState.{FolderState}
use Rattle.node_status.specs.declared.status.FolderState.TheVariants.{UpToDate, Behind, Failing, Scanning, Pulling, NoRoom, Away, InUse, Held}
use Rattle.node_status.specs.declared.status.FolderStatus.{FolderStatus}
use Rattle.node_status.specs.declared.status.Noted.{Noted}
use Rattle.node_status.specs.declared.status.PeerStatus.{PeerStatus}
use Rattle.node_status.specs.declared.status.Progress.{Progress}
use Rattle.node_status.specs.Numbers.{bytes_text, count_text, part_text, progress_text}
use Rattle.node_status.specs.Times.{time_text}

-- something that may not be there, after other words
abbrev pub after : List ℕ → Option (List ℕ) → List ℕ
after words None = []
after words (Some text) = words ++ text

-- a byte that is no ASCII as `?` (63)
abbrev pub digit_or_mark : ℕ → ℕ
digit_or_mark b = if nat_lt b 128 then b else 63

-- the first seven digits of an identity
abbrev pub short_text : List ℕ → List ℕ
short_text device = map digit_or_mark (take 7 device)

abbrev pub state_text : FolderState → List ℕ
state_text UpToDate = codes "up to date"
state_text Behind = codes "behind"
state_text Failing = codes "behind: names that can't be pulled stand below"
state_text Scanning = codes "scanning"
state_text Pulling = codes "pulling"
state_text NoRoom = codes "stopped: the disk is full"
state_text Away = codes "away: the directory isn't there, has no .stfolder, or is another one"
state_text InUse = codes "stopped: another run has it"
state_text Held = codes "held: recorded names are missing; `scan` says that they are gone, and all devices delete them"

abbrev pub is_pulling : FolderState → Bool
is_pulling Pulling = true
is_pulling _ = false

-- names that are needed, if there are any; of a pull its progress says so
abbrev pub needed_text : FolderState → ℕ → List ℕ
needed_text state n = if n == 0 || is_pulling state then [] else codes ", " ++ count_text n (codes "name") (codes "names") ++ codes " needed"

-- bytes that came, and how many of them in a second
abbrev pub came_text : ℕ → ℕ → List ℕ
came_text received rate = codes ", " ++ bytes_text received ++ codes " came, " ++ bytes_text rate ++ codes " a second"

-- the bytes that came for a folder, while it pulls, if any came
abbrev pub received_text : FolderStatus → List ℕ
received_text f = if is_pulling f.state && nat_lt 0 f.received then came_text f.received f.rate else []

-- how a folder is
unfoldable pub folder_text : FolderStatus → List ℕ
folder_text f =
    state_text f.state ++ after (codes " ") (option_map progress_text f.progress) ++ needed_text f.state f.needed ++ received_text f

-- what a folder has is only known from its records, while it isn't there
abbrev pub recorded_text : FolderState → List ℕ
recorded_text Away = codes "recorded: "
recorded_text InUse = codes "recorded: "
recorded_text Held = codes "recorded: "
recorded_text _ = []

-- what a folder has
abbrev pub holdings_text : FolderStatus → List ℕ
holdings_text f =
    recorded_text f.state ++ count_text f.files (codes "file") (codes "files") ++ codes ", "
    ++ count_text f.directories (codes "directory") (codes "directories") ++ codes " in " ++ string_bytes f.path

abbrev pub scanned_text : ℕ → Option ℕ → List ℕ
scanned_text made None = codes "not scanned in this run"
scanned_text made (Some when) = codes "scanned " ++ time_text made when

abbrev pub looked_text : ℕ → Option ℕ → List ℕ
looked_text made None = []
looked_text made (Some when) = codes "; looked " ++ time_text made when

abbrev pub times_text : ℕ → FolderStatus → List ℕ
times_text made f = scanned_text made f.scanned ++ looked_text made f.looked

abbrev pub history_text : Progress → List ℕ
history_text p = codes "; history " ++ part_text p ++ codes " changes"

-- when a folder was scanned and looked at, and its history
unfoldable pub past_text : ℕ → FolderStatus → List ℕ
past_text made f = times_text made f ++ history_text f.history

-- why, if there is more to say
abbrev pub why_text : List ℕ → List ℕ
why_text [] = []
why_text (b ∷ bs) = codes ": " ++ (b ∷ bs)

-- a time, if it is known
abbrev pub bracketed : ℕ → ℕ → List ℕ
bracketed made when = codes " (" ++ time_text made when ++ codes ")"

abbrev pub in_brackets : ℕ → Option ℕ → List ℕ
in_brackets made None = []
in_brackets made (Some when) = bracketed made when

-- a name that is told, after words
abbrev pub noted_text : List ℕ → ℕ → Noted → List ℕ
noted_text words made n =
    words ++ string_bytes n.name ++ why_text (string_bytes n.why) ++ in_brackets made n.when

-- how a peer is
abbrev pub peer_text : ℕ → PeerStatus → List ℕ
peer_text made p =
    (if p.is_up then codes "connected" else codes "not connected") ++ after (codes " since ") (option_map (time_text made) p.since)
    ++ after (codes ": ") (option_map string_bytes p.why)

-- who a peer is
abbrev pub origin_text : PeerStatus → List ℕ
origin_text p =
    codes "device " ++ short_text (string_bytes p.device)
    ++ after (if p.is_up then codes ", from " else codes ", last from ") (option_map string_bytes p.from)
    ++ after (codes ", ") (option_map string_bytes p.program)
