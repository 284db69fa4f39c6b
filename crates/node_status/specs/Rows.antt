-- What is shown of a status, as rows.
use Rattle.std.specs.Prelude.{ℕ, ◌==◌, ◌||◌, Bool, true, false, is_some, List, [], ◌∷◌, ◌++◌, map, flat_map, codes, string_bytes, Option, Some, None, option_map, if◌then◌else◌}
use Rattle.std.specs.List.{list_any}
use Rattle.node_status.specs.declared.rows.Mark.{Mark}
use Rattle.node_status.specs.declared.rows.Mark.TheVariants.{Title, Heading, Good, Busy, Bad, Note, Trouble}
use Rattle.node_status.specs.declared.rows.Summary.{Summary}
use Rattle.node_status.specs.declared.rows.Summary.TheVariants.{Trouble as SomeTrouble, Working, Alone, Partial, Well}
use Rattle.node_status.specs.declared.status.FolderState.{FolderState}
use Rattle.node_status.specs.declared.status.FolderState.TheVariants.{UpToDate, Behind, Failing, Scanning, Pulling, NoRoom, Away, InUse, Held}
use Rattle.node_status.specs.declared.status.FolderStatus.{FolderStatus}
use Rattle.node_status.specs.declared.status.Noted.{Noted}
use Rattle.node_status.specs.declared.status.PeerStatus.{PeerStatus}
use Rattle.node_status.specs.declared.status.Progress.{Progress}
use Rattle.node_status.specs.declared.status.Status.{Status}
use Rattle.node_status.specs.Numbers.{bytes_text, number_text}
use Rattle.node_status.specs.Times.{moment_text}
use Rattle.node_status.specs.Words.{folder_text, holdings_text, noted_text, origin_text, past_text, peer_text, short_text}

-- what a row is, its name, what is said of that, and how far it is
pub record ShownRow : Type 0 where
  pub mark : Mark
  pub name : List ℕ
  pub words : List ℕ
  pub progress : Option Progress

-- a row of words alone
abbrev pub words_row : Mark → List ℕ → ShownRow
words_row mark words = record { mark = mark; name = []; words = words; progress = None }

-- a heading
abbrev pub heading : List ℕ → ShownRow
heading name = record { mark = Heading; name = name; words = []; progress = None }

-- a name, or where it is empty the identity of the device
abbrev pub name_or_short : List ℕ → List ℕ → List ℕ
name_or_short [] device = short_text device
name_or_short (b ∷ bs) device = b ∷ bs

-- a name, if it is there
abbrev pub name_of : Option (List ℕ) → List ℕ
name_of None = []
name_of (Some name) = name

abbrev pub folder_mark : FolderState → Mark
folder_mark UpToDate = Good
folder_mark Behind = Busy
folder_mark Failing = Bad
folder_mark Scanning = Busy
folder_mark Pulling = Busy
folder_mark NoRoom = Bad
folder_mark Away = Bad
folder_mark InUse = Bad
folder_mark Held = Bad

abbrev pub is_bad_mark : Mark → Bool
is_bad_mark Bad = true
is_bad_mark _ = false

abbrev pub is_busy_mark : Mark → Bool
is_busy_mark Busy = true
is_busy_mark _ = false

abbrev pub is_bad : FolderStatus → Bool
is_bad f = is_bad_mark (folder_mark f.state)

abbrev pub is_busy : FolderStatus → Bool
is_busy f = is_busy_mark (folder_mark f.state)

abbrev pub is_there : PeerStatus → Bool
is_there p = p.is_up

-- names of a folder are left out
abbrev pub has_any : List Noted → Bool
has_any [] = false
has_any (n ∷ ns) = true

abbrev pub leaves_out : FolderStatus → Bool
leaves_out f = has_any f.left_out.items

-- how all is: something can't go on by itself, or is under way, or no peer is there to say what is new, or all is well, but for what is left out
abbrev pub summary_of : Status → Summary
summary_of s =
    if is_some s.not_written || list_any is_bad s.folders.items then SomeTrouble
    else if list_any is_busy s.folders.items then Working
    else if list_any is_there s.peers.items then (if list_any leaves_out s.folders.items then Partial else Well)
    else Alone

abbrev pub summary_mark : Summary → Mark
summary_mark SomeTrouble = Bad
summary_mark Working = Busy
summary_mark Alone = Busy
summary_mark Partial = Good
summary_mark Well = Good

abbrev pub summary_text : Summary → List ℕ
summary_text SomeTrouble = codes "something needs you: see below"
summary_text Working = codes "under way"
summary_text Alone = codes "as far as is known: no peer is connected"
summary_text Partial = codes "all is well, but for the names that are left out below"
summary_text Well = codes "all is well"

abbrev pub summary_row : List ℕ → Summary → ShownRow
summary_row name summary = record { mark = summary_mark summary; name = name; words = summary_text summary; progress = None }

-- names that are told, after words, and how many more there are
abbrev pub noted_rows : Mark → List ℕ → ℕ → List Noted → List ShownRow
noted_rows mark words made noted = map (λ n. words_row mark (noted_text words made n)) noted

abbrev pub more_rows : Mark → ℕ → List ℕ → List ShownRow
more_rows mark n words = if n == 0 then [] else words_row mark (number_text n ++ words) ∷ []

abbrev pub folder_row : FolderStatus → ShownRow
folder_row f = record { mark = folder_mark f.state; name = string_bytes f.id; words = folder_text f; progress = f.progress }

abbrev pub folder_rows : ℕ → FolderStatus → List ShownRow
folder_rows made f =
    (folder_row f ∷ words_row Note (holdings_text f) ∷ words_row Note (past_text made f) ∷ [])
    ++ noted_rows Trouble (codes "failed: ") made f.failed.items ++ more_rows Trouble f.failed_more (codes " more failed")
    ++ noted_rows Note (codes "left out: ") made f.left_out.items ++ more_rows Note f.left_out_more (codes " more left out")
    ++ noted_rows Note (codes "conflict copy: ") made f.conflicts.items

abbrev pub peer_row : ℕ → PeerStatus → ShownRow
peer_row made p = record {
  mark = if p.is_up then Good else Busy;
  name = name_or_short (name_of (option_map string_bytes p.name)) (string_bytes p.device);
  words = peer_text made p;
  progress = None;
}

abbrev pub peer_rows : ℕ → PeerStatus → List ShownRow
peer_rows made p = peer_row made p ∷ words_row Note (origin_text p) ∷ []

-- why the state can't be written, if it can't
abbrev pub state_rows : Option (List ℕ) → List ShownRow
state_rows None = []
state_rows (Some why) =
    words_row Trouble (codes "the state can't be written: " ++ why) ∷ words_row Trouble (codes "until it can be, nothing is put in place, and peers are told nothing") ∷ []

-- the name of a device, and a moment
abbrev pub title_of : List ℕ → List ℕ → ℕ → ShownRow
title_of name device when = record {
  mark = Title;
  name = name_or_short name device;
  words = moment_text when ++ codes " UTC";
  progress = None;
}

-- whose status it is, and of when
abbrev pub title_row : Status → ShownRow
title_row s = title_of (string_bytes s.name) (string_bytes s.device) s.made

-- what is said once no run is there any more
abbrev pub ended_text : List ℕ
ended_text = codes "this run has ended: nothing is kept alike until the next one begins"

abbrev pub ended_row : List ℕ → ShownRow
ended_row name = record { mark = Bad; name = name; words = ended_text; progress = None }

-- all of a run that has ended
abbrev pub ended_rows : List ℕ → List ℕ → ℕ → List ShownRow
ended_rows name device when = title_of name device when ∷ ended_row (codes "In short") ∷ []

-- how much memory the program holds, if that is known
abbrev pub memory_rows : Option ℕ → List ShownRow
memory_rows None = []
memory_rows (Some bytes) = words_row Note (codes "memory " ++ bytes_text bytes) ∷ []

-- the same, and by which program
abbrev pub node_rows : Status → List ShownRow
node_rows s =
    title_row s
    ∷ words_row Note (codes "bepd v" ++ string_bytes s.version)
    ∷ words_row Note (codes "device " ++ string_bytes s.device)
    ∷ memory_rows s.memory

-- all of a status
abbrev pub status_rows : Status → List ShownRow
status_rows s =
    node_rows s ++ (summary_row (codes "In short") (summary_of s) ∷ state_rows (option_map string_bytes s.not_written))
    ++ (heading (codes "Folders") ∷ flat_map (folder_rows s.made) s.folders.items)
    ++ (heading (codes "Peers") ∷ flat_map (peer_rows s.made) s.peers.items)
