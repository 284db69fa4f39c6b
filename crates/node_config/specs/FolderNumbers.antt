-- The numbers of a folder.
use Rattle.std.specs.Prelude.{ℕ, ℤ, pos, negsuc, ◌≤ℤ◌, List, bytes_eq, codes, if◌then◌else◌, Option, Some, None}
use Rattle.std.specs.Ordering.{int_eq}
use Rattle.node_config.specs.declared.config.FolderConfig.{FolderConfig}
use Rattle.node_config.specs.declared.folder_numbers.FolderNumber.{FolderNumber}
use Rattle.node_config.specs.declared.folder_numbers.FolderNumber.TheVariants.{HistoryLimit, MaxConflicts, Rescan, Look, TrashDays}
use Rattle.node_config.specs.declared.folder_numbers.NumberRange.{NumberRange}
use Rattle.node_config.specs.declared.key.Key.{Key}
use Rattle.node_config.specs.declared.key.Key.TheVariants as key
use Rattle.node_config.specs.declared.key.Problem.{Problem}
use Rattle.node_config.specs.declared.key.Problem.TheVariants.{NotInteger, NotLook}

-- the key under which a document has it
abbrev pub key_of : FolderNumber → Key
key_of HistoryLimit = key.HistoryLimit
key_of MaxConflicts = key.MaxConflicts
key_of Rescan = key.Rescan
key_of Look = key.Look
key_of TrashDays = key.TrashDays

-- which values it may have, and the one where a document has none
abbrev pub range_of : FolderNumber → NumberRange
range_of HistoryLimit = record { low = pos 1; high = pos 100000000; default = pos 1000000 }
range_of MaxConflicts = record { low = negsuc 0; high = pos 1000; default = negsuc 0 }
range_of Rescan = record { low = pos 0; high = pos 31536000; default = pos 86400 }
range_of Look = record { low = negsuc 0; high = pos 86400; default = negsuc 0 }
range_of TrashDays = record { low = pos 0; high = pos 36500; default = pos 0 }

-- the value is one of these
abbrev pub IsIn : NumberRange → ℤ → Type 0
IsIn range n = (range.low ≤ℤ n) × (n ≤ℤ range.high)

-- what it is of a folder
abbrev pub number_in : FolderNumber → FolderConfig → ℤ
number_in HistoryLimit folder = pos folder.history_limit
number_in MaxConflicts folder = folder.max_conflicts
number_in Rescan folder = pos folder.rescan
number_in Look folder = folder.look
number_in TrashDays folder = pos folder.trash_days

-- the value for which a word stands
abbrev pub word_of : FolderNumber → List ℕ → Option ℤ
word_of HistoryLimit word = None
word_of MaxConflicts word = None
word_of Rescan word = None
word_of Look word =
    if bytes_eq word (codes "auto") then Some (negsuc 0)
    else if bytes_eq word (codes "off") then Some (pos 0)
    else None
word_of TrashDays word = None

-- the word that stands for a value
abbrev pub word_for : FolderNumber → ℤ → Option (List ℕ)
word_for HistoryLimit n = None
word_for MaxConflicts n = None
word_for Rescan n = None
word_for Look n =
    if int_eq n (negsuc 0) then Some (codes "auto")
    else if int_eq n (pos 0) then Some (codes "off")
    else None
word_for TrashDays n = None

-- what is wrong with what is no word of it, and no integer
abbrev pub no_number : FolderNumber → Problem
no_number HistoryLimit = NotInteger
no_number MaxConflicts = NotInteger
no_number Rescan = NotInteger
no_number Look = NotLook
no_number TrashDays = NotInteger
