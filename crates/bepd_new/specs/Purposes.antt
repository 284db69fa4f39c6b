-- What the words of `bepd new` ask for (own rule).
use Rattle.std.specs.Prelude.{◌≡◌, ◌≢◌, ℕ, ◌<◌, ◌==◌, Bool, true, false, not, ◌&&◌, ◌||◌, nat_eq, nat_lt, List, ◌++◌, length, slice_index, codes, is_some, Option, Some, None}
use Rattle.std.specs.Borrow.{Bor}
use Rattle.std.specs.List.{ends_with, list_any, starts_with}
use Rattle.bepd_new.specs.declared.purpose.NewWords.{NewWords}
use Rattle.bepd_new.specs.declared.purpose.Purpose.{Purpose}
use Rattle.bepd_new.specs.declared.purpose.Purpose.TheVariants.{Template, Syncthing}
use Rattle.bepd_new.specs.declared.purpose.Way.{Way}
use Rattle.bepd_new.specs.declared.purpose.Way.TheVariants.{Dial, Listen}
use Rattle.bepd_new.specs.declared.purpose.WordFault.{WordFault}
use Rattle.bepd_new.specs.declared.purpose.WordFault.TheVariants.{NotForSyncthing, NoWay, BothWays, BadReach, NoFolder, BadFolder}

-- below the blank (32), or rubout (127)
abbrev pub is_control : ℕ → Bool
is_control b = nat_lt b 32 || (b == 127)

abbrev pub is_blank : ℕ → Bool
is_blank b = (b == 32) || is_control b

-- not empty, and without control characters
abbrev pub is_plain : List ℕ → Bool
is_plain text = not (length text == 0) && not (list_any is_control text)

-- something before the last colon (58) and after it, without blanks and control characters
abbrev pub is_reach : List ℕ → Bool
is_reach text = not (list_any is_blank text) && list_any (λ b. nat_eq b 58) text
    && not (starts_with nat_eq text (codes ":")) && not (ends_with nat_eq text (codes ":"))

-- cut at its first sign of equality (61)
abbrev pub IsCut : List ℕ → List ℕ → List ℕ → Type 0
IsCut text id path = (text ≡ id ++ (codes "=" ++ path)) × ((i : ℕ) → i < length id → slice_index id i ≢ 61)

-- an id and a path of a folder
abbrev pub IsFolder : List ℕ → List ℕ → List ℕ → Type 0
IsFolder text id path = IsCut text id path × (is_plain id ≡ true) × (is_plain path ≡ true)

abbrev pub IsWay : Option (Bor (List ℕ)) → Option (Bor (List ℕ)) → Way → Type 0
IsWay dial listen (Dial reach) = (dial ≡ Some reach) × (listen ≡ None) × (is_reach reach.now ≡ true)
IsWay dial listen (Listen reach) = (dial ≡ None) × (listen ≡ Some reach) × (is_reach reach.now ≡ true)

abbrev pub HasWayFault : Option (Bor (List ℕ)) → Option (Bor (List ℕ)) → WordFault → Type 0
HasWayFault None None fault = fault ≡ NoWay
HasWayFault (Some dial) (Some listen) fault = fault ≡ BothWays
HasWayFault (Some dial) None fault = (is_reach dial.now ≡ false) × (fault ≡ BadReach)
HasWayFault None (Some listen) fault = (is_reach listen.now ≡ false) × (fault ≡ BadReach)

-- a way is given, or a folder
abbrev pub is_given : NewWords → Bool
is_given words = is_some words.dial || (is_some words.listen || is_some words.folder)

abbrev pub IsAskedBy : NewWords → Purpose → Type 0
IsAskedBy words Template = (words.is_for_syncthing ≡ false) × (is_given words ≡ false)
IsAskedBy words (Syncthing link) = (words.is_for_syncthing ≡ true) × IsWay words.dial words.listen link.way
    × (folder : Bor (List ℕ)) × (words.folder ≡ Some folder) × IsFolder folder.now link.id.now link.path.now

-- no id and path are in it
abbrev pub IsBadFolder : List ℕ → Type 0
IsBadFolder text = (id path : List ℕ) → ¬ (IsFolder text id path)

abbrev pub HasFault : NewWords → WordFault → Type 0
HasFault words NotForSyncthing = (words.is_for_syncthing ≡ false) × (is_given words ≡ true)
HasFault words NoFolder = (words.is_for_syncthing ≡ true) × (words.folder ≡ None)
HasFault words BadFolder = (words.is_for_syncthing ≡ true) × (folder : Bor (List ℕ)) × (words.folder ≡ Some folder) × IsBadFolder folder.now
HasFault words fault = (words.is_for_syncthing ≡ true) × HasWayFault words.dial words.listen fault
