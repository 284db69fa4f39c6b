-- The names that a folder makes itself: those of temporary files, of files that are just replaced or removed, and of conflict copies (own rule).
use Rattle.std.specs.Prelude.{◌≡◌, ℕ, List, ◌++◌, codes}
use Rattle.sync_names.specs.Base32.{short_base32}
use Rattle.sync_names.specs.Components.{last_component, with_last_component}
use Rattle.sync_names.specs.Extension.{stem_of, extension_of}
use Rattle.sync_names.specs.Safe.{IsSafe}
use Rattle.sync_names.specs.Utc.{utc_time, date_digits, time_digits}

-- in the same folder, `.syncthing.`, the last component and `.tmp`
abbrev pub temp_text : List ℕ → List ℕ
temp_text name = with_last_component name (codes ".syncthing." ++ last_component name ++ codes ".tmp")

-- the text is the temporary name of a safe name
abbrev pub IsTempText : List ℕ → Type 0
IsTempText text = (name : List ℕ) × IsSafe name × (text ≡ temp_text name)

-- where a file is kept while it is replaced or removed: the temporary name of its temporary name
abbrev pub replaced_text : List ℕ → List ℕ
replaced_text name = temp_text (temp_text name)

-- the text is such a name of a safe name
abbrev pub IsReplacedText : List ℕ → Type 0
IsReplacedText text = (name : List ℕ) × IsSafe name × (text ≡ replaced_text name)

-- the component is the last one of such a name, whose own last component is that
abbrev pub IsReplaced : List ℕ → List ℕ → Type 0
IsReplaced component last = component ≡ codes ".syncthing..syncthing." ++ last ++ codes ".tmp.tmp"

-- the part between the stem and the extension of a conflict copy's name
abbrev pub conflict_mark : ℕ → ℕ → List ℕ
conflict_mark moment modified_by =
    codes ".sync-conflict-" ++ date_digits (utc_time moment) ++ codes "-" ++ time_digits (utc_time moment) ++ codes "-" ++ short_base32 modified_by

-- in the same folder, the last component with the mark before its extension
abbrev pub conflict_text : List ℕ → ℕ → ℕ → List ℕ
conflict_text name moment modified_by =
    with_last_component name
    (stem_of (last_component name) ++ conflict_mark moment modified_by ++ extension_of (last_component name))
