-- The permission bits of a folder's new files.
use Rattle.std.specs.Prelude.{ℕ, ◌+◌, ◌-◌, ◌*◌, ◌≤◌, ◌<◌, Bool, ◌&&◌, List, [], ◌∷◌, nat_le, if◌then◌else◌, Option, Some, None, Result, Ok}
use Rattle.std.specs.Option.{ok_or}
use Rattle.toml.specs.Data.{Data, Members, get_member, as_str}
use Rattle.node_config.specs.Keys.{key_name}
use Rattle.node_config.specs.Values.{◌>>=◌}
use Rattle.node_config.specs.declared.fault.ConfigFault.{ConfigFault}
use Rattle.node_config.specs.declared.fault.ConfigFault.TheVariants.{BadKey}
use Rattle.node_config.specs.declared.key.Key.TheVariants.{Mode}
use Rattle.node_config.specs.declared.key.TablePlace.{TablePlace}
use Rattle.node_config.specs.declared.key.Problem.TheVariants.{NotMode}

-- the byte is a digit from this one up to 7
abbrev pub is_octal_from : ℕ → ℕ → Bool
is_octal_from least byte = nat_le least byte && nat_le byte 55

-- the number that three octal digits write, of which the first, the owner's, is 6 or 7
abbrev pub mode_of : List ℕ → Option ℕ
mode_of (owner ∷ group ∷ others ∷ []) =
    if is_octal_from 54 owner && (is_octal_from 48 group && is_octal_from 48 others)
    then Some ((owner - 48) * 64 + ((group - 48) * 8 + (others - 48)))
    else None
mode_of _ = None

-- the number of a text that may be absent
abbrev pub mode_of_text : Option (List ℕ) → Option ℕ
mode_of_text None = None
mode_of_text (Some text) = mode_of text

-- the mode that is the value of its key, or none where there is none
abbrev pub mode_or_none : TablePlace → Option Data → Result (Option ℕ) ConfigFault
mode_or_none place None = Ok None
mode_or_none place (Some value) = ok_or (mode_of_text (as_str value)) (BadKey place Mode NotMode) >>= λ mode. Ok (Some mode)

abbrev pub mode_at : Members → TablePlace → Result (Option ℕ) ConfigFault
mode_at table place = mode_or_none place (get_member (key_name Mode) table)

-- the owner may read and write, and there are no other bits than those of permissions
abbrev pub IsMode : ℕ → Type 0
IsMode mode = (384 ≤ mode) × (mode < 512)
