-- A device's identity as Syncthing writes it.
use Rattle.std.specs.Prelude.{ℕ, List, [], ◌∷◌, ◌++◌, map, take, drop}
use Rattle.std.specs.List.{join_with_byte}
use Rattle.sync_names.specs.Base32.{base32_digit}
use Rattle.sync_record.specs.Devices.{Identity}
use Rattle.device_text.specs.Base32.{base32_values}
use Rattle.device_text.specs.Checks.{check_value}

-- 13 values and their check value in characters: seven, a dash (45), and seven
abbrev pub group_text : List ℕ → List ℕ
group_text values = let checked = values ++ check_value values ∷ [] in
    map base32_digit (take 7 checked) ++ 45 ∷ map base32_digit (drop 7 checked)

-- the four groups of the identity's 52 values, with dashes between
abbrev pub device_text : Identity → List ℕ
device_text identity = let values = base32_values identity in
    join_with_byte 45 (map (λ start. group_text (take 13 (drop start values))) (0 ∷ 13 ∷ 26 ∷ 39 ∷ []))
