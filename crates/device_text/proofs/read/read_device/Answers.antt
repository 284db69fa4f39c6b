use Rattle.std.proofs.Common.{◌≡◌, List, ℕ, true, false, length, refl, sym}
use Rattle.std.specs.List.{AllPass}
use Rattle.std.proofs.lemmas.Bool.{false≢true}
use Rattle.hex.specs.Hex.{is_hex_digit}
use Rattle.hex.proofs.HexLemmas.{decode_of-ok}
use Rattle.sync_record.specs.Devices.{Identity}
use Rattle.device_text.specs.Read.{IsHexText}
use Rattle.device_text.proofs.Faults.{no_device}
use Rattle.device_text.proofs.Found.{hex_found, found_other}
use Rattle.device_text.proofs.read.read_device.Goals as goal

no_hex : (text : List ℕ) → ((length text ≡ 64) × AllPass is_hex_digit text → false ≡ true) → (device : Identity) → IsHexText text device → ⊥
no_hex text digits device h = false≢true (digits (h.0, (decode_of-ok text device h.1).1))

pub returns-in-Some-clause-found : goal.returns-in-Some-clause-found
returns-in-Some-clause-found c = sym (hex_found c.args.text.now c.in-Some.device ((c.in-Some.ensures.found.0 refl).0, c.in-Some.ensures.value))

pub returns-in-None-clause-no_device : goal.returns-in-None-clause-no_device
returns-in-None-clause-no_device c =
    let text = c.args.text.now in
    no_device text c.read_syncthing.result (no_hex text c.in-None.ensures.found.1) c.read_syncthing.ensures.fault

pub returns-in-None-clause-found : goal.returns-in-None-clause-found
returns-in-None-clause-found c =
    let text = c.args.text.now in
    found_other text c.read_syncthing.result (no_hex text c.in-None.ensures.found.1) c.read_syncthing.ensures.value c.read_syncthing.ensures.fault
