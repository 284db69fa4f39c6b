-- The value of a text, by its forms.
use Rattle.std.proofs.Common.{◌≡◌, ◌↔◌, ◌⊎◌, inl, inr, ℕ, List, length, refl, sym, ap, ◌∙◌}
use Rattle.std.specs.Prelude.{Result, Ok, Err, IfOk, IfErr}
use Rattle.std.specs.Result.{result_or}
use Rattle.std.proofs.lemmas.Bool.{eq-eqb}
use Rattle.std.proofs.lemmas.Bool.Decides.{eqb_tells}
use Rattle.hex.specs.Hex.{decode_of}
use Rattle.hex.specs.declared.error.FromHexError.{FromHexError}
use Rattle.sync_record.specs.Devices.{Identity}
use Rattle.device_text.specs.declared.fault.DeviceFault.{DeviceFault}
use Rattle.device_text.specs.Read.{IsHexText, IsSyncthingText, IsDeviceText, HasFault}
use Rattle.device_text.specs.Found.{syncthing_device, device_of}
use Rattle.device_text.proofs.Again.{hex_is_no_other}
use Rattle.device_text.proofs.Syncthing.{syncthing_ok, syncthing_err, is_syncthing}

refused : (r : Result Identity FromHexError) (s : Result Identity DeviceFault) → ((device : Identity) → r ≡ Ok device → ⊥) → result_or r s ≡ s
refused (Ok device) s none = absurd (none device refl)
refused (Err e) s none = refl

pub hex_found : (text : List ℕ) (device : Identity) → IsHexText text device → device_of text ≡ Ok device
hex_found text device h = rw (eq-eqb _ _ h.0, h.1) refl

other_found : (text : List ℕ) → ((device : Identity) → IsHexText text device → ⊥) → device_of text ≡ syncthing_device text
other_found text other =
    elim (eqb_tells (length text) 64) [
      | inl y ↦ rw y.0 (refused (decode_of text) (syncthing_device text) (λ device e. other device (y.1, e)))
      | inr n ↦ rw n.0 refl
    ]

pub found_other : (text : List ℕ) (r : Result Identity DeviceFault) → ((device : Identity) → IsHexText text device → ⊥)
    → IfOk r (λ device. IsSyncthingText text device) → IfErr r (λ fault. HasFault text fault) → r ≡ device_of text
found_other text (Ok device) other ok err = sym (other_found text other ∙ syncthing_ok text device ok)
found_other text (Err fault) other ok err = sym (other_found text other ∙ syncthing_err text fault err)

either : (r : Result Identity FromHexError) (s : Result Identity DeviceFault) (device : Identity) → result_or r s ≡ Ok device
    → (r ≡ Ok device) ⊎ (s ≡ Ok device)
either (Ok a) s device e = let same : a ≡ device = cc in inl (ap Ok same)
either (Err x) s device e = inr e

is_device : (text : List ℕ) (device : Identity) → device_of text ≡ Ok device → IsDeviceText text device
is_device text device e =
    elim (eqb_tells (length text) 64) [
      | inl y ↦ elim (either (decode_of text) (syncthing_device text) device (rw y.0 at e)) [
        | inl h ↦ inl (y.1, h)
        | inr s ↦ inr (is_syncthing text device s)
      ]
      | inr n ↦ inr (is_syncthing text device (rw n.0 at e))
    ]

found_device : (text : List ℕ) (device : Identity) → IsDeviceText text device → device_of text ≡ Ok device
found_device text device (inl h) = hex_found text device h
found_device text device (inr s) = other_found text (λ a h. hex_is_no_other text a device h s) ∙ syncthing_ok text device s

pub both : (text : List ℕ) (device : Identity) → IsDeviceText text device ↔ (device_of text ≡ Ok device)
both text device = (found_device text device, is_device text device)
