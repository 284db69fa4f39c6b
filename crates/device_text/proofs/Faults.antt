-- What is found in a text is its identity; a text in which a fault is found is in no form.
use Rattle.std.proofs.Common.{◌≡◌, inl, inr, ℕ, ◌<◌, List, map, length, get_or, sym, ap, subst, ◌∙◌, arith}
use Rattle.std.specs.Prelude.{Result, Ok, Err, IfErr}
use Rattle.std.proofs.lemmas.List.{length-map, get_or-map}
use Rattle.sync_names.specs.Base32.{base32_digit}
use Rattle.sync_record.specs.Devices.{Identity}
use Rattle.device_text.specs.declared.fault.DeviceFault.{DeviceFault}
use Rattle.device_text.specs.declared.fault.DeviceFault.TheVariants.{Length, Character, Check}
use Rattle.device_text.specs.Base32.{identity_of, AreBase32}
use Rattle.device_text.specs.Read.{characters, as_read, AreRead, IsChecked, IsValueOf, IsHexText, IsSyncthingText, IsDeviceText, HasFault, without_checks}
use Rattle.device_text.proofs.Characters.{same_values}

are_read : (text cs vs : List ℕ) → cs ≡ characters text → length vs ≡ 56 → AreBase32 vs → map as_read cs ≡ map base32_digit vs → AreRead text vs
are_read text cs vs found long small same = record {
  count = long;
  small = small;
  same = ap (map as_read) (sym found) ∙ same;
}

pub syncthing_text : (text cs vs others : List ℕ) (identity device : Identity) → cs ≡ characters text → length vs ≡ 56 → AreBase32 vs → map as_read cs ≡ map base32_digit vs
    → ((n : ℕ) → n < 4 → IsChecked vs n) → others ≡ without_checks vs → identity ≡ identity_of others → device ≡ identity
    → IsSyncthingText text device
syncthing_text text cs vs others identity device found long small same checked left is made =
    (vs, are_read text cs vs found long small same, checked, made ∙ is ∙ ap identity_of left)

pub read_long : (text vs : List ℕ) → AreRead text vs → length (characters text) ≡ 56
read_long text vs read =
    omega (arith, read.count, ap (λ (l : List ℕ). length l) read.same, length-map (characters text) as_read, length-map vs base32_digit)

read_value : (text vs : List ℕ) (k : ℕ) → AreRead text vs → k < 56 → IsValueOf (get_or (characters text) k 0) (get_or vs k 0)
read_value text vs k read h = (
  read.small k,
  sym (get_or-map as_read (characters text) k 0 0 (omega (arith, read_long text vs read)))
      ∙ ap (λ (l : List ℕ). get_or l k 0) read.same
      ∙ get_or-map base32_digit vs k 0 0 (omega (arith, read.count)),
)

-- a text with a fault is in no form of Syncthing's
pub no_syncthing : (text : List ℕ) (fault : DeviceFault) (device : Identity) → HasFault text fault → IsSyncthingText text device → ⊥
no_syncthing text Length device h s = h (read_long text s.0 s.1)
no_syncthing text Character device h s = h.1.2 (get_or s.0 h.1.0 0) (read_value text s.0 h.1.0 s.1 h.1.1)
no_syncthing text (Check group) device h s =
    let same : s.0 ≡ h.0 = same_values s.0 h.0 (s.1.count ∙ sym h.1.count) s.1.small h.1.small (sym s.1.same ∙ h.1.same) in
    h.6 (subst (λ (v : List ℕ). IsChecked v h.2) same (s.2 h.2 h.4))

neither : (text : List ℕ) (fault : DeviceFault) (device : Identity) → (IsHexText text device → ⊥) → HasFault text fault → IsDeviceText text device → ⊥
neither text fault device other h (inl d) = other d
neither text fault device other h (inr s) = no_syncthing text fault device h s

pub no_device : (text : List ℕ) (r : Result Identity DeviceFault) → ((device : Identity) → IsHexText text device → ⊥)
    → IfErr r (λ fault. HasFault text fault) → IfErr r (λ fault. (device : Identity) → IsDeviceText text device → ⊥)
no_device text (Ok device) other h = tt
no_device text (Err fault) other h = λ device d. neither text fault device (other device) h d
