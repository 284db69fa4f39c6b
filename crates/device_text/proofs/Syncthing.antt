-- The value of a text in Syncthing's form, or with its fault.
use Rattle.std.proofs.Common.{◌≡◌, ◌≢◌, inl, inr, ℕ, ◌<◌, ◌==◌, Bool, true, false, List, length, get_or, refl, sym, ap, subst, ◌∙◌, arith}
use Rattle.std.specs.Prelude.{Ok, Err}
use Rattle.std.specs.List.{list_any}
use Rattle.std.proofs.lemmas.Bool.{eq-eqb, ne_eqb, cases_Bool, cases_eq, false≢true}
use Rattle.std.proofs.lemmas.List.{length-map, get_or-map}
use Rattle.std.proofs.lemmas.List.Folds.{list_any_at}
use Rattle.sync_record.specs.Devices.{Identity}
use Rattle.device_text.specs.declared.fault.DeviceFault.{DeviceFault}
use Rattle.device_text.specs.declared.fault.DeviceFault.TheVariants.{Length, Character, Check}
use Rattle.device_text.specs.Read.{characters, AreRead, IsValueOf, IsSyncthingText, HasFault}
use Rattle.device_text.specs.Found.{value_of, values_of, checked, syncthing_device}
use Rattle.device_text.proofs.Faults.{read_long}
use Rattle.device_text.proofs.Reading.{all_read}
use Rattle.device_text.proofs.Tests.{checked_ok, checked_err, checked_is}
use Rattle.device_text.proofs.Values.{stands, stands_not, values_read, none_32}

abbrev has_32 : List ℕ → Bool
has_32 vs = list_any (λ v. v == 32) vs

short : (text : List ℕ) → length (characters text) ≢ 56 → syncthing_device text ≡ Err Length
short text h = rw (ne_eqb (length (characters text)) 56 h) refl

strange : (text : List ℕ) → length (characters text) ≡ 56 → has_32 (values_of text) ≡ true → syncthing_device text ≡ Err Character
strange text long bad = rw (eq-eqb (length (characters text)) 56 long, bad) refl

good : (text : List ℕ) → length (characters text) ≡ 56 → has_32 (values_of text) ≡ false → syncthing_device text ≡ checked (values_of text)
good text long none = rw (eq-eqb (length (characters text)) 56 long, none) refl

found_long : (text vs : List ℕ) → AreRead text vs → syncthing_device text ≡ checked vs
found_long text vs read =
    let same : values_of text ≡ vs = values_read (characters text) vs read.small read.same in
    good text (read_long text vs read) (ap has_32 same ∙ none_32 vs read.small) ∙ ap checked same

pub syncthing_ok : (text : List ℕ) (device : Identity) → IsSyncthingText text device → syncthing_device text ≡ Ok device
syncthing_ok text device s = found_long text s.0 s.1 ∙ checked_ok s.0 s.2 ∙ ap Ok (sym s.3)

value_at : (text : List ℕ) (k : ℕ) → length (characters text) ≡ 56 → k < 56 → get_or (values_of text) k 0 ≡ value_of (get_or (characters text) k 0)
value_at text k long h = get_or-map value_of (characters text) k 0 0 (omega arith)

pub syncthing_err : (text : List ℕ) (fault : DeviceFault) → HasFault text fault → syncthing_device text ≡ Err fault
syncthing_err text Length h = short text h
syncthing_err text Character h =
    let k = h.1.0 in
    let at : get_or (values_of text) k 0 ≡ 32 = value_at text k h.0 h.1.1 ∙ stands_not (get_or (characters text) k 0) h.1.2 in
    let inside : k < length (values_of text) = omega (arith, length-map (characters text) value_of, h.0, h.1.1) in
    strange text h.0 (list_any_at (λ v. v == 32) (values_of text) k 0 inside (eq-eqb _ _ at))
syncthing_err text (Check group) h =
    found_long text h.0 h.1 ∙ checked_err h.0 h.2 h.4 h.5 h.6 ∙ ap (λ (g : ℕ). Err (Check g)) (sym h.3)

-- where none is 32, each stands for its value
each_stands : (text : List ℕ) → length (characters text) ≡ 56 → has_32 (values_of text) ≡ false
    → (k : ℕ) → k < 56 → IsValueOf (get_or (characters text) k 0) (get_or (values_of text) k 0)
each_stands text long none k h =
    let c = get_or (characters text) k 0 in
    let at : get_or (values_of text) k 0 ≡ value_of c = value_at text k long h in
    let inside : k < length (values_of text) = omega (arith, length-map (characters text) value_of) in
    let other : value_of c ≢ 32 = λ e. false≢true (sym none ∙ list_any_at (λ v. v == 32) (values_of text) k 0 inside (eq-eqb _ _ (at ∙ e))) in
    subst (λ (x : ℕ). IsValueOf c x) (sym at) (stands c other)

are_read : (text : List ℕ) → length (characters text) ≡ 56 → has_32 (values_of text) ≡ false → AreRead text (values_of text)
are_read text long none =
    let count : length (values_of text) ≡ 56 = omega (arith, length-map (characters text) value_of) in
    let all = all_read (characters text) (values_of text) long count (each_stands text long none) in
    record {
      count = count;
      small = all.0;
      same = all.1;
    }

pub is_syncthing : (text : List ℕ) (device : Identity) → syncthing_device text ≡ Ok device → IsSyncthingText text device
is_syncthing text device e =
    elim (cases_eq (length (characters text)) 56) [
      | inl long ↦ elim (cases_Bool (has_32 (values_of text))) [
        | inl bad ↦ cc (sym (strange text long bad) ∙ e)
        | inr none ↦
            let all = checked_is (values_of text) device (sym (good text long none) ∙ e) in
            (values_of text, are_read text long none, all.0, sym all.1)
      ]
      | inr other ↦ cc (sym (short text other) ∙ e)
    ]
