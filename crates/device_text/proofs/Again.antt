-- What is written is read again, and no text is read as two identities.
use Rattle.std.proofs.Common.{◌≡◌, ◌↔◌, inl, inr, ℕ, zero, suc, ◌+◌, ◌<◌, ◌≤◌, List, [], ◌∷◌, ◌++◌, map, take, drop, length, get_or, sym, ap, subst, ◌∙◌, arith, append_assoc}
use Rattle.std.proofs.lemmas.List.{drop-drop, take-append-drop, map-append, length-map, length-take, length-drop}
use Rattle.std.proofs.lemmas.List.Elements.{filter-append}
use Rattle.std.proofs.lemmas.Bool.Decides.{nat_tests}
use Rattle.std.specs.Prelude.{Bool, true, not}
use Rattle.hex.specs.Hex.{IsBytes, is_hex_digit}
use Rattle.hex.proofs.HexLemmas.{decode_of-ok, decode_of-same}
use Rattle.sync_names.specs.Base32.{base32_digit}
use Rattle.sync_record.specs.Devices.{Identity}
use Rattle.device_text.specs.Base32.{AreBase32, base32_values, identity_of}
use Rattle.device_text.specs.Checks.{check_value}
use Rattle.device_text.specs.Written.{group_text, device_text}
use Rattle.device_text.specs.Read.{is_separator, characters, as_read, AreRead, IsHexText, IsSyncthingText, IsDeviceText, without_checks}
use Rattle.device_text.proofs.Characters.{same_values, all_kept, digits_kept, digits_as_read}
use Rattle.device_text.proofs.Digits.{identity_again, length_digits, digits_below, take-all}
use Rattle.device_text.proofs.Small.{low_take, low_drop}
use Rattle.device_text.proofs.Groups.{grouped, four, four_checked, four_without}

abbrev kept : ℕ → Bool
kept c = not (is_separator c)

group_kept : (p : List ℕ) → characters (group_text p) ≡ map base32_digit (grouped p [])
group_kept p =
    let all = grouped p [] in
    filter-append kept (map base32_digit (take 7 all)) (45 ∷ map base32_digit (drop 7 all))
    ∙ ap (λ (l : List ℕ). l ++ characters (map base32_digit (drop 7 all))) (digits_kept (take 7 all))
    ∙ ap (λ (l : List ℕ). map base32_digit (take 7 all) ++ l) (digits_kept (drop 7 all))
    ∙ sym (map-append base32_digit (take 7 all) (drop 7 all))
    ∙ ap (map base32_digit) (take-append-drop 7 all)

-- a group before what is kept of a text
group_then : (p t r : List ℕ) → characters t ≡ map base32_digit r → characters (group_text p ++ 45 ∷ t) ≡ map base32_digit (grouped p r)
group_then p t r e =
    let c = check_value p in
    filter-append kept (group_text p) (45 ∷ t)
    ∙ ap (λ (l : List ℕ). l ++ characters t) (group_kept p)
    ∙ ap (λ (l : List ℕ). map base32_digit (p ++ c ∷ []) ++ l) e
    ∙ sym (map-append base32_digit (p ++ c ∷ []) r)
    ∙ ap (map base32_digit) (append_assoc p (c ∷ []) r)

abbrev part : List ℕ → ℕ → List ℕ
part v n = take 13 (drop n v)

low_group : (p r : List ℕ) (c : ℕ) → AreBase32 p → c < 32 → AreBase32 r → AreBase32 (p ++ c ∷ r)
low_group [] r c low h rest zero = h
low_group [] r c low h rest (suc i) = rest i
low_group (x ∷ p) r c low h rest zero = low zero
low_group (x ∷ p) r c low h rest (suc i) = low_group p r c (λ j. low (suc j)) h rest i

low_grouped : (p r : List ℕ) → AreBase32 p → AreBase32 r → AreBase32 (grouped p r)
low_grouped p r low rest = low_group p r (check_value p) low (omega arith) rest

long : (v : List ℕ) (n : ℕ) → length v ≡ 52 → n ≤ 39 → length (part v n) ≡ 13
long v n h k = omega (arith, length-take 13 (drop n v), length-drop n v)

joined : (v : List ℕ) → length v ≡ 52 → part v 0 ++ (part v 13 ++ (part v 26 ++ part v 39)) ≡ v
joined v h =
    let rest : length (drop 39 v) ≡ 13 = omega (arith, length-drop 39 v) in
    let e4 : part v 39 ≡ drop 39 v = subst (λ (n : ℕ). take n (drop 39 v) ≡ drop 39 v) rest (take-all (drop 39 v)) in
    let e3 : part v 26 ++ drop 39 v ≡ drop 26 v = ap (λ (l : List ℕ). part v 26 ++ l) (sym (drop-drop 13 26 v)) ∙ take-append-drop 13 (drop 26 v) in
    let e2 : part v 13 ++ drop 26 v ≡ drop 13 v = ap (λ (l : List ℕ). part v 13 ++ l) (sym (drop-drop 13 13 v)) ∙ take-append-drop 13 (drop 13 v) in
    ap (λ (l : List ℕ). part v 0 ++ (part v 13 ++ (part v 26 ++ l))) e4
    ∙ ap (λ (l : List ℕ). part v 0 ++ (part v 13 ++ l)) e3
    ∙ ap (λ (l : List ℕ). part v 0 ++ l) e2
    ∙ take-append-drop 13 v

length_grouped : (p r : List ℕ) (c : ℕ) → length (p ++ c ∷ r) ≡ suc (length p + length r)
length_grouped [] r c = omega arith
length_grouped (x ∷ p) r c = omega (arith, length_grouped p r c)

length_four : (a b c d : List ℕ) → length a ≡ 13 → length b ≡ 13 → length c ≡ 13 → length d ≡ 13 → length (four a b c d) ≡ 56
length_four a b c d h k l m =
    omega (
      arith,
      length_grouped a (grouped b (grouped c (grouped d []))) (check_value a),
      length_grouped b (grouped c (grouped d [])) (check_value b),
      length_grouped c (grouped d []) (check_value c),
      length_grouped d [] (check_value d),
    )

written : (identity : Identity) → length identity ≡ 32 → IsBytes identity → IsSyncthingText (device_text identity) identity
written identity long32 bytes =
    let v : List ℕ = base32_values identity in
    let n : length v ≡ 52 = length_digits 32 52 _ in
    let low : AreBase32 v = digits_below 32 52 _ (omega arith) in
    let a = part v 0 in
    let b = part v 13 in
    let c = part v 26 in
    let d = part v 39 in
    let la = long v 0 n (omega arith) in
    let lb = long v 13 n (omega arith) in
    let lc = long v 26 n (omega arith) in
    let ld = long v 39 n (omega arith) in
    let lows = λ (k : ℕ). low_take 13 (drop k v) (low_drop k v low) in
    let all = four a b c d in
    let small : AreBase32 all = low_grouped a _ (lows 0) (low_grouped b _ (lows 13) (low_grouped c _ (lows 26) (low_grouped d [] (lows 39) (λ i. omega arith)))) in
    let shown : characters (device_text identity) ≡ map base32_digit all =
    group_then a _ (grouped b (grouped c (grouped d []))) (group_then b _ (grouped c (grouped d [])) (group_then c _ (grouped d []) (group_kept d))) in
    let read : AreRead (device_text identity) all = record {
      count = length_four a b c d la lb lc ld;
      small = small;
      same = ap (map as_read) shown ∙ digits_as_read all small;
    } in (
      all,
      read,
      four_checked a b c d la lb lc ld,
      sym (ap identity_of (four_without a b c d la lb lc ld ∙ joined v n) ∙ identity_again identity long32 bytes),
    )

-- every hexadecimal digit is kept
hex_kept : (c : ℕ) → is_hex_digit c ≡ true → 46 ≤ c
hex_kept c h = grind (arith, nat_tests)

pub hex_is_no_other : (text : List ℕ) (a b : Identity) → IsHexText text a → IsSyncthingText text b → ⊥
hex_is_no_other text a b h s =
    let digits = decode_of-ok text a h.1 in
    let same : characters text ≡ text = all_kept text (λ i k. hex_kept (get_or text i 0) (digits.1 i 0 k)) in
    let read = s.1 in
    omega (
      arith,
      h.0,
      read.count,
      ap (λ (l : List ℕ). length l) same,
      ap (λ (l : List ℕ). length l) read.same,
      length-map (characters text) as_read,
      length-map s.0 base32_digit,
    )

pub one_identity : (text : List ℕ) (a b : Identity) → IsDeviceText text a → IsDeviceText text b → a ≡ b
one_identity text a b (inl h) (inl k) = decode_of-same text a b h.1 k.1
one_identity text a b (inl h) (inr k) = absurd (hex_is_no_other text a b h k)
one_identity text a b (inr h) (inl k) = absurd (hex_is_no_other text b a k h)
one_identity text a b (inr h) (inr k) =
    let same : h.0 ≡ k.0 = same_values h.0 k.0 (h.1.count ∙ sym k.1.count) h.1.small k.1.small (sym h.1.same ∙ k.1.same) in
    h.3 ∙ ap (λ (v : List ℕ). identity_of (without_checks v)) same ∙ sym k.3

pub read_again : (identity other : Identity) → length identity ≡ 32 → IsBytes identity
    → IsDeviceText (device_text identity) other ↔ (other ≡ identity)
read_again identity other long32 bytes =
    let right : IsDeviceText (device_text identity) identity = inr (written identity long32 bytes) in (
      λ h. one_identity (device_text identity) other identity h right,
      λ e. subst (λ (x : Identity). IsDeviceText (device_text identity) x) (sym e) right,
    )
