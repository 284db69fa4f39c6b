-- The first difference decides which of two is preferred.
use Rattle.std.proofs.Common.{ℕ, ℤ, ◌≡◌, ◌<◌, Bool, true, false, not, IsTrue, List, [], ◌∷◌, ◌++◌, refl, sym, ap, ◌∙◌}
use Rattle.std.specs.Prelude.{◌<ℤ◌}
use Rattle.std.specs.declared.cmp.Ordering.{Ordering}
use Rattle.std.specs.declared.cmp.Ordering.TheVariants.{Less, Equal, Greater}
use Rattle.std.proofs.lemmas.Bool.{true≢false}
use Rattle.std.specs.Ordering.{bool_cmp, int_cmp, nat_cmp, is_gt, ordering_reverse, ordering_then}
use Rattle.std.specs.Cmp.{int_cmp_is, nat_cmp_is}
use Rattle.std.specs.Cmp.Lexicographic.{slice_cmp, nat_list_cmp_total}
use Rattle.sync_version.specs.Versions.{Vector}
use Rattle.sync_record.specs.Devices.{Identity, bytes_cmp}
use Rattle.sync_record.specs.Records.{FileRecord, is_live}
use Rattle.sync_record.specs.Preference.{AreAsOld, counter_cmp, is_preferred, preference}

-- the first of two answers, and the second where the first is a tie
first : (o p : Ordering) → o ≡ Greater → ordering_then o p ≡ Greater
first o p h = ap (λ q. ordering_then q p) h

next : (o p q : Ordering) → o ≡ Equal → p ≡ q → ordering_then o p ≡ q
next o p q h k = ap (λ r. ordering_then r p) h ∙ k

bool_tied : (a b : Bool) → a ≡ b → bool_cmp (not a) (not b) ≡ Equal
bool_tied true true h = refl
bool_tied false false h = refl
bool_tied true false h = absurd (true≢false h)
bool_tied false true h = absurd (true≢false (sym h))

int_tied : (x y : ℤ) → x ≡ y → int_cmp x y ≡ Equal
int_tied x y h = sym (int_cmp_is x y Equal h)

nat_tied : (x y : ℕ) → x ≡ y → nat_cmp x y ≡ Equal
nat_tied x y h = sym (nat_cmp_is x y Equal h)

counter_tied : (c : ℕ × ℕ) → counter_cmp c c ≡ Equal
counter_tied c = next (nat_cmp c.0 c.0) (nat_cmp c.1 c.1) Equal (nat_tied c.0 c.0 refl) (nat_tied c.1 c.1 refl)

counters_tied : (v : Vector) → slice_cmp counter_cmp v v ≡ Equal
counters_tied [] = refl
counters_tied (c ∷ cs) = next (counter_cmp c c) (slice_cmp counter_cmp cs cs) Equal (counter_tied c) (counters_tied cs)

-- a common beginning makes no difference
after_same : (same v w : Vector) → slice_cmp counter_cmp (same ++ v) (same ++ w) ≡ slice_cmp counter_cmp v w
after_same [] v w = refl
after_same (c ∷ cs) v w = ap (λ o. ordering_then o (slice_cmp counter_cmp (cs ++ v) (cs ++ w))) (counter_tied c) ∙ after_same cs v w

longer : (v cs : Vector) (c : ℕ × ℕ) → slice_cmp counter_cmp (v ++ c ∷ cs) v ≡ Greater
longer [] cs c = refl
longer (d ∷ ds) cs c = next (counter_cmp d d) (slice_cmp counter_cmp (ds ++ c ∷ cs) ds) Greater (counter_tied d) (longer ds cs c)

abbrev Side : Type 0
Side = Identity × FileRecord

abbrev by_life : Side → Side → Ordering
by_life a b = bool_cmp (is_live a.1) (is_live b.1)

abbrev by_second : Side → Side → Ordering
by_second a b = int_cmp a.1.modified_s b.1.modified_s

abbrev by_nanosecond : Side → Side → Ordering
by_nanosecond a b = int_cmp a.1.modified_ns b.1.modified_ns

abbrev by_author : Side → Side → Ordering
by_author a b = nat_cmp b.1.modified_by a.1.modified_by

abbrev by_counters : Side → Side → Ordering
by_counters a b = slice_cmp counter_cmp a.1.version b.1.version

abbrev by_device : Side → Side → Ordering
by_device a b = bytes_cmp b.0 a.0

abbrev from_counters : Side → Side → Ordering
from_counters a b = ordering_then (by_counters a b) (by_device a b)

abbrev from_author : Side → Side → Ordering
from_author a b = ordering_then (by_author a b) (from_counters a b)

abbrev from_time : Side → Side → Ordering
from_time a b = ordering_then (ordering_then (by_second a b) (by_nanosecond a b)) (from_author a b)

gains : (a b : Side) → preference a b ≡ Greater → IsTrue (is_preferred a b)
gains a b h = ap is_gt h

-- what is alike in life gains by what comes after
alive : (a b : Side) → a.1.deleted ≡ b.1.deleted → from_time a b ≡ Greater → IsTrue (is_preferred a b)
alive a b d h = gains a b (next (by_life a b) (from_time a b) Greater (bool_tied a.1.deleted b.1.deleted d) h)

aged : (a b : Side) → AreAsOld a.1 b.1 → from_author a b ≡ Greater → IsTrue (is_preferred a b)
aged a b old h =
    let second = int_tied a.1.modified_s b.1.modified_s old.1 in
    let nanosecond = int_tied a.1.modified_ns b.1.modified_ns old.2 in
    let time = next (by_second a b) (by_nanosecond a b) Equal second nanosecond in
    alive a b old.0 (next (ordering_then (by_second a b) (by_nanosecond a b)) (from_author a b) Greater time h)

authored : (a b : Side) → AreAsOld a.1 b.1 → a.1.modified_by ≡ b.1.modified_by → from_counters a b ≡ Greater → IsTrue (is_preferred a b)
authored a b old by h =
    aged a b old (next (by_author a b) (from_counters a b) Greater (nat_tied b.1.modified_by a.1.modified_by (sym by)) h)

counted : (a b : Side) → AreAsOld a.1 b.1 → a.1.modified_by ≡ b.1.modified_by → by_counters a b ≡ Greater → IsTrue (is_preferred a b)
counted a b old by h = authored a b old by (first (by_counters a b) (by_device a b) h)

-- equal counters
of_equal : (v w v2 w2 : Vector) → v ≡ v2 → w ≡ w2 → slice_cmp counter_cmp v2 w2 ≡ Greater → slice_cmp counter_cmp v w ≡ Greater
of_equal v w v2 w2 p q h = (λ i. slice_cmp counter_cmp (p i) (q i)) ∙ h

differing : (same cs ds : Vector) (c d : ℕ × ℕ) → counter_cmp c d ≡ Greater → slice_cmp counter_cmp (same ++ c ∷ cs) (same ++ d ∷ ds) ≡ Greater
differing same cs ds c d h = after_same same (c ∷ cs) (d ∷ ds) ∙ first (counter_cmp c d) (slice_cmp counter_cmp cs ds) h

pub life : (a b : Side) → IsTrue (is_live a.1) → is_live b.1 ≡ false → IsTrue (is_preferred a b)
life a b l d = gains a b (first (by_life a b) (from_time a b) (λ i. bool_cmp (l i) (d i)))

pub second : (a b : Side) → a.1.deleted ≡ b.1.deleted → b.1.modified_s <ℤ a.1.modified_s → IsTrue (is_preferred a b)
second a b d h =
    let later = sym (int_cmp_is a.1.modified_s b.1.modified_s Greater h) in
    alive a b d (first (ordering_then (by_second a b) (by_nanosecond a b)) (from_author a b) (first (by_second a b) (by_nanosecond a b) later))

pub nanosecond : (a b : Side) → a.1.deleted ≡ b.1.deleted → a.1.modified_s ≡ b.1.modified_s → b.1.modified_ns <ℤ a.1.modified_ns → IsTrue (is_preferred a b)
nanosecond a b d s h =
    let later = sym (int_cmp_is a.1.modified_ns b.1.modified_ns Greater h) in
    let time = next (by_second a b) (by_nanosecond a b) Greater (int_tied a.1.modified_s b.1.modified_s s) later in
    alive a b d (first (ordering_then (by_second a b) (by_nanosecond a b)) (from_author a b) time)

pub author : (a b : Side) → AreAsOld a.1 b.1 → a.1.modified_by < b.1.modified_by → IsTrue (is_preferred a b)
author a b old h =
    aged a b old (first (by_author a b) (from_counters a b) (sym (nat_cmp_is b.1.modified_by a.1.modified_by Greater h)))

pub id : (a b : Side) → AreAsOld a.1 b.1 → a.1.modified_by ≡ b.1.modified_by
    → (same cs ds : List (ℕ × ℕ)) (c d : ℕ × ℕ) → a.1.version ≡ same ++ c ∷ cs → b.1.version ≡ same ++ d ∷ ds
    → d.0 < c.0 → IsTrue (is_preferred a b)
id a b old by same cs ds c d p q h =
    let greater = first (nat_cmp c.0 d.0) (nat_cmp c.1 d.1) (sym (nat_cmp_is c.0 d.0 Greater h)) in
    counted a b old by (of_equal a.1.version b.1.version (same ++ c ∷ cs) (same ++ d ∷ ds) p q (differing same cs ds c d greater))

pub value : (a b : Side) → AreAsOld a.1 b.1 → a.1.modified_by ≡ b.1.modified_by
    → (same cs ds : List (ℕ × ℕ)) (c d : ℕ × ℕ) → a.1.version ≡ same ++ c ∷ cs → b.1.version ≡ same ++ d ∷ ds
    → c.0 ≡ d.0 → d.1 < c.1 → IsTrue (is_preferred a b)
value a b old by same cs ds c d p q e h =
    let greater = next (nat_cmp c.0 d.0) (nat_cmp c.1 d.1) Greater (nat_tied c.0 d.0 e) (sym (nat_cmp_is c.1 d.1 Greater h)) in
    counted a b old by (of_equal a.1.version b.1.version (same ++ c ∷ cs) (same ++ d ∷ ds) p q (differing same cs ds c d greater))

pub more : (a b : Side) → AreAsOld a.1 b.1 → a.1.modified_by ≡ b.1.modified_by
    → (cs : List (ℕ × ℕ)) (c : ℕ × ℕ) → a.1.version ≡ b.1.version ++ c ∷ cs → IsTrue (is_preferred a b)
more a b old by cs c p =
    counted a b old by (of_equal a.1.version b.1.version (b.1.version ++ c ∷ cs) b.1.version p refl (longer b.1.version cs c))

pub device : (a b : Side) → AreAsOld a.1 b.1 → a.1.modified_by ≡ b.1.modified_by
    → a.1.version ≡ b.1.version → bytes_cmp a.0 b.0 ≡ Less → IsTrue (is_preferred a b)
device a b old by v h =
    let tied = (λ i. slice_cmp counter_cmp (v i) b.1.version) ∙ counters_tied b.1.version in
    let smaller = nat_list_cmp_total.antisymm b.0 a.0 ∙ ap ordering_reverse h in
    authored a b old by (next (by_counters a b) (by_device a b) Greater tied smaller)
