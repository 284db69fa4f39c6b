-- Preference is a strict total order.
use Rattle.std.proofs.Common.{ℤ, ◌≡◌, ◌≢◌, ◌⊎◌, false, IsTrue, inl, inr, refl, sym, ap, subst, ◌∙◌, rules}
use Rattle.std.specs.declared.cmp.Ordering.{Ordering}
use Rattle.std.specs.declared.cmp.Ordering.TheVariants.{Less, Equal, Greater}
use Rattle.std.specs.Ordering.{bool_cmp, nat_cmp, is_gt, ordering_reverse, ordering_then}
use Rattle.std.specs.Cmp.{IsTotalOrder, on_total, then_total, back_total, nat_cmp_total, int_cmp_total, bool_cmp_total}
use Rattle.std.specs.Cmp.Lexicographic.{slice_cmp, nat_list_cmp_total, lists_total}
use Rattle.std.specs.FinMap.{slice_cmp-IsAntisymmetric, nat_cmp-IsAntisymmetric}
use Rattle.sync_record.specs.Devices.{Identity, bytes_cmp}
use Rattle.sync_record.specs.Records.{FileRecord, is_live}
use Rattle.sync_record.specs.Preference.{counter_cmp, is_preferred, preference, time_cmp}

pub preference_total : IsTotalOrder preference
preference_total =
    then_total (on_total (λ c. is_live c.1) bool_cmp_total)
    (then_total (on_total {J = ℤ × ℤ} (λ c. (c.1.modified_s, c.1.modified_ns)) (then_total (on_total (λ t. t.0) int_cmp_total) (on_total (λ t. t.1) int_cmp_total)))
    (then_total (back_total (on_total (λ c. c.1.modified_by) nat_cmp_total))
    (then_total (on_total (λ c. c.1.version) (lists_total (then_total (on_total (λ c. c.0) nat_cmp_total) (on_total (λ c. c.1) nat_cmp_total))))
    (back_total (on_total (λ c. c.0) nat_list_cmp_total)))))

-- what greater and less say of each other
greater_is : (o : Ordering) → IsTrue (is_gt o) → ordering_reverse o ≡ Less
greater_is Less h = absurd (search (rules, h))
greater_is Equal h = absurd (search (rules, h))
greater_is Greater h = refl

less_is : (o : Ordering) → o ≡ Less → IsTrue (is_gt (ordering_reverse o))
less_is o h = subst (λ p. IsTrue (is_gt (ordering_reverse p))) (sym h) refl

equal_reversed : (o : Ordering) → o ≡ ordering_reverse o → is_gt o ≡ false
equal_reversed Less h = refl
equal_reversed Equal h = refl
equal_reversed Greater h = absurd (search (rules, h))

pub irreflexive : (a : Identity × FileRecord) → is_preferred a a ≡ false
irreflexive a = equal_reversed (preference a a) (preference_total.antisymm a a)

not_greater : (o : Ordering) → o ≡ Less → is_gt o ≡ false
not_greater o h = ap is_gt h

pub asymmetric : (a b : Identity × FileRecord) → IsTrue (is_preferred a b) → is_preferred b a ≡ false
asymmetric a b h = not_greater (preference b a) (preference_total.antisymm b a ∙ greater_is (preference a b) h)

pub transitive : (a b c : Identity × FileRecord) → IsTrue (is_preferred a b) → IsTrue (is_preferred b c) → IsTrue (is_preferred a c)
transitive a b c p q =
    let ba = preference_total.antisymm b a ∙ greater_is (preference a b) p in
    let cb = preference_total.antisymm c b ∙ greater_is (preference b c) q in
    subst (λ o. IsTrue (is_gt o)) (sym (preference_total.antisymm a c)) (less_is (preference c a) (preference_total.trans c b a cb ba))

-- where all comes out equal, so does the last
last_equal : (o p : Ordering) → ordering_then o p ≡ Equal → p ≡ Equal
last_equal Equal p h = h
last_equal Less p h = absurd (search (rules, h))
last_equal Greater p h = absurd (search (rules, h))

pub preference_tied : (a b : Identity × FileRecord) → preference a b ≡ Equal → a.0 ≡ b.0
preference_tied a b h =
    let by_time = time_cmp (a.1.modified_s, a.1.modified_ns) (b.1.modified_s, b.1.modified_ns) in
    let by_author = nat_cmp b.1.modified_by a.1.modified_by in
    let by_counters = slice_cmp counter_cmp a.1.version b.1.version in
    let device = bytes_cmp b.0 a.0 in
    let one = last_equal (bool_cmp (is_live a.1) (is_live b.1)) (ordering_then by_time (ordering_then by_author (ordering_then by_counters device))) h in
    let two = last_equal by_time (ordering_then by_author (ordering_then by_counters device)) one in
    let three = last_equal by_author (ordering_then by_counters device) two in
    let device : bytes_cmp b.0 a.0 ≡ Equal = last_equal by_counters device three in
    sym (slice_cmp-IsAntisymmetric nat_cmp-IsAntisymmetric b.0 a.0 device)

one_of : (o r : Ordering) → r ≡ ordering_reverse o → (o ≡ Equal → ⊥) → IsTrue (is_gt o) ⊎ IsTrue (is_gt r)
one_of Less r h none = inr (ap is_gt h)
one_of Equal r h none = absurd (none refl)
one_of Greater r h none = inl refl

pub total : (a b : Identity × FileRecord) → a.0 ≢ b.0 → IsTrue (is_preferred a b) ⊎ IsTrue (is_preferred b a)
total a b other = one_of (preference a b) (preference b a) (preference_total.antisymm b a) (λ h. other (preference_tied a b h))
