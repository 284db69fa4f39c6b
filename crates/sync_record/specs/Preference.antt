-- Which of two devices' records of a name is preferred (own rule).
use Rattle.std.specs.Prelude.{◌≡◌, ℕ, ℤ, Bool}
use Rattle.std.specs.Ordering.{nat_cmp, int_cmp, bool_cmp, on, flip_args, then_cmp, is_gt}
use Rattle.std.specs.declared.cmp.Ordering.{Ordering}
use Rattle.std.specs.Cmp.Lexicographic.{slice_cmp}
use Rattle.sync_record.specs.Devices.{Identity, bytes_cmp}
use Rattle.sync_record.specs.Records.{FileRecord, is_live}

-- pairs by the first part, and then by the second
abbrev pub counter_cmp : ℕ × ℕ → ℕ × ℕ → Ordering
counter_cmp = then_cmp (on (λ c. c.0) nat_cmp) (on (λ c. c.1) nat_cmp)

abbrev pub time_cmp : ℤ × ℤ → ℤ × ℤ → Ordering
time_cmp = then_cmp (on (λ t. t.0) int_cmp) (on (λ t. t.1) int_cmp)

-- The first of these in which two differ decides, and the greater is preferred: the live one, the one of the
-- later time, of the smaller modified_by, of the greater counters pair by pair, of the smaller device.
abbrev pub preference : Identity × FileRecord → Identity × FileRecord → Ordering
preference =
    then_cmp (on (λ c. is_live c.1) bool_cmp)
    (then_cmp (on (λ c. (c.1.modified_s, c.1.modified_ns)) time_cmp)
    (then_cmp (flip_args (on (λ c. c.1.modified_by) nat_cmp))
    (then_cmp (on (λ c. c.1.version) (slice_cmp counter_cmp))
    (flip_args (on (λ c. c.0) bytes_cmp)))))

abbrev pub is_preferred : Identity × FileRecord → Identity × FileRecord → Bool
is_preferred a b = is_gt (preference a b)

-- both are live or both deleted, and they are of one time
abbrev pub AreAsOld : FileRecord → FileRecord → Type 0
AreAsOld r q = (r.deleted ≡ q.deleted) × (r.modified_s ≡ q.modified_s) × (r.modified_ns ≡ q.modified_ns)
