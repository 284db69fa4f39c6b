-- Which call of a failing store fails: the one before which no calls are left (own rule).
use Rattle.std.specs.Prelude.{ℕ, ◌⊎◌, ◌-◌, ◌==◌, ◌≡◌, Bool, false, IsTrue, if◌then◌else◌, Option, Some, None, Result, Err}
use Rattle.file_store.specs.declared.failing.FailingStore.{FailingStore}
use Rattle.file_store.specs.declared.failing.FailureTime.{FailureTime}
use Rattle.file_store.specs.declared.failing.FailureTime.TheVariants.{Before, After}
use Rattle.file_store.specs.declared.refusal.StoreRefusal.{StoreRefusal}
use Rattle.file_store.specs.declared.refusal.StoreRefusal.TheVariants.{StoreFault}

-- the store that it wraps
abbrev pub wrapped : {S : Type 0} → FailingStore S → S
wrapped s = s.inner

-- how many calls are left before the one that fails; none once it has failed
abbrev pub calls_left : {S : Type 0} → FailingStore S → Option ℕ
calls_left s = s.left

-- whether it fails before or after the wrapped store is asked
abbrev pub failure_time : {S : Type 0} → FailingStore S → FailureTime
failure_time s = s.time

-- how many faults it has returned
abbrev pub own_faults : {S : Type 0} → FailingStore S → ℕ
own_faults s = s.faults

-- the next call fails
abbrev pub is_next : Option ℕ → Bool
is_next None = false
is_next (Some left) = left == 0

-- the number after a call; none once the call has failed
abbrev pub after_one : Option ℕ → Option ℕ
after_one None = None
after_one (Some left) = if left == 0 then None else Some (left - 1)

-- the next call fails, or the wrapped store may fail it
abbrev pub MayFail : Option ℕ → Type 0 → Type 0
MayFail left inner = IsTrue (is_next left) ⊎ inner

-- What each call gives: it is counted, and is the wrapped store's unless it is the one that is due. That one fails: before
-- the wrapped store is asked, which stays as it is, or after that store has answered, whatever it returned.
pub record FailsOne {S V : Type 0} (old new : FailingStore S) (result : Result V StoreRefusal) (asked : Result V StoreRefusal → Type 0) : Type 0 where
  pub left : calls_left new ≡ after_one (calls_left old)
  pub time : failure_time new ≡ failure_time old
  pub other : is_next (calls_left old) ≡ false → asked result
  pub due : IsTrue (is_next (calls_left old)) → result ≡ Err StoreFault
  pub before : IsTrue (is_next (calls_left old)) → failure_time old ≡ Before → wrapped new ≡ wrapped old
  pub after : IsTrue (is_next (calls_left old)) → failure_time old ≡ After → (answer : Result V StoreRefusal) × asked answer
