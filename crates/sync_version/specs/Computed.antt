-- What is said of version vectors at each id, as tests and values (Understanding Synchronization).
use Rattle.std.specs.Prelude.{ℕ, ◌+◌, ◌-◌, ◌^◌, max, Bool, true, false, not, ◌&&◌, ◌==◌, nat_lt, nat_le, List, [], filter, fold}
use Rattle.std.specs.List.{list_all}
use Rattle.std.specs.Ordering.{nat_cmp}
use Rattle.std.specs.Cmp.Lexicographic.{pointwise, lists_equiv}
use Rattle.std.specs.Cmp.{IsEquivalence, and_equiv, on_equiv, nat_eq_equiv}
use Rattle.std.specs.FinMap.{put}
use Rattle.sync_version.specs.Versions.{Vector, counter}
use Rattle.sync_version.specs.declared.relation.Relation.{Relation}
use Rattle.sync_version.specs.declared.relation.Relation.TheVariants.{Equal, Dominates, Dominated, Concurrent}

-- the same counters
abbrev pub same_version : Vector → Vector → Bool
same_version a b = pointwise (λ (c d : ℕ × ℕ). (c.0 == d.0) && (c.1 == d.1)) a b

pub same_version_equiv : IsEquivalence same_version
same_version_equiv = lists_equiv (and_equiv (on_equiv (λ c. c.0) nat_eq_equiv) (on_equiv (λ c. c.1) nat_eq_equiv))

-- no counter of a is smaller than b's
abbrev pub covers : Vector → Vector → Bool
covers a b = list_all (λ c. nat_le (counter b c.0) (counter a c.0)) b

-- no counter of a is smaller than b's, and one is greater
abbrev pub dominates : Vector → Vector → Bool
dominates a b = covers a b && not (covers b a)

-- by whether the first covers the second, and the second the first
abbrev pub relation_by : Bool → Bool → Relation
relation_by true true = Equal
relation_by true false = Dominates
relation_by false true = Dominated
relation_by false false = Concurrent

abbrev pub relation : Vector → Vector → Relation
relation a b = relation_by (covers a b) (covers b a)

-- the relation of b to a, where this is that of a to b
abbrev pub turned : Relation → Relation
turned Equal = Equal
turned Dominates = Dominated
turned Dominated = Dominates
turned Concurrent = Concurrent

-- the vector with at least this counter
abbrev pub with_counter : Vector → ℕ × ℕ → Vector
with_counter v c = put nat_cmp c.0 (max (counter v c.0) c.1) v

-- the greatest of each counter
abbrev pub merge : Vector → Vector → Vector
merge a b = fold with_counter a b

-- the vector of counters in any order: a 0 is no counter, and of a repeated id the greatest counts (own rule)
abbrev pub from_counters : List (ℕ × ℕ) → Vector
from_counters pairs = merge [] (filter (λ c. nat_lt 0 c.1) pairs)

-- the version after a change by the device of this id at this moment (own rule)
abbrev pub raised : Vector → ℕ → ℕ → Vector
raised v id moment = put nat_cmp id (max (counter v id + 1) moment) v

-- no greater counter fits 64 bits
abbrev pub is_counter_full : Vector → ℕ → Bool
is_counter_full v id = counter v id == 2 ^ 64 - 1
