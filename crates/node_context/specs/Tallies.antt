-- Which names are told by name, and how many are told at once (own rule): ten by name in ten seconds, and the others in a sum, once nothing is needed
-- any more, or each ten seconds.
use Rattle.std.specs.Prelude.{ℕ, ◌+◌, ◌-◌, ◌^◌, ◌==◌, ◌&&◌, ◌||◌, min, nat_le, nat_lt, Bool, true, false, if◌then◌else◌, Option, Some, None}
use Rattle.node_context.specs.declared.event.Change.{Change}
use Rattle.node_context.specs.declared.event.Change.TheVariants.{Got, Replaced, Deleted, Same}
use Rattle.node_context.specs.declared.tally.SkipTally.{SkipTally}
use Rattle.node_context.specs.declared.tally.Names.{Names}
use Rattle.node_context.specs.declared.tally.Sum.{Sum}
use Rattle.node_context.specs.declared.tally.Tally.{Tally}

-- a number that grows as far as it fits
abbrev pub up_to : ℕ → ℕ
up_to n = min n (2 ^ 64 - 1)

-- no name was told yet
abbrev pub named_before : Names
named_before = record { left = 0; until = 0 }

-- once ten seconds are over, ten more may be told
abbrev pub renewed : ℕ → Names → Names
renewed now n = if nat_le n.until now then record { left = 10; until = up_to (now + 10) } else n

-- one is told by name, if one may be
abbrev pub taken : Names → Bool × Names
taken n = if n.left == 0 then (false, n) else (true, record n { left = n.left - 1 })

abbrev pub is_named : ℕ → Names → Bool × Names
is_named now n = taken (renewed now n)

-- a name that was left out and isn't told by name is counted
abbrev pub left_out : SkipTally → Bool × Names → Bool × SkipTally
left_out l (true, names) = (true, record l { names = names })
left_out l (false, names) = (false, record { names = names; more = up_to (l.more + 1) })

abbrev pub no_sum : Sum
no_sum = record { got = 0; replaced = 0; deleted = 0; same = 0 }

-- one more
abbrev pub after_change : Change → Sum → Sum
after_change Got s = record s { got = up_to (s.got + 1) }
after_change Replaced s = record s { replaced = up_to (s.replaced + 1) }
after_change Deleted s = record s { deleted = up_to (s.deleted + 1) }
after_change Same s = record s { same = up_to (s.same + 1) }

-- nothing is to be told in a sum
abbrev pub is_none : Sum → Bool
is_none s = s.got == 0 && (s.replaced == 0 && (s.deleted == 0 && s.same == 0))

-- a name that isn't told by name is counted; of the first one on, ten seconds go by
abbrev pub counted : ℕ → Change → Tally → Bool × Names → Bool × Tally
counted now change t (true, names) = (true, record t { names = names })
counted now change t (false, names) =
    (false, record { names = names; sum = after_change change t.sum; due = if is_none t.sum then up_to (now + 10) else t.due })

abbrev pub tallied : ℕ → Change → Tally → Bool × Tally
tallied now change t = counted now change t (is_named now t.names)

-- the sum is told once nothing is needed, or ten seconds are over
abbrev pub due_sum : ℕ → ℕ → Tally → Option Sum
due_sum now needed t = if is_none t.sum || (nat_lt 0 needed && nat_lt now t.due) then None else Some t.sum

abbrev pub told : Tally → Option Sum → Option Sum × Tally
told t None = (None, t)
told t (Some sum) = (Some sum, record t { sum = no_sum })

abbrev pub settled : ℕ → ℕ → Tally → Option Sum × Tally
settled now needed t = told t (due_sum now needed t)
