-- Whether two devices have connections as one peer in turn (own rule).
use Rattle.std.specs.Prelude.{ℕ, Bool, true, false, Option, None, Some, ◌-◌, ◌==◌, ◌&&◌, not, nat_le, if◌then◌else◌}
use Rattle.node_peer.specs.declared.arrivals.Arrival.{Arrival}
use Rattle.node_peer.specs.declared.arrivals.Arrivals.{Arrivals}

abbrev pub no_arrivals : Arrivals
no_arrivals = record { before = None; last = None }

-- it took no other's place
abbrev pub only : Arrival → Arrivals
only now = record { before = None; last = Some now }

-- both are of one device: they came from one address, with one index
abbrev pub is_same : Arrival → Arrival → Bool
is_same a b = (a.from == b.from) && (a.index_id == b.index_id)

-- the last one is of the device of this one
abbrev pub is_of : Arrival → Option Arrival → Bool
is_of now None = false
is_of now (Some last) = is_same last now

-- it came as well: the one before it is the last one of another device
abbrev pub after : Arrival → Arrivals → Arrivals
after now a = record { before = if is_of now a.last then a.before else a.last; last = Some now }

abbrev pub came : Bool → Arrival → Arrivals → Arrivals
came has_replaced now a = if has_replaced then after now a else only now

-- at most two minutes after the one before, of the same device
abbrev pub is_back : Arrival → Arrival → Bool
is_back now before = is_same before now && nat_le (now.at - before.at) 120

-- from where the one came that had the place meanwhile, if the one before is back
abbrev pub other_of : Arrival → Option Arrival → Option Arrival → Option ℕ
other_of now None last = None
other_of now (Some before) None = None
other_of now (Some before) (Some last) = if is_back now before && not (is_same last now) then Some last.from else None

abbrev pub in_turn : Bool → Arrival → Arrivals → Option ℕ
in_turn has_replaced now a = if has_replaced then other_of now a.before a.last else None
