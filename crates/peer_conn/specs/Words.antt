-- What a clause says of the ends of the queue (own rule).
use Rattle.std.specs.Prelude.{◌≡◌, ℕ, List, [], ◌∷◌, ◌++◌}
use mathlib.Core.Option.{some}
use lib.ListN.{get_elem?}
use Rattle.crossbeam_channel.specs.Claims.{view}
use Rattle.crossbeam_channel.specs.Ends.{sends_on, receives_on, ruled_capacity}
use Rattle.crossbeam_channel.specs.Fifo.{Held}
use Rattle.peer_conn.specs.declared.known.SeatName.{SeatName}
use Rattle.peer_conn.specs.declared.known.Sent.{Sent}
use Rattle.peer_conn.specs.declared.known.Account.{Account}
use Rattle.peer_conn.specs.declared.ends.Seat.{Seat}
use Rattle.peer_conn.specs.declared.ends.Taker.{Taker}
use Rattle.peer_conn.specs.declared.ends.Ended.{Ended}
use Rattle.peer_conn.specs.declared.ends.NotPut.{NotPut}
use Rattle.peer_conn.specs.declared.ends.NotPut.TheVariants.{Full, Gone}
use Rattle.peer_conn.specs.Rule.{put_in, of, sent, Waits}

module _ {T : Type 0} where
  -- what the seat has put
  abbrev pub put_of : Seat T → List T
  put_of s = put_in (view s.token).accounts

  -- all that a seat put before it ended
  abbrev pub all_of : Ended T → List T
  all_of e = put_in (view e.token).accounts

  -- what the taker took
  abbrev pub taken_of : Taker T → List (Sent T)
  taken_of t = (view t.token).got

  -- the seats that were taken in, with what each put
  abbrev pub ended_of : Taker T → List (Account T)
  ended_of t = (view t.token).accounts

  -- a seat of this taker's queue
  abbrev pub IsSeatOf : Taker T → Seat T → Type 0
  IsSeatOf t s = sends_on s.sender ≡ receives_on t.receiver

  -- a seat of this taker's queue that ended
  abbrev pub IsEndedAt : Taker T → Ended T → Type 0
  IsEndedAt t e = sends_on e.sender ≡ receives_on t.receiver

  -- the same, of this name
  abbrev pub IsEndedOf : Taker T → SeatName → Ended T → Type 0
  IsEndedOf t name e = IsEndedAt t e × (e.name ≡ name)

  -- the seat, under the same name in the same queue
  abbrev pub IsSameSeat : Seat T → Seat T → Type 0
  IsSameSeat s r = (r.name ≡ s.name) × (sends_on r.sender ≡ sends_on s.sender)

  -- the same once it has ended
  abbrev pub IsSameEnded : Seat T → Ended T → Type 0
  IsSameEnded s e = (e.name ≡ s.name) × (sends_on e.sender ≡ sends_on s.sender)

  -- the seat, ended
  abbrev pub IsEndOf : Seat T → Ended T → Type 0
  IsEndOf s e = IsSameEnded s e × (all_of e ≡ put_of s)

  abbrev pub IsSameQueue : Taker T → Taker T → Type 0
  IsSameQueue t u = receives_on u.receiver ≡ receives_on t.receiver

  abbrev pub IsSameTaker : Taker T → Taker T → Type 0
  IsSameTaker t u = (receives_on u.receiver ≡ receives_on t.receiver) × (ended_of u ≡ ended_of t)

  abbrev pub capacity_of : Seat T → ℕ
  capacity_of s = ruled_capacity (sends_on s.sender)

  -- at one moment of the call the queue held as many messages as it can, among them the end of what the seat put
  abbrev pub WasFull : Seat T → Type 0
  WasFull s = Held (capacity_of s) (Waits (view s.token))

  -- what was taken of each seat that was taken in is what it put
  abbrev pub IsWhole : Taker T → Type 0
  IsWhole t = (i : ℕ) (c : Account T) → get_elem? (ended_of t) i ≡ some c → of c.from (taken_of t) ≡ c.put

  -- a seat of this name of the taker's queue, which holds so many messages, that has put nothing
  pub record IsNew (most : ℕ) (t : Taker T) (name : SeatName) (s : Seat T) : Type 0 where
    pub named : s.name ≡ name
    pub in_queue : IsSeatOf t s
    pub holds : capacity_of s ≡ most
    pub put_none : put_of s ≡ []

  abbrev pub IsNewTaker : Taker T → Type 0
  IsNewTaker t = (taken_of t ≡ []) × (ended_of t ≡ [])

  abbrev pub message_of : NotPut T → T
  message_of (Full m) = m
  message_of (Gone m) = m

  abbrev pub IsFull : NotPut T → Type 0
  IsFull (Full m) = Unit {0}
  IsFull (Gone m) = ⊥

  abbrev pub IsGone : NotPut T → Type 0
  IsGone (Full m) = ⊥
  IsGone (Gone m) = Unit {0}

  -- this message of some seat was taken
  abbrev pub IsTaken : Taker T → Taker T → T → Type 0
  IsTaken t u m = (name : SeatName) × (taken_of u ≡ taken_of t ++ sent name m ∷ [])
