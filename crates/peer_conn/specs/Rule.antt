-- The rule of the queue: what was taken of each seat, and then what the queue holds of it, is what it put (own rule).
use Rattle.std.specs.Prelude.{◌≡◌, ℕ, Bool, true, false, cond, List, [], ◌∷◌, ◌++◌}
use mathlib.Core.Option.{some}
use lib.ListN.{get_elem?}
use Rattle.peer_conn.specs.declared.known.SeatName.{SeatName}
use Rattle.peer_conn.specs.declared.known.SeatName.TheVariants.{Indexer, Server, Requester}
use Rattle.peer_conn.specs.declared.known.Sent.{Sent}
use Rattle.peer_conn.specs.declared.known.Account.{Account}
use Rattle.peer_conn.specs.declared.known.Known.{Known}

abbrev pub is_same : SeatName → SeatName → Bool
is_same Indexer Indexer = true
is_same Indexer Server = false
is_same Indexer Requester = false
is_same Server Indexer = false
is_same Server Server = true
is_same Server Requester = false
is_same Requester Indexer = false
is_same Requester Server = false
is_same Requester Requester = true

module _ {T : Type 0} where
  abbrev pub sent : SeatName → T → Sent T
  sent name message = record { from = name; message = message }

  abbrev pub account : SeatName → List T → Account T
  account name put = record { from = name; put = put }

  abbrev pub known : Bool → List (Sent T) → List (Account T) → Known T
  known takes got accounts = record { takes = takes; got = got; accounts = accounts }

  -- the messages of one seat, in order
  abbrev pub of : SeatName → List (Sent T) → List T
  of name [] = []
  of name (x ∷ xs) = cond (is_same name x.from) (x.message ∷ of name xs) (of name xs)

  -- the first end has all accounts, and takes
  abbrev pub newcomer : Known T
  newcomer = known true [] (account Indexer [] ∷ account Server [] ∷ account Requester [] ∷ [])

  abbrev pub spent : Known T
  spent = known false [] []

  -- one view: its accounts are its own and say what was put; if it takes, it is the one that does
  pub record Fits (owner : SeatName → ℕ) (put : SeatName → List T) (reader : ℕ) (got : List (Sent T)) (port : ℕ) (v : Known T) : Type 0 where
    pub owns : (i : ℕ) (c : Account T) → get_elem? v.accounts i ≡ some c → owner c.from ≡ port
    pub says : (i : ℕ) (c : Account T) → get_elem? v.accounts i ≡ some c → c.put ≡ put c.from
    pub reads : v.takes ≡ true → port ≡ reader
    pub took : v.takes ≡ true → v.got ≡ got

  pub record RuleHolds (items : List (Sent T)) (views : List (Known T)) : Type 0 where
    pub owner : SeatName → ℕ
    pub put : SeatName → List T
    pub reader : ℕ
    pub got : List (Sent T)
    pub even : (name : SeatName) → of name (got ++ items) ≡ put name
    pub all : (port : ℕ) (v : Known T) → get_elem? views port ≡ some v → Fits owner put reader got port v

  -- what the first account says
  abbrev pub put_in : List (Account T) → List T
  put_in [] = []
  put_in (c ∷ cs) = c.put

  abbrev pub of_seat : SeatName → List T → Known T
  of_seat name put = known false [] (account name put ∷ [])

  abbrev pub IsOfSeat : SeatName → Known T → Type 0
  IsOfSeat name v = v ≡ of_seat name (put_in v.accounts)

  abbrev pub IsOfTaker : Known T → Type 0
  IsOfTaker v = v.takes ≡ true

  -- a put
  abbrev pub after_put : Known T → Sent T → Known T
  after_put v x = of_seat x.from (put_in v.accounts ++ x.message ∷ [])

  -- the queue holds the end of what the seat put
  abbrev pub Waits : Known T → List (Sent T) → Type 0
  Waits v items = (i : ℕ) (c : Account T) → get_elem? v.accounts i ≡ some c → (taken : List T) × (c.put ≡ taken ++ of c.from items)

  -- a take
  abbrev pub after_take : Known T → Sent T → Known T
  after_take v x = known true (v.got ++ x ∷ []) v.accounts

  -- of the accounts that the end has: what was taken, and then what the queue holds, is what was put
  abbrev pub Tells : Known T → List (Sent T) → Type 0
  Tells v items = (i : ℕ) (c : Account T) → get_elem? v.accounts i ≡ some c → of c.from (v.got ++ items) ≡ c.put

  abbrev pub first_of : List (Account T) → List (Account T)
  first_of [] = []
  first_of (c ∷ cs) = c ∷ []

  abbrev pub rest_of : List (Account T) → List (Account T)
  rest_of [] = []
  rest_of (c ∷ cs) = cs

  abbrev pub left_of : Known T → Known T
  left_of v = known v.takes v.got (rest_of v.accounts)

  abbrev pub right_of : Known T → Known T
  right_of v = known false [] (first_of v.accounts)

  abbrev pub joined : Known T → Known T → Known T
  joined v w = known v.takes v.got (w.accounts ++ v.accounts)

  -- at any time, what the end that takes took of a seat is a beginning of what it put
  abbrev pub AlwaysBegins : List (Sent T) → List (Known T) → Type 0
  AlwaysBegins items views =
      RuleHolds items views → (i j : ℕ) (name : SeatName) (seat taker : Known T) → get_elem? views i ≡ some seat → get_elem? views j ≡ some taker → IsOfSeat name seat → IsOfTaker taker
      → (rest : List T) × (put_in seat.accounts ≡ of name taker.got ++ rest)
