-- What is known of the Requests of one connection (own rule).
use Rattle.std.specs.Prelude.{◌≡◌, ◌≢◌, ◌⊎◌, ℕ, suc, ◌<◌, ◌≤◌, ◌+◌, ◌-◌, ◌*◌, ◌^◌, ◌&&◌, ℤ, pos, Bool, true, false, List, [], ◌∷◌, Option, Some, None, ◌++◌, fold, length, get_or, min, nat_lt, option_to_list, slice_set, ⊤}
use Rattle.std.specs.List.{position}
use Rattle.std.specs.Global.{Vec}
use Rattle.bep_messages.specs.declared.response.Response.{Response}
use Rattle.bep_session.specs.Ids.{max_asks}
use Rattle.bep_messages.specs.declared.request.Request.{Request}
use Rattle.peer_asks.specs.Requests.{TakesOne, under}
use Rattle.peer_asks.specs.declared.fault.AskFault.{AskFault}
use Rattle.peer_asks.specs.declared.fault.AskFault.TheVariants.{NotConnected, TooManyAsks, Silent, TooLarge, OutOfMemory}
use Rattle.peer_asks.specs.declared.table.AskState.{AskState}
use Rattle.peer_asks.specs.declared.table.AskState.TheVariants.{Free, Waits, LetGo, Came, NoneCame}
use Rattle.peer_asks.specs.declared.table.Arrival.{Arrival}
use Rattle.peer_asks.specs.declared.table.Arrival.TheVariants.{Data, Refused, WrongSize, Late, Unknown}
use Rattle.peer_asks.specs.declared.table.Taken.{Taken}
use Rattle.peer_asks.specs.declared.table.Taken.TheVariants.{NotYet, Bytes, Nothing}

-- what is known of the Request at a place, which is its id but for 1
abbrev pub state_at : List AskState → ℕ → AskState
state_at states k = get_or states k Free

-- the id is that of the place
abbrev pub IsAt : ℤ → ℕ → Type 0
IsAt id k = id ≡ pos (suc k)

-- whether there is none
abbrev pub is_free : AskState → Bool
is_free Free = true
is_free _ = false

-- how many bytes are asked for by a Request that waits, or came and were not taken
abbrev pub bytes_of : AskState → ℕ
bytes_of (Waits size) = size
bytes_of (Came bytes) = length bytes.items
bytes_of _ = 0

abbrev pub bytes_asked : List AskState → ℕ
bytes_asked states = fold (λ sum state. min (sum + bytes_of state) (2 ^ 64 - 1)) 0 states

-- of the 1,024 places the last 256 are kept for blocks that are waited for, and others are asked for only as far as 256 MiB
abbrev pub has_room_ahead : List AskState → Bool
has_room_ahead states = nat_lt (get_or (option_to_list (position is_free states)) 0 (length states)) 768 && nat_lt (bytes_asked states) (256 * 1024 * 1024)

-- there was no Request with the id
abbrev pub IsFreeAt : List AskState → ℤ → Type 0
IsFreeAt old id = (k : ℕ) → IsAt id k → state_at old k ≡ Free

-- a Request is at the least place at which there was none, or at the end where there was one at each
abbrev pub HasOpened : List AskState → ℤ → AskState → List AskState → Type 0
HasOpened old id state new = (k : ℕ) × IsAt id k × (k < max_asks)
    × (((position is_free old ≡ Some k) × (new ≡ slice_set old k state))
    ⊎ ((position is_free old ≡ None) × (k ≡ length old) × (new ≡ old ++ state ∷ [])))

-- there is a Request at each place that one may have
abbrev pub AreAllTaken : List AskState → Type 0
AreAllTaken old = ((k : ℕ) → position is_free old ≡ Some k → max_asks ≤ k) × (position is_free old ≡ None → max_asks ≤ length old)

-- no Response comes for it
abbrev pub IsOver : AskState → Type 0
IsOver (Waits size) = ⊥
IsOver LetGo = ⊥
IsOver _ = ⊤

-- what is known of a Request once its Response came
abbrev pub IsAfter : Arrival → AskState → Response → AskState → Type 0
IsAfter Data (Waits size) r (Came bytes) = (r.code ≡ pos 0) × (length r.payload ≡ size) × (bytes.items ≡ r.payload)
IsAfter Refused (Waits size) r NoneCame = r.code ≢ pos 0
IsAfter WrongSize (Waits size) r NoneCame = (r.code ≡ pos 0) × (length r.payload ≢ size)
IsAfter Late LetGo r Free = ⊤
IsAfter _ _ _ _ = ⊥

-- a Response was taken, and this is what it brought
abbrev pub HasAnswered : List AskState → Response → List AskState → Arrival → Type 0
HasAnswered old r new Unknown = (new ≡ old) × ((k : ℕ) → IsAt r.id k → IsOver (state_at old k))
HasAnswered old r new arrival = (k : ℕ) × IsAt r.id k × (state : AskState)
    × IsAfter arrival (state_at old k) r state × (new ≡ slice_set old k state)

-- what is there for an id was taken
abbrev pub HasTaken : List AskState → ℤ → List AskState → Taken → Type 0
HasTaken old id new NotYet = (k : ℕ) × IsAt id k × (size : ℕ) × (state_at old k ≡ Waits size) × (new ≡ old)
HasTaken old id new (Bytes bytes) = (k : ℕ) × IsAt id k × (state_at old k ≡ Came bytes) × (new ≡ slice_set old k Free)
HasTaken old id new Nothing = ((k : ℕ) × IsAt id k × (state_at old k ≡ NoneCame) × (new ≡ slice_set old k Free))
    ⊎ ((new ≡ old) × ((k : ℕ) → IsAt id k → (state_at old k ≡ Free) ⊎ (state_at old k ≡ LetGo)))

-- the state of the Request with an id changed so, where there is a place for the id, and nothing else
abbrev pub IsSetAt : List AskState → ℤ → (AskState → AskState) → List AskState → Type 0
IsSetAt old id change new = ((k : ℕ) × IsAt id k × (k < length old) × (new ≡ slice_set old k (change (state_at old k))))
    ⊎ ((new ≡ old) × ((k : ℕ) → k < length old → IsAt id k → ⊥))

-- what is known of a Request of which nobody wants the bytes any more
abbrev pub after_let_go : AskState → AskState
after_let_go (Waits size) = LetGo
after_let_go LetGo = LetGo
after_let_go _ = Free

-- without the id that came last, if there is one
abbrev pub IsWithoutLast : List ℤ → List ℤ → Type 0
IsWithoutLast old new = ((id : ℤ) × (old ≡ new ++ id ∷ [])) ⊎ ((old ≡ []) × (new ≡ []))

-- what is there for an id was looked at: its bytes came, none will, or there is nothing yet
abbrev pub HasLooked : List AskState → ℤ → List AskState → List ℕ → Option Bool → List ℕ → Type 0
HasLooked old id new before (Some true) after = (bytes : Vec ℕ) × HasTaken old id new (Bytes bytes) × (after ≡ bytes.items)
HasLooked old id new before (Some false) after = HasTaken old id new Nothing × (after ≡ before)
HasLooked old id new before None after = HasTaken old id new NotYet × (after ≡ before)

-- The states as they were, or with one more at a place where there is no Request: it was opened, and taken back.
abbrev pub IsTakenBack : List AskState → List AskState → Type 0
IsTakenBack old new = (id : ℤ) × (size : ℕ) × (between : List AskState) × HasOpened old id (Waits size) between × IsSetAt between id (λ _. Free) new

module _ {S : Type 0} (takes : S → Request → Bool → S → Type 0) where
  -- Why a Request was not sent, and what then became of where they go, and of the states: there was no connection; there was a Request at
  -- each place; it was given to where they go, which did not take it; or memory ran out.
  abbrev pub HasRefused : AskFault → Request → Option S → Option S → List AskState → List AskState → Type 0
  HasRefused NotConnected request from to old new = (from ≡ None) × (to ≡ from) × (new ≡ old)
  HasRefused TooManyAsks request from to old new =
      (AreAllTaken old × (to ≡ from) × (new ≡ old)) ⊎ (((id : ℤ) × TakesOne takes (under id request) false from to) × IsTakenBack old new)
  HasRefused Silent request from to old new = ⊥
  HasRefused TooLarge request from to old new = ⊥
  HasRefused OutOfMemory request from to old new = (to ≡ from) × (new ≡ old)
