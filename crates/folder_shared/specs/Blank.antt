-- The slot of the blank token that all others are cut from: a table of one word and one slot (own rule).
use Rattle.std.specs.Prelude.{◌≡◌, Option, Some, None, [], ◌∷◌, slice_index, length}
use mathlib.Core.Option.{some}
use lib.ListN.{get_elem?}
use Rattle.atomic_table.specs.Table.{State, Me}
use Rattle.crossbeam_channel.specs.Claims.{Pass as Token, view}
use Rattle.folder_calls.specs.declared.history.History.{History}
use Rattle.folder_shared.specs.declared.known.Known.{Known}
use Rattle.folder_shared.specs.declared.known.TokenState.TheVariants.{Idle}
use Rattle.folder_shared.specs.declared.blank.Origin.{Origin}
use Rattle.folder_shared.specs.declared.shared.BlankSlot.{BlankSlot}
use Rattle.folder_shared.specs.declared.blank.Loan.{Loan}
use Rattle.folder_shared.specs.Rule.{IsSame}

module _ {T V : Type 0} where
  -- where the word is 0, a value that fits is in the slot; where it is 2, none was put there yet
  abbrev pub Guarded : (T → Type 0) → State (Option T) V → Type 0
  Guarded fits s = (length s.words ≡ 1) × (slice_index s.words 0 ≡ 0 → (value : T) × (get_elem? s.homes 0 ≡ some (some (Some value))) × fits value) × (slice_index s.words 0 ≡ 2 → get_elem? s.homes 0 ≡ some (some None))

  -- a seat that has taken a value that fits
  abbrev pub Seized : (T → Type 0) → Me (Option T) V → Type 0
  Seized fits m = (value : T) × (m.1 ≡ (0, Some value) ∷ []) × fits value

  -- a seat that has taken what was in the slot, or its absence
  abbrev pub HasOnly : Me (Option T) V → Type 0
  HasOnly m = (held : Option T) × (m.1 ≡ (0, held) ∷ [])

module _ {C : Type 0} where
  -- a blank token of that channel, for the folder that was opened there
  pub record IsBlankOf (o : Origin C) (t : Token History Known) : Type 0 where
    pub table : t.table_id ≡ o.seat.value.table_id
    pub of : t.me.0.of ≡ o.seat.value.me.0.of
    pub free : t.me.1 ≡ []
    pub idle : (view t).state ≡ Idle
    pub same : IsSame (view t).memo o.first.value
    pub none : (view t).histories ≡ []

  -- what a call has that took the blank token, until it puts it back
  abbrev pub IsLoanOf : BlankSlot C → Loan C → Type 0
  IsLoanOf m l = (l.seat.table_id ≡ m.table.shared.table_id) × HasOnly l.seat.me
