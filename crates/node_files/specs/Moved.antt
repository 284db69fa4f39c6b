-- Which move is told of next (own rule).
use Rattle.std.specs.Prelude.{◌≡◌, ◌⊎◌, Option, Some, None, Result, Ok}
use Rattle.file_store.specs.Asked.{Call, Value, Rename}
use Rattle.file_store.specs.Names.{Name}
use Rattle.file_store.specs.declared.refusal.StoreRefusal.{StoreRefusal}

-- the name to which a file was moved last; none where memory for it ran out
abbrev pub IsMoved : (call : Call) → Result (Value call) StoreRefusal → Option Name → Option Name → Type 0
IsMoved (Rename from to) (Ok moved) old new = (new ≡ Some to) ⊎ (new ≡ None)
IsMoved call answer old new = new ≡ old
