-- Calls of a store that follow each other.
use Rattle.std.proofs.Common.{ℕ, List, Result, Ok, Err}
use Rattle.file_store.specs.Asked.{Call, Value}
use Rattle.file_store.specs.FullReads.{Fills, FillsAll, not_asked, gave, full, ended, refused}
use Rattle.file_store.specs.Names.{Name}
use Rattle.file_store.specs.Sequences.{CallsOnly, IsLook, LooksOnly, Since, called, not_called}
use Rattle.file_store.specs.declared.refusal.StoreRefusal.{StoreRefusal}

module _ {S : Type 0} (gives : S → (call : Call) → Result (Value call) StoreRefusal → S → Type 0) where
  -- one call
  pub called_once : (kind : Call → Type 0) (old new : S) (call : Call) (answer : Result (Value call) StoreRefusal) → kind call
      → gives old call answer new → CallsOnly gives kind old new
  called_once kind old new call answer is given = called old new call answer not_called is given

  -- calls after calls
  pub called_on : (kind : Call → Type 0) (old mid new : S) → CallsOnly gives kind old mid → CallsOnly gives kind mid new → CallsOnly gives kind old new
  called_on kind old mid _ before not_called = before
  called_on kind old mid _ before (called asked new call answer first is given) =
      called asked new call answer (called_on kind old mid asked before first) is given

  -- calls of one kind are of another that has it
  pub called_wider : (kind other : Call → Type 0) → ((call : Call) → kind call → other call) → (old new : S) → CallsOnly gives kind old new → CallsOnly gives other old new
  called_wider kind other wider old _ not_called = not_called
  called_wider kind other wider old _ (called asked new call answer first is given) =
      called asked new call answer (called_wider kind other wider old asked first) (wider call is) given

  module _ (n : Name) (offset : ℕ) (old : S) (before : List ℕ) where
    -- reads until a buffer is full are looks
    pub fills_look : (count : ℕ) (new : S) (after : List ℕ) → Fills gives n offset old before count new after → LooksOnly gives old new
    fills_look _ _ _ not_asked = not_called
    fills_look _ _ _ (gave filled more asked new buffer part first given some fits) =
        called asked new _ _ (fills_look filled asked buffer first) tt given

    pub fills_all_look : (result : Result ℕ StoreRefusal) (new : S) (after : List ℕ) → FillsAll gives n offset old before result new after → LooksOnly gives old new
    fills_all_look _ _ _ (full filled new after fills whole) = fills_look filled new after fills
    fills_all_look _ _ _ (ended filled asked new buffer part fills room given) = called asked new _ _ (fills_look filled asked buffer fills) tt given
    fills_all_look _ _ _ (refused filled refusal asked new buffer part fills room given) =
        called asked new _ _ (fills_look filled asked buffer fills) tt given

    module _ (since : S) (looks : LooksOnly gives since old) where
      -- and each of them came since the store was so
      pub fills_since : (count : ℕ) (new : S) (after : List ℕ) → Fills gives n offset old before count new after → Fills (Since gives since) n offset old before count new after
      fills_since _ _ _ not_asked = not_asked
      fills_since _ _ _ (gave filled more asked new buffer part first given some fits) =
          gave filled more asked new buffer part (fills_since filled asked buffer first)
          (called_on IsLook since old asked looks (fills_look filled asked buffer first), given) some fits

      pub fills_all_since : (result : Result ℕ StoreRefusal) (new : S) (after : List ℕ) → FillsAll gives n offset old before result new after
          → FillsAll (Since gives since) n offset old before result new after
      fills_all_since _ _ _ (full filled new after fills whole) = full filled new after (fills_since filled new after fills) whole
      fills_all_since _ _ _ (ended filled asked new buffer part fills room given) =
          ended filled asked new buffer part (fills_since filled asked buffer fills) room
          (called_on IsLook since old asked looks (fills_look filled asked buffer fills), given)
      fills_all_since _ _ _ (refused filled refusal asked new buffer part fills room given) =
          refused filled refusal asked new buffer part (fills_since filled asked buffer fills) room
          (called_on IsLook since old asked looks (fills_look filled asked buffer fills), given)
