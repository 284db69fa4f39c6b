-- What a pull asks first.
use Rattle.std.proofs.Common.{◌≡◌, ◌⊎◌, ℕ, ℤ, subst, inl, inr}
use Rattle.file_store.specs.Asked.{Call}
use Rattle.file_store.specs.Names.{Name}
use Rattle.file_store.specs.Trees.{Tree}
use Rattle.folder_calls.specs.Shared.{CallerView, Gets}
use Rattle.folder_core.specs.declared.answer.Answer.{Answer}
use Rattle.folder_core.specs.declared.answer.Answer.TheVariants as answer
use Rattle.folder_core.specs.declared.change.Change.TheVariants.{BeginPull}
use Rattle.sync_record.specs.Records.{FileRecord}
use Rattle.sync_pull.specs.Ends.{IsNotBegun, IsNotBegunBy}
use Rattle.sync_pull.specs.Pulled.{Comes}
use Rattle.sync_pull.specs.declared.answer.PullAnswer.{PullAnswer}
use Rattle.sync_pull.specs.declared.answer.PullAnswer.TheVariants.{Done, NotNeeded, Busy, Unsupported, LocalMoved, Superseded, Refused, Failed}
use Rattle.sync_pull.specs.declared.answer.PullRefusal.TheVariants.{SequenceFull, HistoryFull, OutOfMemory, Stray}
use Rattle.proof_node.specs.Begins.{HadBegun, TellsOfBegun}

module _ (most : ℤ) (moment : ℕ) (n : Name) (keeps counted : Type 0) (sourceless : FileRecord → CallerView → Type 0) (dropped : Type 0) (refused : Tree → Call → Type 0) where
  abbrev First : PullAnswer → CallerView → CallerView → Type 0
  First result old new = ((result ≡ Refused OutOfMemory) × (new ≡ old)) ⊎ (((a : Answer) × Gets old (BeginPull n) a new) ⊎ HadBegun n old result new)

  not-begun : (result : PullAnswer) (old new : CallerView) → IsNotBegun old n result new → First result old new
  not-begun result old new (inl h) = inr (inl (h.0, h.2))
  not-begun result old new (inr h) = inl h

  pub first-asked : (result : PullAnswer) (old : CallerView) (before : Tree) (new : CallerView) (after : Tree) → Comes most moment n keeps counted sourceless dropped refused result old before new after → First result old new
  first-asked result old before new after (inl h) = not-begun result old new h.0
  first-asked result old before new after (inr h) = inr (inr (h.0, h.1, h.2, h.3.ends))

  told-begun : (result : PullAnswer) (a : Answer) → TellsOfBegun result → IsNotBegunBy result a → ⊥
  told-begun (Done k) a tells by = by
  told-begun NotNeeded a tells by = tells
  told-begun Busy a tells by = tells
  told-begun Unsupported a tells by = tells
  told-begun LocalMoved a tells by = by
  told-begun Superseded a tells by = by
  told-begun (Refused SequenceFull) a tells by = by
  told-begun (Refused HistoryFull) a tells by = tells
  told-begun (Refused OutOfMemory) a tells by = tells
  told-begun (Refused Stray) a tells by = by
  told-begun (Failed failure) a tells by = by

  no-begin : (result : PullAnswer) (old new : CallerView) → TellsOfBegun result → IsNotBegun old n result new → ⊥
  no-begin result old new tells (inl h) = told-begun result h.0 tells h.1
  no-begin result old new tells (inr h) = subst TellsOfBegun h.0 tells

  pub had-begun : (result : PullAnswer) (old : CallerView) (before : Tree) (new : CallerView) (after : Tree) → Comes most moment n keeps counted sourceless dropped refused result old before new after → TellsOfBegun result → HadBegun n old result new
  had-begun result old before new after (inl h) tells = absurd (no-begin result old new tells h.0)
  had-begun result old before new after (inr h) tells = (h.0, h.1, h.2, h.3.ends)

  module _ (old : CallerView) (before : Tree) (new : CallerView) (after : Tree) where
    abbrev Came : PullAnswer → Type 0
    Came result = Comes most moment n keeps counted sourceless dropped refused result old before new after

    abbrev Says : Answer → Type 0
    Says a = Gets old (BeginPull n) a new × (keeps → after ≡ before)

    answered : (a : Answer) → (b : Answer) × (b ≡ a) × Gets old (BeginPull n) b new → Gets old (BeginPull n) a new
    answered a h = subst (λ x. Gets old (BeginPull n) x new) h.1 h.2

    pub needless-begin : Came NotNeeded → Says answer.NotNeeded
    needless-begin (inl h) = (by h.0, h.1)
      where
        by : IsNotBegun old n NotNeeded new → Gets old (BeginPull n) answer.NotNeeded new
        by (inl g) = answered answer.NotNeeded (g.0, g.1, g.2)
        by (inr g) = absurd (let e : NotNeeded ≡ Refused OutOfMemory = g.0 in cc)
    needless-begin (inr h) = absurd h.3.ends.1

    pub busy-begin : Came Busy → Says answer.Busy
    busy-begin (inl h) = (by h.0, h.1)
      where
        by : IsNotBegun old n Busy new → Gets old (BeginPull n) answer.Busy new
        by (inl g) = answered answer.Busy (g.0, g.1, g.2)
        by (inr g) = absurd (let e : Busy ≡ Refused OutOfMemory = g.0 in cc)
    busy-begin (inr h) = absurd h.3.ends.1

    pub unsupported-begin : Came Unsupported → Says answer.Unsupported
    unsupported-begin (inl h) = (by h.0, h.1)
      where
        by : IsNotBegun old n Unsupported new → Gets old (BeginPull n) answer.Unsupported new
        by (inl g) = answered answer.Unsupported (g.0, g.1, g.2)
        by (inr g) = absurd (let e : Unsupported ≡ Refused OutOfMemory = g.0 in cc)
    unsupported-begin (inr h) = absurd h.3.ends.1

    pub full-begin : Came (Refused HistoryFull) → Says answer.HistoryFull ⊎ HadBegun n old (Refused HistoryFull) new
    full-begin (inl h) = inl (by h.0, h.1)
      where
        by : IsNotBegun old n (Refused HistoryFull) new → Gets old (BeginPull n) answer.HistoryFull new
        by (inl g) = answered answer.HistoryFull (g.0, g.1, g.2)
        by (inr g) = absurd (let e : Refused HistoryFull ≡ Refused OutOfMemory = g.0 in cc)
    full-begin (inr h) = inr (h.0, h.1, h.2, h.3.ends)

    pub memory-begin : Came (Refused OutOfMemory) → ((new ≡ old) × (keeps → after ≡ before)) ⊎ HadBegun n old (Refused OutOfMemory) new
    memory-begin (inl h) = inl (by h.0, h.1)
      where
        by : IsNotBegun old n (Refused OutOfMemory) new → new ≡ old
        by (inl g) = absurd g.1
        by (inr g) = g.1
    memory-begin (inr h) = inr (h.0, h.1, h.2, h.3.ends)
