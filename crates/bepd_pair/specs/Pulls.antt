-- What `pull P` comes to (own rule): a pull of each name of a round, over the peer's store and its folder.
use Rattle.std.specs.Prelude.{◌≡◌, ⊤, ℕ, true, List, [], ◌∷◌, ◌++◌, flat_map, map, IsTrue, Result, Ok, Err}
use Rattle.file_store.specs.Names.{Name as AnyName}
use Rattle.file_store.specs.Stores.{mem_faults, mem_gives, mem_tree}
use Rattle.folder_calls.specs.LoneStates.{seen_by}
use Rattle.sync_record.specs.Records.{is_live_file}
use Rattle.sync_pull.specs.Copies.{IsRefused}
use Rattle.sync_pull.specs.Faults.{IsFaultCounted}
use Rattle.sync_pull.specs.Pulled.{Comes, IsDropped}
use Rattle.sync_pull.specs.declared.answer.PullAnswer.{PullAnswer}
use Rattle.bepd_pair.specs.declared.command.Side.{Side}
use Rattle.bepd_pair.specs.declared.peer.Peer.{Peer}
use Rattle.bepd_pair.specs.declared.refused.Refused.{Refused}
use Rattle.bepd_pair.specs.declared.refused.Refused.TheVariants.{OutOfMemory}
use Rattle.bepd_pair.specs.Lines.{pull_line}

-- The pull of one name at the moment, with the peer's limit of conflict copies, and what it answered. Where its blocks come from is
-- left open: it lacks a source only of a live file.
pub record PullsOne (moment : ℕ) (old : Peer) (n : AnyName) (answer : PullAnswer) (new : Peer) : Type 0 where
  pub comes : Comes old.most moment n (true ≡ true) (IsFaultCounted (mem_faults old.store) (mem_faults new.store)) (λ target view. IsTrue (is_live_file target))
      (IsDropped mem_gives (true ≡ true) n (mem_tree new.store).temps new.store) (IsRefused mem_gives mem_tree) answer
      (seen_by old.calls) (mem_tree old.store) (seen_by new.calls) (mem_tree new.store)
  pub others : new ≡ record old { store = new.store; calls = new.calls }

-- a name and what its pull answered
abbrev pub Pulled : Type 0
Pulled = AnyName × PullAnswer

-- the pulls of these names, one after another
abbrev pub PullsEach : ℕ → Peer → List Pulled → Peer → Type 0
PullsEach moment old [] new = new ≡ old
PullsEach moment old (p ∷ ps) new = (next : Peer) × PullsOne moment old p.0 p.1 next × PullsEach moment next ps new

abbrev pub pulled_lines : Side → List Pulled → List ℕ
pulled_lines side pulled = flat_map (λ (p : Pulled). pull_line side p.1 p.0) pulled

-- each of these names was pulled once, in this order, and a line was printed for each
pub record PullsRound (moment : ℕ) (names : List AnyName) (old : Peer) (before after : List ℕ) (new : Peer) : Type 0 where
  pub pulled : List Pulled
  pub named : map (λ (p : Pulled). p.0) pulled ≡ names
  pub pulls : PullsEach moment old pulled new
  pub printed : after ≡ before ++ pulled_lines old.side pulled

-- A round: the folder is read for the names that are needed, and those are pulled. Which names these are, and in which order, is not
-- said here.
pub record PullsNames (moment : ℕ) (old : Peer) (before after : List ℕ) (new : Peer) : Type 0 where
  pub asked : Peer
  pub read : asked ≡ record old { calls = asked.calls }
  pub names : List AnyName
  pub round : PullsRound moment names asked before after new

-- only out of memory keeps it from being done
abbrev pub PullsUnlessFull : ℕ → Peer → Result (Unit {0}) Refused → List ℕ → List ℕ → Peer → Type 0
PullsUnlessFull moment old (Ok _) before after new = PullsNames moment old before after new
PullsUnlessFull moment old (Err OutOfMemory) before after new = ⊤
PullsUnlessFull moment old (Err _) before after new = ⊥
