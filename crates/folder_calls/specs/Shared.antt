-- What a caller of a shared folder knows, and what each of its calls returns.
use Rattle.std.specs.Prelude.{◌≡◌, ℕ, ◌+◌, ◌≤◌, ◌⊎◌, List, [], ◌∷◌, ◌++◌, length, Contains, Option, Some, None, MatchBool}
use Rattle.std.specs.FinMap.{len}
use mathlib.Core.List.{IsPrefix}
use Rattle.folder_core.specs.States.{FolderState, IsFolder}
use Rattle.folder_core.specs.declared.answer.Answer.{Answer}
use Rattle.folder_core.specs.declared.change.Change.{Change}
use Rattle.folder_core.specs.Steps.{is_accepted}
use Rattle.folder_core.specs.Reads.{Query, Reply, Reads}
use Rattle.folder_calls.specs.declared.at.At.{At}
use Rattle.folder_calls.specs.declared.entry.Entry.{Entry}
use Rattle.folder_calls.specs.Histories.{IsLegal, state_after, shared_answer, own_entries}

-- what a caller knows: the state that the folder was opened with, the history's limit, the caller's pass,
-- and the beginning of the history that it has seen
pub record CallerView : Type 0 where
  pub opening : FolderState
  pub limit : ℕ
  pub pass : ℕ
  pub seen : List Entry

-- What a caller has seen is a history that a folder had: it was opened without open pulls, each entry follows from those before
-- it and is of one of the passes that were given out, the caller's among them; and there is room for the entries that end the
-- pulls that are then open.
pub record IsLegalView (v : CallerView) : Type 0 where
  pub opening : IsFolder v.opening
  pub no_pull : len v.opening.pulls ≡ 0
  pub passes : ℕ
  pub given : (1 ≤ v.pass) × (v.pass ≤ passes)
  pub legal : IsLegal passes v.opening v.seen
  pub room : length v.seen + len (state_after v.opening v.seen).pulls ≤ v.limit

-- the view after this history
abbrev pub seeing : CallerView → List Entry → CallerView
seeing v seen = record v { seen = seen }

-- the folder where what the caller has seen ends
abbrev pub now : CallerView → FolderState
now v = state_after v.opening v.seen

-- the caller saw the history go on, without an entry of its own
pub record Sees (old new : CallerView) : Type 0 where
  pub longer : IsPrefix old.seen new.seen
  pub own : own_entries old.pass new.seen ≡ own_entries old.pass old.seen
  pub same : new ≡ seeing old new.seen

abbrev pub own_entry : CallerView → Change → Answer → Entry
own_entry v change answer = record { pass = v.pass; change = change; answer = answer }

-- the change was made after what the caller then saw, and its entry is the last
pub record Makes (old new : CallerView) (change : Change) (answer : Answer) : Type 0 where
  pub point : CallerView
  pub sees : Sees old point
  pub answer_is : answer ≡ shared_answer old.limit old.opening point.seen change
  pub appended : new ≡ seeing point (point.seen ++ own_entry old change answer ∷ [])

-- the change was not made, by the answer at the point that the caller then knows
pub record Declines (old new : CallerView) (change : Change) (answer : Answer) : Type 0 where
  pub sees : Sees old new
  pub answer_is : answer ≡ shared_answer old.limit old.opening new.seen change

-- the change got this answer, at the point that the caller then knows
pub record IsAnswered (old : CallerView) (change : Change) (reply : At Answer) (new : CallerView) : Type 0 where
  pub point : reply.at ≡ length new.seen
  pub legal : IsLegalView new
  pub answered : MatchBool (is_accepted reply.value) (Makes old new change reply.value) (Declines old new change reply.value)

-- Without an answer the call is out of memory: nothing was changed and nothing seen.
abbrev pub ChangesAt : CallerView → Change → Option (At Answer) → CallerView → Type 0
ChangesAt old change None new = new ≡ old
ChangesAt old change (Some reply) new = IsAnswered old change reply new

-- the change got this answer
abbrev pub Gets : CallerView → Change → Answer → CallerView → Type 0
Gets old change answer new = IsAnswered old change (record { at = length new.seen; value = answer }) new

-- a read answers of the point that the caller then knows
pub record IsRead (old : CallerView) (q : Query) (reply : At (Reply q)) (new : CallerView) : Type 0 where
  pub point : reply.at ≡ length new.seen
  pub legal : IsLegalView new
  pub sees : Sees old new
  pub answer_is : Reads (state_after old.opening new.seen) q reply.value

-- Without an answer the read is out of memory, and nothing was seen.
abbrev pub ReadsAt : CallerView → (q : Query) → Option (At (Reply q)) → CallerView → Type 0
ReadsAt old q None new = new ≡ old
ReadsAt old q (Some reply) new = IsRead old q reply new

-- Two callers meet: each sees the history go on, to what one of them had seen.
pub record Meets (one other one' other' : CallerView) : Type 0 where
  pub one_sees : Sees one one'
  pub other_sees : Sees other other'
  pub same : one'.seen ≡ other'.seen
  pub known : (one'.seen ≡ one.seen) ⊎ (one'.seen ≡ other.seen)

-- A folder is closed that so many passes were given out of, these callers' among them: it is then after a legal history, which
-- goes on from what each of them had seen, without entries of its own. If these are all passes, one of them had seen it all.
pub record Closes (opening : FolderState) (limit passes : ℕ) (callers : List CallerView) (end : FolderState) : Type 0 where
  pub history : List Entry
  pub legal : IsLegal passes opening history
  pub room : length history + len end.pulls ≤ limit
  pub state_is : end ≡ state_after opening history
  pub each : (v : CallerView) → Contains callers v → (v.opening ≡ opening) × (v.limit ≡ limit) × Sees v (seeing v history)
  pub whole : length callers ≡ passes → (v : CallerView) × Contains callers v × (v.seen ≡ history)
