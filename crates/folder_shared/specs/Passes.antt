-- What a clause says of a shared folder and of its passes.
use Rattle.std.specs.Prelude.{◌≡◌, ◌⊎◌, ℕ, ◌≤◌, ◌^◌, List, [], ◌∷◌, ◌++◌, length, take, Result, Ok, Err}
use Rattle.crossbeam_channel.specs.Claims.{view, IsSeatAt}
use Rattle.crossbeam_channel.specs.Ends.{sends_on}
use Rattle.folder_core.specs.States.{FolderState}
use Rattle.folder_calls.specs.declared.at.At.{At}
use Rattle.folder_calls.specs.declared.entry.Entry.{Entry}
use Rattle.folder_calls.specs.declared.history.History.{History}
use Rattle.folder_calls.specs.Histories.{own_entries}
use Rattle.folder_calls.specs.Shared.{IsLegalView, Sees, CallerView, seeing}
use Rattle.folder_shared.specs.declared.known.Known.{Known}
use Rattle.folder_shared.specs.declared.known.TokenState.TheVariants.{Idle, Holding}
use Rattle.folder_shared.specs.declared.shared.Pass.{Pass}
use Rattle.folder_shared.specs.declared.shared.PassCount.{PassCount}
use Rattle.folder_shared.specs.declared.shared.PassesFull.{PassesFull}
use Rattle.folder_shared.specs.declared.shared.LockedFolder.{LockedFolder}
use Rattle.folder_shared.specs.Rule.{pass_history, first_history, IsSame, Taken}

-- the history is as it was, or has one entry more, of this pass
abbrev pub IsGrown : History → ℕ → History → Type 0
IsGrown x pass y = (y ≡ x) ⊎ ((e : Entry) × (e.pass ≡ pass) × (y ≡ record x { entries = x.entries ++ e ∷ [] }))

-- the call of a pass that took the folder with this history may put it back so, with this answer
abbrev pub MayPutBack : {X E : Type 0} → History → ℕ → Result X E → History → Type 0
MayPutBack x pass (Ok answer) y = IsGrown x pass y
MayPutBack x pass (Err fault) y = y ≡ x

module _ {C : Type 0} where
  abbrev pub knows : Pass C → Known
  knows p = view p.token

  abbrev pub history_of : Pass C → List Entry
  history_of p = first_history (knows p).histories

  -- what the pass has seen
  abbrev pub seen_of : Pass C → List Entry
  seen_of p = take p.seen (history_of p)

  -- the history when the folder was opened
  abbrev pub opened_of : LockedFolder C → History
  opened_of s = s.mark.view

  abbrev pub opening_of : LockedFolder C → FolderState
  opening_of s = (opened_of s).opening

  abbrev pub limit_of : LockedFolder C → ℕ
  limit_of s = (opened_of s).limit

  -- what the pass knows
  abbrev pub view_of : LockedFolder C → Pass C → CallerView
  view_of s p = record { opening = opening_of s; limit = limit_of s; pass = p.number; seen = seen_of p }

  -- The pass is one of this folder. Its history is what it has seen, with all its entries; it may be longer, after a call that was
  -- out of memory.
  pub record IsPassOf (s : LockedFolder C) (p : Pass C) : Type 0 where
    pub seat : IsSeatAt (sends_on s.sender) p.token
    pub idle : (knows p).state ≡ Idle
    pub same : IsSame (knows p).memo (opened_of s)
    pub histories : (knows p).histories ≡ pass_history p.number (history_of p) ∷ []
    pub counted : p.seen ≤ length (history_of p)
    pub own : own_entries p.number (seen_of p) ≡ own_entries p.number (history_of p)
    pub legal : ∥ IsLegalView (view_of s p) ∥₁

  -- The folder that the call put back has as many passes as there may be. By the rule it has no fewer from then on.
  pub record IsFullOf (s : LockedFolder C) (e : PassesFull C) : Type 0 where
    pub seat : IsSeatAt (sends_on s.sender) e.token
    pub idle : (view e.token).state ≡ Idle
    pub same : IsSame (view e.token).memo (opened_of s)
    pub full : (view e.token).memo.passes ≡ 2 ^ 32

  -- The folder that the call took, and keeps, has so many passes. By the rule its history is the one that there is: so many were
  -- given out, no fewer and no more.
  pub record IsCountOf (s : LockedFolder C) (n : PassCount C) : Type 0 where
    pub seat : IsSeatAt (sends_on s.sender) n.token
    pub holds : (view n.token).state ≡ Holding
    pub same : IsSame (view n.token).memo (opened_of s)
    pub count : (view n.token).memo.passes ≡ n.count

  -- a call has taken the folder, with this history, by the pass
  pub record IsHeld (s : LockedFolder C) (before now : Pass C) (x : History) : Type 0 where
    pub number : now.number ≡ before.number
    pub seen : now.seen ≡ before.seen
    pub seat : IsSeatAt (sends_on s.sender) now.token
    pub taken : Taken (knows before) x (knows now)

  -- the call put the folder back with this history: the pass has then seen it all, if there is an answer
  abbrev pub IsPutBack : {X E : Type 0} → LockedFolder C → Pass C → History → Result X E → Result (At X) E → Pass C → Type 0
  IsPutBack s before y (Ok answer) result now =
      (result ≡ Ok (record { at = length y.entries; value = answer })) × (view_of s now ≡ seeing (view_of s before) y.entries)
      × IsLegalView (view_of s now)
  IsPutBack s before y (Err fault) result now = (result ≡ Err fault) × (view_of s now ≡ view_of s before)

  -- the call put the folder back as it was: the pass has then seen the history, without an entry of its own, if there is an answer
  abbrev pub IsGivenBack : {X E : Type 0} → LockedFolder C → Pass C → History → Result X E → Result (At X) E → Pass C → Type 0
  IsGivenBack s before x (Ok answer) result now =
      (result ≡ Ok (record { at = length x.entries; value = answer })) × (view_of s now ≡ seeing (view_of s before) x.entries)
      × Sees (view_of s before) (view_of s now) × IsLegalView (view_of s now)
  IsGivenBack s before x (Err fault) result now = (result ≡ Err fault) × (view_of s now ≡ view_of s before)
