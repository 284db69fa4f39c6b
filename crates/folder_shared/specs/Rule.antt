-- The rule of the folder's lock (own rule). The lock is a channel that holds one message, the folder with its history. Callers take
-- part by tokens, each at a port of the channel. What a token knows: what it is about to do (state), the history that
-- it took or put last (memo), and the histories of its passes, as far as these have seen (one of a pass, none of a blank token).
--
-- Where the message is there no token holds it, and where it is not there no two tokens hold it. (That one does then is no part of the rule: nothing
-- rests on it.) What a pass has seen begins the history, and has all entries that the pass has in it. No two histories, of one token or of two, are of
-- one pass.
use Rattle.std.specs.Prelude.{◌≡◌, ◌≢◌, ◌⊎◌, ℕ, ◌+◌, ◌≤◌, ◌<◌, nat_le, if◌then◌else◌, List, [], ◌∷◌, ◌++◌, length, map}
use mathlib.Core.Option.{some}
use lib.ListN.{get_elem?}
use Rattle.folder_calls.specs.declared.entry.Entry.{Entry}
use mathlib.Core.List.{IsPrefix}
use Rattle.folder_core.specs.States.{empty_folder}
use Rattle.folder_calls.specs.Histories.{own_entries}
use Rattle.folder_calls.specs.declared.history.History.{History}
use Rattle.folder_shared.specs.declared.known.PassHistory.{PassHistory}
use Rattle.folder_shared.specs.declared.known.TokenState.{TokenState}
use Rattle.folder_shared.specs.declared.known.TokenState.TheVariants.{New, Idle, Holding, Spent}
use Rattle.folder_shared.specs.declared.known.Known.{Known}

abbrev pub no_memo : History
no_memo = record { opening = empty_folder []; limit = 0; entries = []; passes = 0 }

abbrev pub pass_history : ℕ → List Entry → PassHistory
pass_history pass seen = record { pass = pass; seen = seen }

abbrev pub known : TokenState → History → List PassHistory → Known
known state memo histories = record { state = state; memo = memo; histories = histories }

-- the one token before the folder is first put under the lock
abbrev pub newcomer : Known
newcomer = known New no_memo []

-- a token that has become part of another
abbrev pub spent : Known
spent = known Spent no_memo []

-- The pass has this history: what was seen begins it and has all entries that the pass has in it, and the pass was given
-- out.
abbrev pub IsFit : History → PassHistory → Type 0
IsFit m c = IsPrefix c.seen m.entries × (own_entries c.pass m.entries ≡ own_entries c.pass c.seen) × (0 < c.pass) × (c.pass ≤ m.passes)

abbrev pub AreFit : History → List PassHistory → Type 0
AreFit m cs = (i : ℕ) (c : PassHistory) → get_elem? cs i ≡ some c → IsFit m c

-- Each pass has one seat: a port, and a place among the histories there. These are the histories at that port. So no two are of
-- one pass.
abbrev pub SitAt : (ℕ → ℕ × ℕ) → ℕ → List PassHistory → Type 0
SitAt seat port cs = (i : ℕ) (c : PassHistory) → get_elem? cs i ≡ some c → seat c.pass ≡ (port, i)

-- the same folder was opened, with the same limit
abbrev pub IsSame : History → History → Type 0
IsSame m n = (m.opening ≡ n.opening) × (m.limit ≡ n.limit)

-- what the rule asks of the token at a port: m is the history, items the messages that are there, and the holder is the port whose
-- token holds the folder if none is there
pub record Fits (m : History) (items : List History) (holder : ℕ) (seat : ℕ → ℕ × ℕ) (port : ℕ) (v : Known) : Type 0 where
  pub old : v.state ≢ New
  pub same : v.state ≢ Spent → IsSame v.memo m
  pub grown : v.state ≢ Spent → v.memo.passes ≤ m.passes
  pub holds : v.state ≡ Holding → (items ≡ []) × (port ≡ holder) × (v.memo ≡ m)
  pub sits : SitAt seat port v.histories
  pub fit : AreFit m v.histories

-- the folder was put under the lock: it is there, or it is away, and then no token but the one at the holder's port holds it
pub record Runs (items : List History) (views : List Known) : Type 0 where
  pub now : History
  pub holder : ℕ
  pub seat : ℕ → ℕ × ℕ
  pub place : (items ≡ now ∷ []) ⊎ (items ≡ [])
  pub all : (port : ℕ) (v : Known) → get_elem? views port ≡ some v → Fits now items holder seat port v

-- the rule: nothing was put yet and there is one new token, or the folder is under the lock
abbrev pub RuleHolds : List History → List Known → Type 0
RuleHolds items views = ((items ≡ []) × (views ≡ newcomer ∷ [])) ⊎ Runs items views

-- after the first put: the token is a blank one
abbrev pub Opened : Known → History → Known → Type 0
Opened v x w = w ≡ known Idle x []

-- no two of the histories are of one pass
abbrev pub AreApart : List PassHistory → Type 0
AreApart cs = (i j : ℕ) (c d : PassHistory) → get_elem? cs i ≡ some c → get_elem? cs j ≡ some d → c.pass ≡ d.pass → i ≡ j

-- after a take: the token holds the folder, each of its passes has a beginning of the history, and no two of them are one pass
pub record Taken (v : Known) (x : History) (w : Known) : Type 0 where
  pub after : w ≡ known Holding x v.histories
  pub same : IsSame x v.memo
  pub fit : AreFit x v.histories
  pub apart : AreApart v.histories

-- the histories of passes that have now seen this one
abbrev pub seen_all : List Entry → List PassHistory → List PassHistory
seen_all log cs = map (λ c. pass_history c.pass log) cs

-- after a put: the passes have seen the history that was put
abbrev pub PutBack : Known → History → Known → Type 0
PutBack v x w = w ≡ known Idle x (seen_all x.entries v.histories)

-- what may be put: the history that was taken, or one with one entry more, of one of the token's passes
abbrev pub MayPut : Known → History → Type 0
MayPut v x =
    IsSame x v.memo × (x.passes ≡ v.memo.passes)
    × ((x.entries ≡ v.memo.entries)
    ⊎ ((e : Entry) × (x.entries ≡ v.memo.entries ++ e ∷ []) × (i : ℕ) × (c : PassHistory) × (get_elem? v.histories i ≡ some c) × (e.pass ≡ c.pass)))

-- after a put that gives out a pass: its number is how many were given out
abbrev pub Numbered : Known → History → Known → Type 0
Numbered v x w = w ≡ known Idle x (pass_history x.passes x.entries ∷ [])

-- what may be put so, by a blank token: the history that was taken, with one pass more
abbrev pub MayNumber : Known → History → Type 0
MayNumber v x = (v.histories ≡ []) × IsSame x v.memo × (x.passes ≡ v.memo.passes + 1) × (x.entries ≡ v.memo.entries)

-- a blank token, cut from another
abbrev pub blank_of : Known → Known
blank_of v = known Idle v.memo []

-- two tokens put together
abbrev pub joined : Known → Known → Known
joined v w = known Idle v.memo (v.histories ++ w.histories)

-- what is learned of two tokens put together: all their passes have beginnings of one history
abbrev pub Agree : Known → List History → Type 0
Agree v items = (m : History) × IsSame v.memo m × AreFit m v.histories

-- the longer of two histories
abbrev pub longer : List Entry → List Entry → List Entry
longer a b = if nat_le (length a) (length b) then b else a

-- of two histories of passes the first, and the second, which then are the longer one
abbrev pub first_of_two : List PassHistory → List PassHistory
first_of_two (a ∷ b ∷ cs) = pass_history a.pass (longer a.seen b.seen) ∷ []
first_of_two cs = cs

abbrev pub second_of_two : List PassHistory → List PassHistory
second_of_two (a ∷ b ∷ cs) = pass_history b.pass (longer a.seen b.seen) ∷ []
second_of_two cs = []

-- two tokens that were put together, cut apart again
abbrev pub left_of : Known → Known
left_of v = known Idle v.memo (first_of_two v.histories)

abbrev pub right_of : Known → Known
right_of v = known Idle v.memo (second_of_two v.histories)

-- the history of the first pass
abbrev pub first_history : List PassHistory → List Entry
first_history [] = []
first_history (c ∷ cs) = c.seen
