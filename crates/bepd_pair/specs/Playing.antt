-- What two peers do with an input (own rule): its lines are followed, one after another.
use Rattle.std.specs.Prelude.{◌≡◌, ◌≢◌, ◌⊎◌, ⊤, ℕ, List, [], ◌∷◌, ◌++◌, All, EachIndex, slice_index, flat_map, Option, Result, Ok, Err, OnOk, negsuc}
use Rattle.std.specs.Io.KnownBytes.{Appends, Consumes, IsAtEnd}
use Rattle.file_store.specs.Stores.{empty_tree, mem_tree}
use Rattle.folder_calls.specs.LoneStates.{new_lone}
use Rattle.folder_core.specs.States.{empty_folder}
use Rattle.bepd_pair.specs.declared.command.Side.{Side}
use Rattle.bepd_pair.specs.declared.command.Side.TheVariants.{A, B}
use Rattle.bepd_pair.specs.declared.peer.Peer.{Peer}
use Rattle.bepd_pair.specs.declared.peers.Peers.{Peers}
use Rattle.bepd_pair.specs.declared.playing.PairFailure.{PairFailure}
use Rattle.bepd_pair.specs.declared.playing.PairFailure.TheVariants.{OutOfMemory, Write}
use Rattle.bepd_pair.specs.Devices.{identity_of}
use Rattle.bepd_pair.specs.Following.{FollowsLine}
use Rattle.bepd_pair.specs.Words.{Text}

-- A peer that has not done anything: of an empty folder, without files; all conflict copies are kept.
pub record IsNewPeer (side : Side) (peer : Peer) : Type 0 where
  pub letter : peer.side ≡ side
  pub files : mem_tree peer.store ≡ empty_tree
  pub folder : peer.calls ≡ new_lone (empty_folder (identity_of side)) 1000000
  pub most : peer.most ≡ negsuc 0

-- two such peers, at moment 0
pub record AreNew (peers : Peers) : Type 0 where
  pub a : IsNewPeer A peers.a
  pub b : IsNewPeer B peers.b
  pub moment : peers.moment ≡ 0

-- no line feed (10) is in the text
abbrev pub HasNoLineFeed : Text → Type 0
HasNoLineFeed text = EachIndex text (λ i. slice_index text i ≢ 10)

-- the bytes are these lines, each with its line feed, and a rest without one
pub record IsCut (bytes : List ℕ) (lines : List Text) (rest : Text) : Type 0 where
  pub whole : bytes ≡ flat_map (λ (line : Text). line ++ 10 ∷ []) lines ++ rest
  pub each : All HasNoLineFeed lines
  pub last : HasNoLineFeed rest

-- a rest that is not empty is a last line
abbrev pub last_line : Text → List Text
last_line [] = []
last_line (b ∷ bs) = (b ∷ bs) ∷ []

-- these lines were followed, one after another, and printed this
abbrev pub FollowsEach : Peers → List Text → List ℕ → Peers → Type 0
FollowsEach old [] printed new = (printed ≡ []) × (new ≡ old)
FollowsEach old (line ∷ lines) printed new =
    (first : List ℕ) × (others : List ℕ) × (next : Peers)
    × (printed ≡ first ++ others) × FollowsLine line old first next × FollowsEach next lines others new

-- what is done of a rest: at the end of the input it is followed
abbrev pub last_of : Result (Unit {0}) PairFailure → Text → List Text
last_of (Ok _) rest = last_line rest
last_of (Err failure) rest = []

-- all of the bytes, or after a failure a front of them
abbrev pub IsFrontOf : Result (Unit {0}) PairFailure → List ℕ → List ℕ → Type 0
IsFrontOf (Ok _) front bytes = front ≡ bytes
IsFrontOf (Err failure) front bytes = (more : List ℕ) × (bytes ≡ front ++ more)

-- what was printed was written, unless a write failed
abbrev pub WritesUnlessFailed : Result (Unit {0}) PairFailure → List ℕ → Option (List ℕ) → Option (List ℕ) → Type 0
WritesUnlessFailed (Err Write) printed old new = ⊤
WritesUnlessFailed _ printed old new = Appends old new printed

-- Two peers that were new followed the lines of these bytes, or after a failure those of a front of them, and what they printed was
-- written.
pub record FollowsBytes (result : Result (Unit {0}) PairFailure) (start : Peers) (bytes : List ℕ) (old new : Option (List ℕ)) : Type 0 where
  pub front : List ℕ
  pub part : IsFrontOf result front bytes
  pub lines : List Text
  pub rest : Text
  pub cut : IsCut front lines rest
  pub printed : List ℕ
  pub end : Peers
  pub follows : FollowsEach start (lines ++ last_of result rest) printed end
  pub written : WritesUnlessFailed result printed old new

-- the same of the bytes that were read: all of the input, unless something failed
pub record PlaysOn (result : Result (Unit {0}) PairFailure) (old_input new_input old_output new_output : Option (List ℕ)) : Type 0 where
  pub start : Peers
  pub begins : AreNew start
  pub bytes : List ℕ
  pub taken : Consumes old_input new_input bytes
  pub follows : FollowsBytes result start bytes old_output new_output
  pub whole : OnOk result (IsAtEnd new_input)

-- or memory ran out before anything was read
abbrev pub Plays : Result (Unit {0}) PairFailure → Option (List ℕ) → Option (List ℕ) → Option (List ℕ) → Option (List ℕ) → Type 0
Plays result old_input new_input old_output new_output =
    ((result ≡ Err OutOfMemory) × (new_input ≡ old_input) × (new_output ≡ old_output))
    ⊎ PlaysOn result old_input new_input old_output new_output
