-- What is asked for, and what a requester puts (own rule).
use Rattle.std.specs.Prelude.{◌≡◌, ◌⊎◌, ◌<◌, ◌≤◌, ◌^◌, ℕ, ℤ, pos, Bool, false, List, [], ◌∷◌, ◌++◌, map, Option, Some, None}
use Rattle.bep_frames.specs.declared.frame.Message.{Message}
use Rattle.bep_frames.specs.declared.frame.Message.TheVariants as message
use Rattle.bep_messages.specs.declared.request.Request.{Request}
use Rattle.sync_blocks.specs.declared.block.Block.{Block}
use Rattle.peer_conn.specs.Sources.{ComeEach}
use Rattle.peer_asks.specs.declared.requester.RequesterEnd.{RequesterEnd}
use Rattle.peer_asks.specs.declared.requester.RequesterEnd.TheVariants.{Closed, Gone}

module _ {Q : Type 0} (comes : Q → Option Request → Q → Type 0) where
  -- a Request came, and was put
  abbrev pub PutsOne : Q → Q → List Message → List Message → Type 0
  PutsOne from to before after = (request : Request) × comes from (Some request) to × (after ≡ before ++ message.Request request ∷ [])

  -- what a requester leaves, by its end: nothing, since no more will come, or the last Request
  abbrev pub Leaves : RequesterEnd → Q → Q → Type 0
  Leaves Closed from to = comes from None to
  Leaves Gone from to = (request : Request) × comes from (Some request) to

  -- each Request that came was put, in this order, and nothing else
  pub record PutsEach (from to : Q) (before after : List Message) : Type 0 where
    pub requests : List Request
    pub came : ComeEach comes from requests to
    pub put : after ≡ before ++ map message.Request requests

  -- all that a requester did
  abbrev pub PutsRequests : RequesterEnd → Q → Q → List Message → List Message → Type 0
  PutsRequests end from to before after = (last : Q) × PutsEach from last before after × Leaves end last to

-- the Request under an id
abbrev pub under : ℤ → Request → Request
under id request = record request { id = id }

module _ {S : Type 0} (takes : S → Request → Bool → S → Type 0) where
  -- a Request was given once to where they go: whether it was taken
  abbrev pub TakesOne : Request → Bool → Option S → Option S → Type 0
  TakesOne request taken old new = (from to : S) × (old ≡ Some from) × takes from request taken to × (new ≡ Some to)

-- the Request for a block of a file of a folder, without its id and a digest
abbrev pub request_of : List ℕ → List ℕ → Block → Request
request_of folder name block =
    record { id = pos 0; folder = folder; name = name; offset = pos block.offset; size = pos block.size; hash = []; from_temporary = false }

-- a Request can name the block
abbrev pub IsNamed : Block → Type 0
IsNamed block = (block.offset < 2 ^ 63) × (block.size < 2 ^ 31)

-- none can
abbrev pub IsTooLarge : Block → Type 0
IsTooLarge block = (2 ^ 63 ≤ block.offset) ⊎ (2 ^ 31 ≤ block.size)
