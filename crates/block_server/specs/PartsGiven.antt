-- What is answered by what the store itself says and gives, whether it keeps what is written or not (own rule).
use Rattle.std.specs.Prelude.{◌≡◌, ℕ, ◌-◌, ◌<◌, ◌≤◌, List, length, replicate, Option, Some, None, IfSome, Result, Ok, Err}
use Rattle.bep_messages.specs.declared.request.Request.{Request}
use Rattle.bep_messages.specs.declared.response.Response.{Response}
use Rattle.sync_record.specs.Infos.{natural}
use Rattle.sync_record.specs.Records.{FileRecord}
use Rattle.file_store.specs.Asked.{Call, Value, StatAt}
use Rattle.file_store.specs.FullReads.{FillsAll}
use Rattle.file_store.specs.Names.{Name}
use Rattle.file_store.specs.declared.node.Stat.{Stat}
use Rattle.file_store.specs.declared.node.Stat.TheVariants as stat
use Rattle.file_store.specs.declared.refusal.StoreRefusal.{StoreRefusal}
use Rattle.file_store.specs.declared.refusal.StoreRefusal.TheVariants.{StoreFault}
use Rattle.block_server.specs.Served.{answers_code, answers_read, refused}

-- how many bytes the store says are there: none where it says that no file is
abbrev pub size_said : Stat → ℕ
size_said stat.Missing = 0
size_said stat.Directory = 0
size_said (stat.File size modified) = size
size_said stat.Other = 0

-- The store is asked what is at the name, and then, if it says that the part is there, for the part's bytes: all of them, or none.
pub data GivesPart {S : Type 0} (gives : S → (call : Call) → Result (Value call) StoreRefusal → S → Type 0) (n : Name) (offset size : ℕ) (old : S) : Option (List ℕ) → S → Type 0 where
  whole : (said : Stat) (asked new : S) (bytes : List ℕ) → gives old (StatAt n) (Ok said) asked → size ≤ size_said said - offset
      → FillsAll gives n offset asked (replicate size 0) (Ok size) new bytes → length bytes ≡ size → GivesPart gives n offset size old (Some bytes) new
  ended : (said : Stat) (asked new : S) (bytes : List ℕ) (count : ℕ) → gives old (StatAt n) (Ok said) asked → size ≤ size_said said - offset
      → FillsAll gives n offset asked (replicate size 0) (Ok count) new bytes → length bytes ≡ size → count < size → GivesPart gives n offset size old None new
  failed : (said : Stat) (asked new : S) (bytes : List ℕ) → gives old (StatAt n) (Ok said) asked → size ≤ size_said said - offset
      → FillsAll gives n offset asked (replicate size 0) (Err StoreFault) new bytes → GivesPart gives n offset size old None new
  not_there : (said : Stat) (new : S) → gives old (StatAt n) (Ok said) new → size_said said - offset < size → GivesPart gives n offset size old None new
  not_said : (new : S) → gives old (StatAt n) (Err StoreFault) new → GivesPart gives n offset size old None new

-- By the first test that refuses the request, and then the store is not asked; else by the part that the store gives.
pub record ServesGiven {S : Type 0} (gives : S → (call : Call) → Result (Value call) StoreRefusal → S → Type 0) (q : Request) (r : Option FileRecord) (old : S) (response : Response) (new : S) : Type 0 where
  pub tested : IfSome (refused q r) (λ code. (response ≡ answers_code q code) × (new ≡ old))
  pub asked : refused q r ≡ None →
      (read : Option (List ℕ)) × GivesPart gives q.name (natural q.offset) (natural q.size) old read new × (response ≡ answers_read q read)
