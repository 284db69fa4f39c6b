-- A part that the store gives.
use Rattle.std.proofs.Common.{◌≡◌, ◌≢◌, ℕ, ◌-◌, ◌≤◌, List, length, Option, Some, None, Result, Ok, Bool, true, false, arith, refl, sym, ap, subst, ◌∙◌}
use Rattle.std.specs.Prelude.{MatchOption, IfSome, ◌==◌, pos, cond, not, replicate}
use Rattle.file_store.specs.Asked.{Call, Value, StatAt}
use Rattle.file_store.specs.FullReads.{FillsAll}
use Rattle.file_store.specs.Names.{Name}
use Rattle.file_store.specs.declared.node.Stat.{Stat}
use Rattle.file_store.specs.declared.refusal.StoreRefusal.{StoreRefusal}
use Rattle.std.proofs.lemmas.Bool.{eq-eqb}
use Rattle.std.proofs.lemmas.Option.{none-some}
use Rattle.bep_messages.specs.declared.request.Request.{Request}
use Rattle.bep_messages.specs.declared.response.Response.{Response}
use Rattle.sync_record.specs.Infos.{natural}
use Rattle.sync_record.specs.Records.{FileRecord}
use Rattle.block_server.specs.declared.code.Code.{Code}
use Rattle.block_server.specs.declared.code.Code.TheVariants.{Generic, NoSuchFile}
use Rattle.block_server.proofs.SaidOfAnswers.{code-above_zero}
use Rattle.block_server.specs.declared.part.Part.{Part}
use Rattle.block_server.specs.PartsGiven.{GivesPart, ServesGiven, size_said, whole, ended}
use Rattle.block_server.specs.Served.{answers_bytes, answers_code, answers_read, has_digest, refused}

module _ {S : Type 0} (gives : S → (call : Call) → Result (Value call) StoreRefusal → S → Type 0) (n : Name) (offset size : ℕ) (old asked new : S) where
  -- bytes that were read are the part, if there are as many as were asked for
  pub part-given : (read : Option (List ℕ)) (said : Stat) (buffer bytes : List ℕ) (count : ℕ) → gives old (StatAt n) (Ok said) asked → size ≤ size_said said - offset
      → buffer ≡ replicate size 0 → FillsAll gives n offset asked buffer (Ok count) new bytes → length bytes ≡ size → count ≤ length bytes
      → MatchOption read (count ≢ length bytes) (λ all. (count ≡ length bytes) × (all ≡ bytes)) → GivesPart gives n offset size old read new
  part-given None said buffer bytes count told there zeros fills long fits other =
      ended said asked new bytes count told there (subst (λ b. FillsAll gives n offset asked b (Ok count) new bytes) zeros fills) long (omega arith)
  part-given (Some all) said buffer bytes count told there zeros fills long fits (full, same) =
      let size_is : count ≡ size = full ∙ long in
      let from_zeros = subst (λ b. FillsAll gives n offset asked b (Ok count) new bytes) zeros fills in
      subst (λ b. GivesPart gives n offset size old (Some b) new) (sym same)
      (whole said asked new bytes told there (subst (λ c. FillsAll gives n offset asked (replicate size 0) (Ok c) new bytes) size_is from_zeros) long)

module _ {S : Type 0} (gives : S → (call : Call) → Result (Value call) StoreRefusal → S → Type 0) (q : Request) (r : Option FileRecord) (old : S) (response : Response) where
  -- a test refuses the request, and the store is not asked
  pub given-code : (code : Code) → refused q r ≡ Some code → response ≡ answers_code q code → ServesGiven gives q r old response old
  given-code code is same = record {
    tested = subst (λ o. IfSome o (λ c. (response ≡ answers_code q c) × (old ≡ old))) (sym is) (same, refl);
    asked = λ none. absurd (none-some code (sym none ∙ is));
  }

  module _ (new : S) (passes : refused q r ≡ None) where
    -- what the store gives is answered
    pub given-read : (read : Option (List ℕ)) → GivesPart gives q.name (natural q.offset) (natural q.size) old read new → response ≡ answers_read q read → ServesGiven gives q r old response new
    given-read read part is = record {
      tested = subst (λ o. IfSome o (λ c. (response ≡ answers_code q c) × (new ≡ old))) (sym passes) tt;
      asked = λ none. (read, part, is);
    }

    -- bytes are given by their digest
    pub given-bytes : (bytes : List ℕ) → GivesPart gives q.name (natural q.offset) (natural q.size) old (Some bytes) new → length bytes ≡ natural q.size
        → response ≡ cond (not (has_digest q.hash bytes)) (answers_code q NoSuchFile) (answers_bytes q bytes) → ServesGiven gives q r old response new
    given-bytes bytes part long is = given-read (Some bytes) part (is ∙ sym (ap (λ b. cond (not b) (answers_code q Generic) (cond (not (has_digest q.hash bytes)) (answers_code q NoSuchFile) (answers_bytes q bytes)))
        (eq-eqb (length bytes) (natural q.size) long)))

-- the part that is asked for
pub asked-part : {S : Type 0} (gives : S → (call : Call) → Result (Value call) StoreRefusal → S → Type 0) (q : Request) (old new : S) (part : Part) (read : Option (List ℕ))
    → part.name ≡ q.name → part.offset ≡ natural q.offset → part.size ≡ natural q.size → GivesPart gives part.name part.offset part.size old read new
    → GivesPart gives q.name (natural q.offset) (natural q.size) old read new
asked-part gives q old new part read name offset size given =
    subst (λ n. GivesPart gives n (natural q.offset) (natural q.size) old read new) name
    (subst (λ o. GivesPart gives part.name o (natural q.size) old read new) offset (subst (λ s. GivesPart gives part.name part.offset s old read new) size given))

module _ {S : Type 0} (gives : S → (call : Call) → Result (Value call) StoreRefusal → S → Type 0) (q : Request) (r : Option FileRecord) (old : S) (response : Response) (new : S)
    (serves : ServesGiven gives q r old response new) (zero : response.code ≡ pos 0) where
  abbrev Given : Type 0
  Given = GivesPart gives q.name (natural q.offset) (natural q.size) old (Some response.payload) new

  no-code : (code : Code) → response ≡ answers_code q code → Given
  no-code code is = absurd (code-above_zero code (sym (ap (λ (x : Response). x.code) is) ∙ zero))

  by-size : (bytes : List ℕ) → GivesPart gives q.name (natural q.offset) (natural q.size) old (Some bytes) new → (a b : Bool)
      → response ≡ cond (not a) (answers_code q Generic) (cond (not b) (answers_code q NoSuchFile) (answers_bytes q bytes)) → Given
  by-size bytes part false b is = no-code Generic is
  by-size bytes part true false is = no-code NoSuchFile is
  by-size bytes part true true is = subst (λ p. GivesPart gives q.name (natural q.offset) (natural q.size) old (Some p) new) (sym (ap (λ (x : Response). x.payload) is)) part

  by-read : (read : Option (List ℕ)) → GivesPart gives q.name (natural q.offset) (natural q.size) old read new → response ≡ answers_read q read → Given
  by-read None part is = no-code Generic is
  by-read (Some bytes) part is = by-size bytes part (length bytes == natural q.size) (has_digest q.hash bytes) is

  -- the bytes of code 0 are the part that the store gave
  pub said-given : Given
  said-given = by (refused q r) refl
    where
      by : (o : Option Code) → refused q r ≡ o → Given
      by None is = let read = serves.asked is in by-read read.0 read.1 read.2
      by (Some code) is = no-code code (subst (λ o. IfSome o (λ c. (response ≡ answers_code q c) × (new ≡ old))) is serves.tested).0
