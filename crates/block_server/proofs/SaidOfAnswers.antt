-- What a served answer says.
use Rattle.std.proofs.Common.{◌≡◌, ℕ, suc, Bool, true, false, List, [], length, take, drop, refl, sym, ap, subst, ◌∙◌, arith, ◌⊎◌, inl, inr}
use Rattle.std.specs.Prelude.{bytes_eq, ◌==◌, cond, not, pos, Option, None, Some, IfSome, unwrap_or}
use Rattle.std.specs.Option.{option_map_or}
use Rattle.std.proofs.lemmas.Bool.{or_cases}
use Rattle.std.proofs.lemmas.Bool.Decides.{Decides-eqb}
use Rattle.std.proofs.lemmas.Slice.Eq.{bytes_eq-Decides}
use Rattle.std.proofs.lemmas.Option.{none-some}
use Rattle.sha2.specs.Sha256.{sha256}
use Rattle.bep_messages.specs.declared.request.Request.{Request}
use Rattle.bep_messages.specs.declared.response.Response.{Response}
use Rattle.sync_record.specs.Infos.{natural}
use Rattle.sync_record.specs.Records.{FileRecord}
use Rattle.block_server.specs.declared.code.Code.{Code}
use Rattle.block_server.specs.declared.code.Code.TheVariants.{Generic, NoSuchFile, InvalidFile}
use Rattle.block_server.specs.Served.{Serves, answers_bytes, answers_code, answers_read, asked_of, code_number, has_digest, one_fault_more, refused}

inside : {A : Type 0} (x y : A) → Some x ≡ Some y → x ≡ y
inside x y e = ap (λ o. unwrap_or o x) e

above-zero : (k : ℕ) → pos (suc k) ≡ pos 0 → ⊥
above-zero k e = let f : suc k ≡ 0 = cc in omega arith

pub code-above_zero : (code : Code) → code_number code ≡ pos 0 → ⊥
code-above_zero Generic e = above-zero 0 e
code-above_zero NoSuchFile e = above-zero 1 e
code-above_zero InvalidFile e = above-zero 2 e

module _ (keeps : Bool) (q : Request) (r : Option FileRecord) (file : List ℕ) (faults : ℕ) (response : Response) (after : ℕ) (serves : Serves keeps q r file faults response after) where
  -- the answer after the tests
  by-tests : (o : Option Code) → refused q r ≡ o → response ≡ option_map_or (answers_code q) o (answers_read q serves.read)
  by-tests o is = serves.answer_is ∙ ap (λ p. option_map_or (answers_code q) p (answers_read q serves.read)) is

  by-read : refused q r ≡ None → (read : Option (List ℕ)) → serves.read ≡ read → response ≡ answers_read q read
  by-read passes read is = by-tests None passes ∙ ap (answers_read q) is

  abbrev pub HasBytes : Type 0
  HasBytes = (response.code ≡ pos 0) × (after ≡ faults) × (refused q r ≡ None) × (length response.payload ≡ natural q.size)
      × ((q.hash ≡ []) ⊎ (sha256 response.payload ≡ q.hash)) × (keeps ≡ true → response.payload ≡ take (natural q.size) (drop (natural q.offset) file))

  abbrev pub HasNone : Type 0
  HasNone = (response.payload ≡ []) × (response.code ≡ pos 0 → ⊥)

  has-none : (code : Code) → response ≡ answers_code q code → HasNone
  has-none code is = (ap (λ (x : Response). x.payload) is, λ e. code-above_zero code (sym (ap (λ (x : Response). x.code) is) ∙ e))

  has-digest : (bytes : List ℕ) → has_digest q.hash bytes ≡ true → (q.hash ≡ []) ⊎ (sha256 bytes ≡ q.hash)
  has-digest bytes e = by (or_cases (bytes_eq q.hash []) (bytes_eq (sha256 bytes) q.hash) e)
    where
      by : (bytes_eq q.hash [] ≡ true) ⊎ (bytes_eq (sha256 bytes) q.hash ≡ true) → (q.hash ≡ []) ⊎ (sha256 bytes ≡ q.hash)
      by (inl f) = inl ((bytes_eq-Decides q.hash []).0 f)
      by (inr f) = inr ((bytes_eq-Decides (sha256 bytes) q.hash).0 f)

  pub answers-id : response.id ≡ q.id
  answers-id = by (refused q r) refl
    where
      after-read : (read : Option (List ℕ)) → (answers_read q read).id ≡ q.id
      after-read None = refl
      after-read (Some bytes) = by-size (length bytes == natural q.size) (has_digest q.hash bytes)
        where
          by-size : (a b : Bool) → (cond (not a) (answers_code q Generic) (cond (not b) (answers_code q NoSuchFile) (answers_bytes q bytes))).id ≡ q.id
          by-size false b = refl
          by-size true false = refl
          by-size true true = refl

      by : (o : Option Code) → refused q r ≡ o → response.id ≡ q.id
      by (Some code) is = ap (λ (x : Response). x.id) (by-tests (Some code) is)
      by None is = ap (λ (x : Response). x.id) (by-read is serves.read refl) ∙ after-read serves.read

  pub answers-say : HasBytes ⊎ HasNone
  answers-say = by (refused q r) refl
    where
      with-bytes : refused q r ≡ None → (bytes : List ℕ) → serves.read ≡ Some bytes → (a : Bool) → (length bytes == natural q.size) ≡ a → (b : Bool) → has_digest q.hash bytes ≡ b
          → response ≡ cond (not a) (answers_code q Generic) (cond (not b) (answers_code q NoSuchFile) (answers_bytes q bytes)) → HasBytes ⊎ HasNone
      with-bytes passes bytes read false size b digest is = inr (has-none Generic is)
      with-bytes passes bytes read true size false digest is = inr (has-none NoSuchFile is)
      with-bytes passes bytes read true size true digest is =
          let payload : response.payload ≡ bytes = ap (λ (x : Response). x.payload) is in inl (
            ap (λ (x : Response). x.code) is,
            serves.counted ∙ ap (λ o. option_map_or (λ (x : List ℕ). faults) o (one_fault_more faults)) read,
            passes,
            ap length payload ∙ (Decides-eqb (length bytes) (natural q.size)).0 size,
            subst (λ x. (q.hash ≡ []) ⊎ (sha256 x ≡ q.hash)) (sym payload) (has-digest bytes digest),
            λ k. payload ∙ kept-bytes k serves.read read (serves.bytes k),
          )
        where
          kept-bytes : keeps ≡ true → (o : Option (List ℕ)) → o ≡ Some bytes → IfSome o (λ x. x ≡ asked_of q file) → bytes ≡ asked_of q file
          kept-bytes k None e some = absurd (none-some bytes e)
          kept-bytes k (Some x) e some = sym (inside x bytes e) ∙ some

      by-got : refused q r ≡ None → (read : Option (List ℕ)) → serves.read ≡ read → HasBytes ⊎ HasNone
      by-got passes None is = inr (has-none Generic (by-read passes None is))
      by-got passes (Some bytes) is = with-bytes passes bytes is (length bytes == natural q.size) refl (has_digest q.hash bytes) refl (by-read passes (Some bytes) is)

      by : (o : Option Code) → refused q r ≡ o → HasBytes ⊎ HasNone
      by (Some code) is = inr (has-none code (by-tests (Some code) is))
      by None is = by-got is serves.read refl

  pub answers-fault : (after ≡ faults → ⊥) → (refused q r ≡ None) × (response ≡ answers_code q Generic)
  answers-fault risen = by serves.read refl
    where
      by : (read : Option (List ℕ)) → serves.read ≡ read → (refused q r ≡ None) × (response ≡ answers_code q Generic)
      by None is = let passes = serves.asked is in (passes, by-read passes None is)
      by (Some bytes) is = absurd (risen (serves.counted ∙ ap (λ o. option_map_or (λ (x : List ℕ). faults) o (one_fault_more faults)) is))
