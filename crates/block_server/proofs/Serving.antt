-- Each way in which a request is answered.
use Rattle.std.proofs.Common.{◌≡◌, ℕ, ◌<◌, ◌≤◌, Bool, true, false, List, [], length, take, drop, refl, sym, ap, subst, ◌∙◌, arith, ◌⊎◌, inl, inr}
use Rattle.std.specs.Prelude.{cond, not, Option, None, Some}
use Rattle.std.specs.Option.{option_map_or}
use Rattle.std.proofs.lemmas.Bool.{true≢false, eq-eqb, ne_eqb}
use Rattle.std.proofs.lemmas.Option.{none-some}
use Rattle.bep_messages.specs.declared.request.Request.{Request}
use Rattle.bep_messages.specs.declared.response.Response.{Response}
use Rattle.sync_record.specs.Infos.{natural}
use Rattle.sync_record.specs.Records.{FileRecord}
use Rattle.block_server.specs.declared.code.Code.{Code}
use Rattle.block_server.specs.declared.code.Code.TheVariants.{Generic, NoSuchFile}
use Rattle.block_server.specs.PartsRead.{ReadsPart}
use Rattle.block_server.specs.Served.{Serves, answers_bytes, answers_code, answers_read, asked_of, has_digest, one_fault_more, refused, served}

module _ (keeps : Bool) (q : Request) (r : Option FileRecord) (file : List ℕ) (faults : ℕ) where
  -- a test refuses it, and the store is not asked
  pub serves-code : (code : Code) → refused q r ≡ Some code → Serves keeps q r file faults (answers_code q code) faults
  serves-code code is = record {
    read = Some (asked_of q file);
    answer_is = sym (ap (λ o. option_map_or (answers_code q) o (answers_read q (Some (asked_of q file)))) is);
    bytes = λ e. refl;
    counted = refl;
    asked = λ e. absurd (none-some (asked_of q file) (sym e));
  }

  module _ (passes : refused q r ≡ None) where
    served-read : (read : Option (List ℕ)) → served q r read ≡ answers_read q read
    served-read read = ap (λ o. option_map_or (answers_code q) o (answers_read q read)) passes

    wrong-size : (bytes : List ℕ) → (length bytes ≡ natural q.size → ⊥) → answers_read q (Some bytes) ≡ answers_code q Generic
    wrong-size bytes other = ap (λ b. cond (not b) (answers_code q Generic) (cond (not (has_digest q.hash bytes)) (answers_code q NoSuchFile) (answers_bytes q bytes)))
        (ne_eqb (length bytes) (natural q.size) other)

    right-size : (bytes : List ℕ) → length bytes ≡ natural q.size → answers_read q (Some bytes) ≡ cond (not (has_digest q.hash bytes)) (answers_code q NoSuchFile) (answers_bytes q bytes)
    right-size bytes same = ap (λ b. cond (not b) (answers_code q Generic) (cond (not (has_digest q.hash bytes)) (answers_code q NoSuchFile) (answers_bytes q bytes)))
        (eq-eqb (length bytes) (natural q.size) same)

    -- the store failed, or has too few bytes
    short : (k : Bool) → keeps ≡ k → 1 ≤ natural q.size → (keeps ≡ true → length (asked_of q file) < natural q.size) → Serves keeps q r file faults (answers_code q Generic) faults
    short true is some less = record {
      read = Some (asked_of q file);
      answer_is = sym (served-read (Some (asked_of q file)) ∙ wrong-size (asked_of q file) (λ e. let lt = less is in omega arith));
      bytes = λ e. refl;
      counted = refl;
      asked = λ e. passes;
    }
    short false is some less = record {
      read = Some [];
      answer_is = sym (served-read (Some []) ∙ wrong-size [] (λ e. omega arith));
      bytes = λ e. absurd (true≢false (sym e ∙ is));
      counted = refl;
      asked = λ e. passes;
    }

    pub serves-none : (offset size after : ℕ) → offset ≡ natural q.offset → size ≡ natural q.size → ReadsPart keeps offset size file faults None after → Serves keeps q r file faults (answers_code q Generic) after
    serves-none offset size after offset_is size_is reads = by reads
      where
        by : (after ≡ one_fault_more faults) ⊎ ((after ≡ faults) × (1 ≤ size) × (keeps ≡ true → length (take size (drop offset file)) < size)) → Serves keeps q r file faults (answers_code q Generic) after
        by (inl failed) = record { read = None; answer_is = sym (served-read None); bytes = λ e. tt; counted = failed; asked = λ e. passes }
        by (inr x) = subst (Serves keeps q r file faults (answers_code q Generic)) (sym x.0)
            (short keeps refl (subst (λ n. 1 ≤ n) size_is x.1)
            (λ e. subst (λ n. length (take n (drop (natural q.offset) file)) < n) size_is (subst (λ o. length (take size (drop o file)) < size) offset_is (x.2 e))))

    module _ (offset size after : ℕ) (offset_is : offset ≡ natural q.offset) (size_is : size ≡ natural q.size) (bytes : List ℕ) (reads : ReadsPart keeps offset size file faults (Some bytes) after) where
      all-read : (response : Response) → cond (not (has_digest q.hash bytes)) (answers_code q NoSuchFile) (answers_bytes q bytes) ≡ response → Serves keeps q r file faults response after
      all-read response is = record {
        read = Some bytes;
        answer_is = sym (served-read (Some bytes) ∙ right-size bytes (reads.0 ∙ size_is) ∙ is);
        bytes = λ e. reads.1 e ∙ ap (λ n. take n (drop offset file)) size_is ∙ ap (λ o. take (natural q.size) (drop o file)) offset_is;
        counted = reads.2;
        asked = λ e. absurd (none-some bytes (sym e));
      }

      pub serves-wrong : has_digest q.hash bytes ≡ false → Serves keeps q r file faults (answers_code q NoSuchFile) after
      serves-wrong wrong = all-read (answers_code q NoSuchFile) (ap (λ b. cond (not b) (answers_code q NoSuchFile) (answers_bytes q bytes)) wrong)

      pub serves-bytes : has_digest q.hash bytes ≡ true → Serves keeps q r file faults (answers_bytes q bytes) after
      serves-bytes right = all-read (answers_bytes q bytes) (ap (λ b. cond (not b) (answers_code q NoSuchFile) (answers_bytes q bytes)) right)
