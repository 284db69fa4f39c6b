-- What a Request is answered (Block Exchange Protocol v1, "Request" and "Response"; the order of the tests is own rule).
use Rattle.std.specs.Prelude.{bytes_eq, ◌≡◌, ℕ, ◌+◌, ◌-◌, ◌^◌, Bool, true, not, ◌&&◌, ◌||◌, ◌==◌, nat_le, if◌then◌else◌, ℤ, pos, List, [], length, take, drop, min, Option, Some, None, is_some, IfSome}
use Rattle.std.specs.Option.{option_map_or}
use Rattle.sha2.specs.Sha256.{sha256}
use Rattle.bep_messages.specs.declared.request.Request.{Request}
use Rattle.bep_messages.specs.declared.response.Response.{Response}
use Rattle.sync_names.specs.Refusal.{refusal}
use Rattle.sync_record.specs.Infos.{is_natural, natural}
use Rattle.sync_record.specs.Records.{FileRecord, is_live_file}
use Rattle.sync_record.specs.Validity.{is_valid}
use Rattle.block_server.specs.declared.code.Code.{Code}
use Rattle.block_server.specs.declared.code.Code.TheVariants.{Generic, NoSuchFile, InvalidFile}

-- the codes of the protocol; 0 is no error
abbrev pub code_number : Code → ℤ
code_number Generic = pos 1
code_number NoSuchFile = pos 2
code_number InvalidFile = pos 3

-- the most bytes of a part: 16 MiB
abbrev pub max_part_size : ℕ
max_part_size = 16777216

-- neither offset nor size is negative, the size is not too large, and the part ends within a file of this size
abbrev pub is_part_of : Request → ℤ → Bool
is_part_of q file_size =
    is_natural q.offset && is_natural q.size && nat_le (natural q.size) max_part_size
    && nat_le (natural q.offset + natural q.size) (natural file_size)

-- a part is given of a valid live file alone, and within it
abbrev pub record_refuses : Request → Option FileRecord → Option Code
record_refuses q None = Some NoSuchFile
record_refuses q (Some r) =
    if not (is_valid r && is_live_file r) then Some NoSuchFile
    else (if not (is_part_of q r.size) then Some InvalidFile else None)

-- the first test that refuses the request, over the local record of its name
abbrev pub refused : Request → Option FileRecord → Option Code
refused q r =
    if q.from_temporary then Some NoSuchFile
    else (if is_some (refusal q.name) then Some InvalidFile else record_refuses q r)

-- no digest was asked for, or the bytes have it
abbrev pub has_digest : List ℕ → List ℕ → Bool
has_digest hash bytes = bytes_eq hash [] || bytes_eq (sha256 bytes) hash

abbrev pub answers_code : Request → Code → Response
answers_code q code = record { id = q.id; payload = []; code = code_number code }

abbrev pub answers_bytes : Request → List ℕ → Response
answers_bytes q bytes = record { id = q.id; payload = bytes; code = pos 0 }

-- after the store was read, which failed or gave bytes
abbrev pub answers_read : Request → Option (List ℕ) → Response
answers_read q None = answers_code q Generic
answers_read q (Some bytes) =
    if not (length bytes == natural q.size) then answers_code q Generic
    else (if not (has_digest q.hash bytes) then answers_code q NoSuchFile else answers_bytes q bytes)

-- the served answer: by the first test that holds
abbrev pub served : Request → Option FileRecord → Option (List ℕ) → Response
served q r read = option_map_or (answers_code q) (refused q r) (answers_read q read)

-- the bytes of a file that are asked for, as many as it has there
abbrev pub asked_of : Request → List ℕ → List ℕ
asked_of q file = take (natural q.size) (drop (natural q.offset) file)

-- the count of faults after one more, up to the greatest value, where it stays
abbrev pub one_fault_more : ℕ → ℕ
one_fault_more faults = min (faults + 1) (2 ^ 64 - 1)

-- A request is answered over the local record of its name, and over what the store gave: nothing only where it failed, which
-- it counts, in a read for a request that no test refuses; and of a store that keeps what is written the file's bytes.
pub record Serves (keeps : Bool) (q : Request) (r : Option FileRecord) (file : List ℕ) (faults : ℕ) (response : Response) (faults_after : ℕ) : Type 0 where
  pub read : Option (List ℕ)
  pub answer_is : response ≡ served q r read
  pub bytes : keeps ≡ true → IfSome read (λ bytes. bytes ≡ asked_of q file)
  pub counted : faults_after ≡ option_map_or (λ bytes. faults) read (one_fault_more faults)
  pub asked : read ≡ None → refused q r ≡ None
