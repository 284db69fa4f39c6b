-- How a Request waits for its Response (own rule).
use Rattle.std.specs.Prelude.{ℕ, [], ◌∷◌, if◌then◌else◌, length, nat_le}
use Rattle.bep_messages.specs.declared.request.Request.{Request}

-- the longest name, and the longest digest
abbrev pub max_request_name_bytes : ℕ
max_request_name_bytes = 4096

abbrev pub digest_bytes : ℕ
digest_bytes = 32

-- without the folder's id; one whose name is longer has none, and one whose digest is longer has one that no bytes have
abbrev pub shortened : Request → Request
shortened r =
    record r {
      folder = [];
      name = if nat_le (length r.name) max_request_name_bytes then r.name else [];
      hash = if nat_le (length r.hash) digest_bytes then r.hash else 0 ∷ [];
    }
