-- The header that bytes begin with.
use Rattle.std.proofs.Common.{◌≡◌, ℕ, List, ◌++◌, length, take, drop, Option, Some, None, true, sym, ap, ◌∙◌, arith, append_assoc, subst}
use Rattle.std.specs.Prelude.{IfSome, bytes_eq}
use Rattle.std.proofs.lemmas.List.{length-append, take-append-drop}
use Rattle.std.proofs.lemmas.Slice.Eq.{bytes_eq-Decides}
use Rattle.std.proofs.Math.Seq.{drop-append_seam}
use Rattle.node_journal.specs.declared.header.JournalHeader.{JournalHeader}
use Rattle.node_journal.specs.Format.{HasDigests, first_line, header_bytes, header_len}
use Rattle.node_journal.specs.Journals.{HasHeader}

-- a list is its parts
pub parted : (n : ℕ) (a front back : List ℕ) → front ≡ take n a → back ≡ drop n a → a ≡ front ++ back
parted n a front back e f = sym (take-append-drop n a) ∙ λ i. sym e i ++ sym f i

-- a header is as long as each
pub header-long : (h : JournalHeader) → HasDigests h → length (header_bytes h) ≡ header_len
header-long h d = omega (arith, length-append h.device h.state_digest, d.device, d.state_digest)

-- what comes after a header
pub after-header : (h : JournalHeader) (rest : List ℕ) → HasDigests h → drop header_len (header_bytes h ++ rest) ≡ rest
after-header h rest d = subst (λ (n : ℕ). drop n (header_bytes h ++ rest) ≡ rest) (header-long h d) (drop-append_seam (header_bytes h) rest)

pub has-header : (h : JournalHeader) (bytes rest : List ℕ) → HasDigests h → bytes ≡ header_bytes h ++ rest → HasHeader h bytes
has-header h bytes rest d e =
    record {
      digests = d;
      begins = e ∙ ap (λ (l : List ℕ). header_bytes h ++ l) (sym (ap (drop header_len) e ∙ after-header h rest d));
    }

pub found-there : (o : Option JournalHeader) (bytes after : List ℕ) → bytes ≡ first_line ++ after → IfSome o (λ h. HasDigests h × ((rest : List ℕ) × (after ≡ h.device ++ h.state_digest ++ rest))) → IfSome o (λ h. HasHeader h bytes)
found-there None bytes after e h = tt
found-there (Some h) bytes after e (d, (rest, is)) =
    has-header h bytes rest d (e ∙ ap (λ (l : List ℕ). first_line ++ l) (is ∙ append_assoc h.device h.state_digest rest) ∙ sym (append_assoc (first_line ++ h.device) h.state_digest rest ∙ append_assoc first_line h.device (h.state_digest ++ rest)))

-- what comes after a beginning
pub after-line : (first text body : List ℕ) → bytes_eq (take (length first) text) first ≡ true → body ≡ drop (length first) text → text ≡ first ++ body
after-line first text body t e = parted (length first) text first body (sym ((bytes_eq-Decides (take (length first) text) first).0 t)) e
