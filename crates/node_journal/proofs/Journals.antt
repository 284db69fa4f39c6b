-- Bytes are one journal at most.
use Rattle.std.proofs.Common.{◌≡◌, ℕ, List, ◌++◌, length, take, drop, sym, ap, subst, ◌∙◌, append_assoc}
use Rattle.std.proofs.Math.Seq.{drop-append_seam, take-append_seam}
use Rattle.sync_record.specs.Devices.{Identity}
use Rattle.node_journal.specs.declared.header.JournalHeader.{JournalHeader}
use Rattle.node_journal.specs.declared.reading.Journal.{Journal}
use Rattle.node_journal.specs.Format.{header_bytes, header_len}
use Rattle.node_journal.specs.Journals.{HasHeader, IsJournal}
use Rattle.node_journal.specs.Reading.{Reads}
use Rattle.node_journal.proofs.Once.{one}

-- the first and the second 32 bytes after the first line
device-at : (a b rest : List ℕ) → length a ≡ 32 → take 32 ((a ++ b) ++ rest) ≡ a
device-at a b rest is =
    ap (take 32) (append_assoc a b rest) ∙ subst (λ (n : ℕ). take n (a ++ (b ++ rest)) ≡ a) is (take-append_seam a (b ++ rest))

digest-at : (a b rest : List ℕ) → length a ≡ 32 → length b ≡ 32 → take 32 (drop 32 ((a ++ b) ++ rest)) ≡ b
digest-at a b rest is long =
    ap (λ (l : List ℕ). take 32 (drop 32 l)) (append_assoc a b rest)
    ∙ ap (take 32) (subst (λ (n : ℕ). drop n (a ++ (b ++ rest)) ≡ b ++ rest) is (drop-append_seam a (b ++ rest)))
    ∙ subst (λ (n : ℕ). take n (b ++ rest) ≡ b) long (take-append_seam b rest)

device-is : (h : JournalHeader) (bytes : List ℕ) → HasHeader h bytes → take 32 (drop 15 bytes) ≡ h.device
device-is h bytes has =
    ap (λ (l : List ℕ). take 32 (drop 15 l)) has.begins ∙ device-at h.device h.state_digest (drop header_len bytes) has.digests.device

digest-is : (h : JournalHeader) (bytes : List ℕ) → HasHeader h bytes → take 32 (drop 32 (drop 15 bytes)) ≡ h.state_digest
digest-is h bytes has =
    ap (λ (l : List ℕ). take 32 (drop 32 (drop 15 l))) has.begins ∙ digest-at h.device h.state_digest (drop header_len bytes) has.digests.device has.digests.state_digest

pub one-header : (g h : JournalHeader) (bytes : List ℕ) → HasHeader g bytes → HasHeader h bytes → g ≡ h
one-header g h bytes p q = λ i. record {
  device = (sym (device-is g bytes p) ∙ device-is h bytes q) i;
  state_digest = (sym (digest-is g bytes p) ∙ digest-is h bytes q) i;
}

pub one-journal : (me : Identity) (bytes : List ℕ) (i j : Journal) → IsJournal me bytes i → IsJournal me bytes j → i ≡ j
one-journal me bytes i j p q =
    let header : i.header ≡ j.header = one-header i.header j.header bytes p.header q.header in
    let there : Reads (header_bytes j.header) header_len (drop header_len bytes) i.kept = subst (λ (h : JournalHeader). Reads (header_bytes h) header_len (drop header_len bytes) i.kept) header p.frames in
    let kept : i.kept ≡ j.kept = one (header_bytes j.header) header_len (drop header_len bytes) i.kept j.kept there q.frames in
    λ t. record { header = header t; kept = kept t }
