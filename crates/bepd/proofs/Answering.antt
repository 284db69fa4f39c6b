-- What is answered of a stream that was read, once its listing was written.
use Rattle.std.proofs.Common.{◌≡◌, ℕ, ◌≤◌, false, List, [], ◌++◌, length, Option, Some, None, Result, Ok, Err, IfSome, refl, sym, ap, subst, ◌∙◌}
use Rattle.std.proofs.KnownBytes.{Appends-nil, Keeps-refl}
use Rattle.std.proofs.lemmas.Bool.{true≢false}
use Rattle.std.specs.Prelude.{is_some}
use Rattle.std.specs.FinMap.{get, get-empty}
use Rattle.std.specs.Io.KnownBytes.{Appends, Consumes}
use Rattle.bep_frames.specs.declared.fault.FrameFault.{FrameFault}
use Rattle.bep_frames.specs.Stream.{Stream, stream}
use Rattle.folder_core.specs.Announced.{Key, key_cmp}
use Rattle.folder_core.specs.States.{FolderState, empty_folder}
use Rattle.sync_record.specs.Records.{FileRecord}
use Rattle.bepd.specs.declared.ending.Ending.{Ending}
use Rattle.bepd.specs.declared.ending.Ending.TheVariants.{Done, Rest, Fault, Failed}
use Rattle.bepd.specs.declared.ending.Failure.{Failure}
use Rattle.bepd.specs.declared.ending.Failure.TheVariants.{OutOfMemory, Read, Write}
use Rattle.bepd.specs.Counts.{Input, Output, Reads}
use Rattle.bepd.specs.Endings.{IsEndOf, StopsAtFault, TellsFailedRead, TellsFailedWrite, WritesFront, failed_writes_after, max_input_bytes}
use Rattle.bepd.specs.Received.{own_device, folder_after}
use Rattle.bepd.specs.Lines.{skipped_line}
use Rattle.bepd.specs.Listing.{Answers, best_lines, listing, listing_of}
use Rattle.bepd.specs.Progress.{IsReceived, IsRead}

-- the empty folder announces nothing
none_found : (k : Key) (r : FileRecord) → get (empty_folder own_device).announced k ≡ Some r → ⊥
none_found k r e = true≢false (ap is_some (sym e ∙ get-empty key_cmp k))

-- nothing was received of the empty folder
pub received_nothing : (folder : List ℕ) (s : FolderState) (n : ℕ) → s ≡ empty_folder own_device → n ≡ 0 → IsReceived folder [] s n
received_nothing folder s n e none = record {
  state = e;
  named = λ k r i. absurd (none_found k r (ap (λ (t : FolderState). get t.announced k) (sym e) ∙ i));
  counted = none;
}

-- the listing of what was received
listing_received : (folder bytes : List ℕ) (s : FolderState) (n : ℕ) → IsReceived folder (stream false bytes).frames s n → best_lines s ++ skipped_line n ≡ listing folder bytes
listing_received folder bytes s n h =
    ap (λ t. best_lines t ++ skipped_line n) h.state ∙ ap (λ m. best_lines (folder_after folder (stream false bytes).frames) ++ skipped_line m) h.counted

answered : (folder bytes : List ℕ) (ending : Ending) (old new : Option (List ℕ)) → length bytes ≤ max_input_bytes → IsEndOf (stream false bytes).end ending → StopsAtFault bytes ending → Appends old new (listing folder bytes) → Answers folder bytes ending old new
answered folder bytes Done old new within end stops written = (within, end, stops, written)
answered folder bytes (Rest n) old new within end stops written = (within, end, stops, written)
answered folder bytes (Fault e) old new within end stops written = (within, end, stops, written)
answered folder bytes (Failed f) old new within end stops written = absurd (not_failed (stream false bytes).end f end)
  where
    not_failed : (end : Result (List ℕ) FrameFault) (f : Failure) → IsEndOf end (Failed f) → ⊥
    not_failed (Ok rest) f e = e
    not_failed (Err e') f e = e

-- no read failed, where the stream ended, or where something else did
none_read : (ending : Ending) (end : Result (List ℕ) FrameFault) (bytes : List ℕ) (a b : Input) → IsEndOf end ending → b.failed ≡ a.failed → TellsFailedRead ending bytes a b
none_read Done end bytes a b e none = none
none_read (Rest n) end bytes a b e none = none
none_read (Fault f) end bytes a b e none = none
none_read (Failed f) (Ok rest) bytes a b e none = absurd e
none_read (Failed f) (Err g) bytes a b e none = absurd e

none_read_failed : (failure : Failure) (bytes : List ℕ) (a b : Input) → (failure ≡ Read → ⊥) → b.failed ≡ a.failed → TellsFailedRead (Failed failure) bytes a b
none_read_failed OutOfMemory bytes a b ne none = none
none_read_failed Read bytes a b ne none = absurd (ne refl)
none_read_failed Write bytes a b ne none = none

-- what a writer counted of a listing
pub write_told : (end : Result (List ℕ) FrameFault) (ending : Ending) (a b : Output) → IsEndOf end ending → b.failed ≡ a.failed → TellsFailedWrite ending a b
write_told end Done a b e none = none
write_told end (Rest n) a b e none = none
write_told end (Fault f) a b e none = none
write_told (Ok rest) (Failed f) a b e none = absurd e
write_told (Err g) (Failed f) a b e none = absurd e

pub write_failed : (failure : Failure) (a b : Output) → b.failed ≡ failed_writes_after (Err failure) a.failed → TellsFailedWrite (Failed failure) a b
write_failed OutOfMemory a b e = e
write_failed Read a b e = e
write_failed Write a b e = e

module _ (folder : List ℕ) (a b : Input) (ending : Ending) (s : FolderState) (n : ℕ) (h : IsRead folder a b ending s n) where
  pub listed : (old new : Option (List ℕ)) → Appends old new (best_lines s ++ skipped_line n) → (bytes : List ℕ) × Reads bytes a b × TellsFailedRead ending bytes a b × Answers folder bytes ending old new
  listed old new written =
      (h.bytes, h.reads, none_read ending (stream false h.bytes).end h.bytes a b h.end h.none_failed, answered folder h.bytes ending old new h.within h.end h.stops (subst (Appends old new) (listing_received folder h.bytes s n h.received) written))

  abbrev IsKnown : Option (List ℕ) → Option (List ℕ) → List ℕ → Type 0
  IsKnown old new input = IsEndOf (stream false input).end ending × Appends old new (listing folder input)

  pub known : (old new : Option (List ℕ)) → Appends old new (best_lines s ++ skipped_line n) → IfSome a.left (λ input. IsEndOf (stream false input).end ending × Appends old new (listing folder input))
  known old new written =
      by a.left b.left h.reads.taken h.whole (h.end, subst (Appends old new) (listing_received folder h.bytes s n h.received) written)
    where
      by : (a b : Option (List ℕ)) → Consumes a b h.bytes → IfSome b (λ rest. stream false (h.bytes ++ rest) ≡ stream false h.bytes) → IsKnown old new h.bytes → IfSome a (IsKnown old new)
      by None b taken whole p = tt
      by (Some input) None taken whole p = absurd taken
      by (Some input) (Some rest) taken whole p =
          let same : stream false h.bytes ≡ stream false input = sym whole ∙ ap (stream false) (sym taken) in
          (subst (λ (t : Stream). IsEndOf t.end ending) same p.0, subst (λ (t : Stream). Appends old new (listing_of folder t.frames)) same p.1)

  pub failed_writing : (failure : Failure) (old new : Option (List ℕ)) → WritesFront failure (best_lines s ++ skipped_line n) old new → (failure ≡ Read → ⊥) → (bytes : List ℕ) × Reads bytes a b × TellsFailedRead (Failed failure) bytes a b × WritesFront failure (listing folder bytes) old new
  failed_writing failure old new front ne = (h.bytes, h.reads, none_read_failed failure h.bytes a b ne h.none_failed, subst (λ l. WritesFront failure l old new) (listing_received folder h.bytes s n h.received) front)

-- nothing was written
pub untouched : (failure : Failure) (bytes : List ℕ) (old : Option (List ℕ)) → WritesFront failure bytes old old
untouched OutOfMemory bytes old = ([], bytes, refl, Appends-nil old)
untouched Read bytes old = Keeps-refl old
untouched Write bytes old = ([], bytes, refl, Appends-nil old)

-- and no write failed
pub no_write_failed : (failure : Failure) (o : Output) → (failure ≡ Write → ⊥) → TellsFailedWrite (Failed failure) o o
no_write_failed OutOfMemory o ne = refl
no_write_failed Read o ne = refl
no_write_failed Write o ne = absurd (ne refl)
