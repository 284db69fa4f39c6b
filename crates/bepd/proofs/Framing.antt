-- One more frame, and one more piece, of what was received.
use Rattle.std.proofs.Common.{◌≡◌, ℕ, ◌+◌, ◌≤◌, ◌<◌, Bool, true, false, List, [], ◌∷◌, ◌++◌, length, Some, None, Ok, Err, sym, ap, subst, ◌∙◌, inl, inr, arith, append-nil}
use Rattle.std.specs.Prelude.{bytes_eq, if◌then◌else◌, flat_map, filter, not}
use Rattle.std.specs.FinMap.{get}
use Rattle.std.proofs.lemmas.List.{length-append}
use Rattle.std.proofs.lemmas.List.Concat.{flat_map-append}
use Rattle.std.proofs.lemmas.List.Elements.{filter-append}
use Rattle.std.proofs.lemmas.List.Sums.{fold-append}
use Rattle.bep_frames.specs.declared.fault.FrameFault.{FrameFault}
use Rattle.bep_frames.specs.declared.fault.FrameFault.TheVariants.{OutOfMemory}
use Rattle.bep_frames.specs.declared.frame.Frame.{Frame}
use Rattle.bep_frames.specs.declared.frame.Frame.TheVariants.{Hello, Message as MessageFrame, Unknown}
use Rattle.bep_frames.specs.declared.frame.Message.TheVariants.{ClusterConfig, Index, IndexUpdate, Request, Response, DownloadProgress, Ping, Close}
use Rattle.bep_frames.specs.Grammar.{Begins}
use Rattle.bep_frames.specs.State.{State, fed, Gives, remaining, with_front}
use Rattle.bep_frames.specs.Stream.{ended}
use Rattle.bep_frames.proofs.Lemmas.{front_push, given_error_keeps, given_fault, given_frame, given_none, given_shorter, index_records_few, update_records_few}
use Rattle.bep_messages.specs.declared.file_info.FileInfo.{FileInfo}
use Rattle.folder_core.specs.Announced.{IsNamed, Key}
use Rattle.folder_core.specs.States.{FolderState, empty_folder}
use Rattle.folder_core.specs.declared.answer.Answer.{Answer}
use Rattle.folder_core.specs.declared.change.Change.{Change}
use Rattle.folder_core.specs.declared.change.Change.TheVariants.{IndexFull, IndexMore}
use Rattle.folder_core.specs.Steps.{step}
use Rattle.folder_core.proofs.Lemmas.{IsOneOrWas, full-names, more-names}
use Rattle.sync_record.specs.Records.{FileRecord}
use Rattle.bepd.specs.Received.{own_device, peer, is_kept, kept_records, skipped_records, frame_changes, frame_files, changed, folder_after, skipped_count}
use Rattle.bepd.specs.Progress.{IsReceived, IsReceivedOf, Leaves}

-- ---- a frame

abbrev after : FolderState → Change → FolderState
after s change = (step s change).1

-- the folder after one more frame
folder_more : (folder : List ℕ) (frames : List Frame) (f : Frame) → folder_after folder (frames ++ f ∷ []) ≡ changed (folder_after folder frames) (frame_changes folder f)
folder_more folder frames f =
    let start = empty_folder own_device in
    let one : flat_map (frame_changes folder) (f ∷ []) ≡ frame_changes folder f = append-nil (frame_changes folder f) in
    ap (changed start) (flat_map-append (frame_changes folder) frames (f ∷ []) ∙ ap (λ l. flat_map (frame_changes folder) frames ++ l) one)
    ∙ fold-append after start (flat_map (frame_changes folder) frames) (frame_changes folder f)

-- and how many records are skipped
count_more : (folder : List ℕ) (frames : List Frame) (f : Frame) → skipped_count folder (frames ++ f ∷ []) ≡ skipped_count folder frames + length (skipped_records (frame_files folder f))
count_more folder frames f =
    let skips = λ (info : FileInfo). not (is_kept info) in
    let before = flat_map (frame_files folder) frames in
    let one : flat_map (frame_files folder) (f ∷ []) ≡ frame_files folder f = append-nil (frame_files folder f) in
    ap (λ l. length (filter skips l)) (flat_map-append (frame_files folder) frames (f ∷ []) ∙ ap (λ l. before ++ l) one)
    ∙ ap length (filter-append skips before (frame_files folder f))
    ∙ length-append (filter skips before) (filter skips (frame_files folder f))

module _ (folder : List ℕ) (frames : List Frame) (f : Frame) (s new : FolderState) (skipped count : ℕ) (files : List FileInfo) where
  frame_received : new ≡ changed s (frame_changes folder f) → frame_files folder f ≡ files → count ≡ skipped + length (skipped_records files)
      → IsNamed new.announced → IsReceived folder frames s skipped → IsReceived folder (frames ++ f ∷ []) new count
  frame_received changes announced counts named h = record {
    state = changes ∙ ap (λ t. changed t (frame_changes folder f)) h.state ∙ sym (folder_more folder frames f);
    named = named;
    counted = counts ∙ ap (λ n. n + length (skipped_records files)) h.counted
        ∙ ap (λ l. skipped_count folder frames + length (skipped_records l)) (sym announced) ∙ sym (count_more folder frames f);
  }

  name_of : (k : Key) (r : FileRecord) → IsOneOrWas s.announced (kept_records files) k r → IsNamed s.announced → r.name ≡ k.name
  name_of k r (inl one) named = one.1
  name_of k r (inr was) named = named k r was

  pub full_received : (records : List FileRecord) (answer : Answer) → frame_changes folder f ≡ IndexFull peer (kept_records files) ∷ [] → frame_files folder f ≡ files → records ≡ kept_records files
      → step s (IndexFull peer records) ≡ (answer, new) → count ≡ skipped + length (skipped_records files)
      → IsReceived folder frames s skipped → IsReceived folder (frames ++ f ∷ []) new count
  full_received records answer changes announced kept stepped counts h =
      let made : new ≡ after s (IndexFull peer (kept_records files)) =
      ap (λ (p : Answer × FolderState). p.1) (sym stepped) ∙ ap (λ rs. after s (IndexFull peer rs)) kept in
      frame_received (made ∙ ap (changed s) (sym changes)) announced counts
      (λ k r e. name_of k r (full-names s peer (kept_records files) k r (ap (λ (t : FolderState). get t.announced k) (sym made) ∙ e)) h.named) h

  pub more_received : (records : List FileRecord) (answer : Answer) → frame_changes folder f ≡ IndexMore peer (kept_records files) ∷ [] → frame_files folder f ≡ files → records ≡ kept_records files
      → step s (IndexMore peer records) ≡ (answer, new) → count ≡ skipped + length (skipped_records files)
      → IsReceived folder frames s skipped → IsReceived folder (frames ++ f ∷ []) new count
  more_received records answer changes announced kept stepped counts h =
      let made : new ≡ after s (IndexMore peer (kept_records files)) =
      ap (λ (p : Answer × FolderState). p.1) (sym stepped) ∙ ap (λ rs. after s (IndexMore peer rs)) kept in
      frame_received (made ∙ ap (changed s) (sym changes)) announced counts
      (λ k r e. name_of k r (more-names s peer (kept_records files) k r (ap (λ (t : FolderState). get t.announced k) (sym made) ∙ e)) h.named) h

-- ---- the frames that a reader gives

files_by : (b : Bool) (files : List FileInfo) (left all : ℕ) → length files + left < all → left < all → length (if b then files else []) + left ≤ all
files_by true files left all few less = omega (arith, few)
files_by false files left all few less = omega (arith, less)

-- the records of the folder in a frame are fewer than its bytes
files_few : (folder bytes rest : List ℕ) (f : Frame) → Begins false bytes f rest → length rest < length bytes → length (frame_files folder f) + length rest ≤ length bytes
files_few folder bytes rest (Hello m) e less = omega (arith, less)
files_few folder bytes rest (Unknown k) e less = omega (arith, less)
files_few folder bytes rest (MessageFrame (ClusterConfig m)) e less = omega (arith, less)
files_few folder bytes rest (MessageFrame (Request m)) e less = omega (arith, less)
files_few folder bytes rest (MessageFrame (Response m)) e less = omega (arith, less)
files_few folder bytes rest (MessageFrame (DownloadProgress m)) e less = omega (arith, less)
files_few folder bytes rest (MessageFrame (Ping m)) e less = omega (arith, less)
files_few folder bytes rest (MessageFrame (Close m)) e less = omega (arith, less)
files_few folder bytes rest (MessageFrame (Index m)) e less = files_by (bytes_eq m.folder folder) m.files (length rest) (length bytes) (index_records_few bytes rest m e) less
files_few folder bytes rest (MessageFrame (IndexUpdate m)) e less = files_by (bytes_eq m.folder folder) m.files (length rest) (length bytes) (update_records_few bytes rest m e) less

pub given_few : (folder : List ℕ) (old new : State) (f : Frame) → old.hello ≡ false → Gives old (Some (Ok f)) new → length (frame_files folder f) + length new.rest ≤ length old.rest
given_few folder old new f later gives =
    files_few folder old.rest new.rest f (subst (λ due. Begins due old.rest f new.rest) later gives.1) (given_shorter old new f gives)

pub receives_frame : (folder bytes : List ℕ) (old new : State) (f : Frame) (s t : FolderState) (m n : ℕ) → Gives old (Some (Ok f)) new
    → ((frames : List Frame) → IsReceived folder frames s m → IsReceived folder (frames ++ f ∷ []) t n) → n ≤ m + length (frame_files folder f)
    → IsReceivedOf folder bytes old s m → IsReceivedOf folder bytes new t n
receives_frame folder bytes old new f s t m n gives received count h =
    let few = given_few folder old new f h.later gives in
    record {
      frames = h.frames ++ f ∷ [];
      received = received h.frames h.received;
      remains = λ rest. front_push h.frames f (remaining (fed new rest)) ∙ ap (with_front h.frames) (sym (given_frame old new f rest gives)) ∙ h.remains rest;
      fits = omega (arith, few, count, h.fits);
      later = gives.2;
    }

-- ---- what ends the reading

pub receives_fault : (folder bytes : List ℕ) (old new : State) (e : FrameFault) (s : FolderState) (n : ℕ) → Gives old (Some (Err e)) new → (e ≡ OutOfMemory → ⊥)
    → IsReceivedOf folder bytes old s n → IsReceivedOf folder bytes new s n
receives_fault folder bytes old new e s n gives not h =
    let kept = given_error_keeps old new e gives in
    let same : length new.rest ≡ length old.rest = ap length kept.0 in
    record {
      frames = h.frames;
      received = h.received;
      remains = λ more. ap (with_front h.frames) (given_fault old new e more gives not).0 ∙ h.remains more;
      fits = omega (arith, same, h.fits);
      later = kept.1 ∙ h.later;
    }

pub leaves_fault : (old new : State) (e : FrameFault) → Gives old (Some (Err e)) new → (e ≡ OutOfMemory → ⊥) → Leaves new (Some e)
leaves_fault old new e gives not = λ more. (given_fault old new e more gives not).1

pub leaves_none : (old new : State) → Gives old None new → Leaves new None
leaves_none old new gives = subst (λ (t : State). remaining (fed t []) ≡ ended (Ok t.rest)) (sym gives.2) (given_none old new gives)
