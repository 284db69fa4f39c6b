-- Frames behind frames.
use Rattle.std.proofs.Common.{◌≡◌, ℕ, ◌+◌, ◌<◌, List, [], ◌∷◌, ◌++◌, length, get_or, take, ap, subst, sym, ◌∙◌, append_assoc, arith}
use Rattle.std.specs.List.{AllZip}
use Rattle.std.proofs.lemmas.List.{append-nil, length-append, take_more}
use Rattle.bepd_run.specs.Begun.{Begins, IsPlansFrame}
use Rattle.node_saver.specs.Frames.{closing_frame}
use Rattle.bepd_run.specs.declared.last_run.FolderPlans.{FolderPlans}
use Rattle.node_journal.specs.Format.{frame_bytes, frames_bytes, header_bytes, header_len, journal_bytes}
use Rattle.node_journal.specs.declared.frame.Frame.{Frame}
use Rattle.node_journal.specs.declared.header.JournalHeader.{JournalHeader}

frames-push : (header : List ℕ) (offset at : ℕ) (fs : List Frame) (f : Frame) → at ≡ offset + length (frames_bytes header offset fs)
    → frames_bytes header offset (fs ++ f ∷ []) ≡ frames_bytes header offset fs ++ frame_bytes header at f
frames-push header offset at [] f e = append-nil (frame_bytes header offset f) ∙ ap (λ (n : ℕ). frame_bytes header n f) (omega (arith, e))
frames-push header offset at (g ∷ fs) f e =
    let first = frame_bytes header offset g in
    let rest = frames_bytes header (offset + length first) fs in
    ap (λ (l : List ℕ). first ++ l) (frames-push header (offset + length first) at fs f (omega (arith, e, length-append first rest)))
    ∙ sym (append_assoc first rest (frame_bytes header at f))

-- one more frame behind a journal
pub journal-push : (h : JournalHeader) (fs : List Frame) (f : Frame) → length (header_bytes h) ≡ header_len
    → journal_bytes h fs ++ frame_bytes (header_bytes h) (length (journal_bytes h fs)) f ≡ journal_bytes h (fs ++ f ∷ [])
journal-push h fs f long =
    let header = header_bytes h in
    let bytes = frames_bytes header header_len fs in
    append_assoc header bytes (frame_bytes header (length (header ++ bytes)) f)
    ∙ ap (λ (l : List ℕ). header ++ l) (sym (frames-push header header_len (length (header ++ bytes)) fs f (omega (arith, long, length-append header bytes))))

pub zip-push : {A B : Type 0} (R : A → B → Type 0) (xs : List A) (ys : List B) (x : A) (y : B) → AllZip R xs ys → R x y → AllZip R (xs ++ x ∷ []) (ys ++ y ∷ [])
zip-push R [] [] x y all r = (r, tt)
zip-push R [] (b ∷ ys) x y all r = absurd all
zip-push R (a ∷ xs) [] x y all r = absurd all
zip-push R (a ∷ xs) (b ∷ ys) x y all r = (all.0, zip-push R xs ys x y all.1 r)

-- a frame for each of these folders, in these bytes
abbrev pub HasFrames : JournalHeader → List FolderPlans → List ℕ → Type 0
HasFrames h plans bytes = (frames : List Frame) × AllZip IsPlansFrame plans frames × (bytes ≡ journal_bytes h frames)

-- and for one more
pub frames-more : (h : JournalHeader) (plans : List FolderPlans) (i : ℕ) (f : FolderPlans) (frame : Frame) (old new : List ℕ) → length (header_bytes h) ≡ header_len
    → i < length plans → f ≡ get_or plans i f → HasFrames h (take i plans) old → IsPlansFrame f frame
    → new ≡ old ++ frame_bytes (header_bytes h) (length old) frame → HasFrames h (take (i + 1) plans) new
frames-more h plans i f frame old new long lt at has is e =
    let taken : take (i + 1) plans ≡ take i plans ++ f ∷ [] = take_more plans i f lt ∙ ap (λ (g : FolderPlans). take i plans ++ g ∷ []) (sym at) in (
      has.0 ++ frame ∷ [],
      subst (λ (l : List FolderPlans). AllZip IsPlansFrame l (has.0 ++ frame ∷ [])) (sym taken) (zip-push IsPlansFrame (take i plans) has.0 f frame has.1 is),
      e ∙ ap (λ (l : List ℕ). l ++ frame_bytes (header_bytes h) (length l) frame) has.2 ∙ journal-push h has.0 frame long,
    )

-- the frame that ends the batch, behind those of some folders
pub closed-some : (h : JournalHeader) (plans : List FolderPlans) (old new : List ℕ) → length (header_bytes h) ≡ header_len → 0 < length plans → HasFrames h plans old
    → new ≡ old ++ frame_bytes (header_bytes h) (length old) closing_frame → Begins h plans new
closed-some h [] old new long some has e = absurd (omega (arith, some))
closed-some h (p ∷ ps) old new long some ([], all, is) e = absurd all
closed-some h (p ∷ ps) old new long some (f ∷ fs, all, is) e =
    (f ∷ fs, all, e ∙ ap (λ (l : List ℕ). l ++ frame_bytes (header_bytes h) (length l) closing_frame) is ∙ journal-push h (f ∷ fs) closing_frame long)

-- and of none
pub closed-none : (h : JournalHeader) (plans : List FolderPlans) (bytes : List ℕ) → length plans ≡ 0 → HasFrames h plans bytes → Begins h plans bytes
closed-none h [] bytes none ([], all, is) = ([], all, is)
closed-none h [] bytes none (f ∷ fs, all, is) = absurd all
closed-none h (p ∷ ps) bytes none has = absurd (omega (arith, none))
