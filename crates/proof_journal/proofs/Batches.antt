-- Which frames of batches count where they are cut, and what is recovered of them.
use Rattle.std.proofs.Common.{◌≡◌, ℕ, zero, suc, ◌+◌, ◌≤◌, Bool, false, List, [], ◌∷◌, ◌++◌, length, take, refl, sym, ap, subst, ◌∙◌, arith, append_assoc, append-nil, ◌⊎◌, inl, inr}
use Rattle.std.specs.Prelude.{if◌then◌else◌}
use Rattle.std.specs.List.{AllByRecursion}
use Rattle.std.proofs.lemmas.List.{length-append}
use Rattle.folder_calls.specs.Shared.{CallerView, IsLegalView, now}
use Rattle.folder_core.specs.States.{FolderState}
use Rattle.index_sender.specs.Overlay.{KeepsUp}
use Rattle.index_sender.specs.Pages.{Progress}
use Rattle.index_sender.specs.declared.page.Page.{Page}
use Rattle.node_journal.specs.Cuts.{front_of, up_to_whole}
use Rattle.node_journal.specs.declared.frame.Frame.{Frame}
use Rattle.node_saver.specs.Frames.{closing_frame}
use Rattle.node_saver.specs.Saving.{HasAll}
use Rattle.node_saver.specs.declared.frames.SavedFolder.{SavedFolder}
use Rattle.proof_journal.specs.Appended.{AreUpdates, HavePages}
use Rattle.proof_journal.specs.Batches.{AreBatches, Batch, all_frames, at_end, frames_of}
use Rattle.proof_journal.specs.Own.{IsRecoveredBy, SameOwn}
use Rattle.proof_journal.proofs.Joins.{joined-have, none-behind}

-- ---- which frames count

closing-counts : (rest : List Frame) → front_of closing_frame rest ≡ closing_frame ∷ rest
closing-counts [] = refl
closing-counts (g ∷ rest) = refl

before-closing : (g : Frame) (body rest : List Frame) → front_of g (body ++ closing_frame ∷ rest) ≡ g ∷ (body ++ closing_frame ∷ rest)
before-closing g [] rest = refl
before-closing g (x ∷ body) rest = refl

alone : (g : Frame) → g.is_whole ≡ false → front_of g [] ≡ []
alone g is = ap (λ (b : Bool). if b then g ∷ [] else []) is

-- the first so many frames of a batch and of those behind it: the batch doesn't count, or all of it does, and the rest by itself
abbrev Cut : List Frame → List Frame → ℕ → Type 0
Cut body rest n = ((n ≤ length body) × (up_to_whole (take n (body ++ closing_frame ∷ rest)) ≡ []))
    ⊎ ((k : ℕ) × (n ≡ suc (length body + k)) × (up_to_whole (take n (body ++ closing_frame ∷ rest)) ≡ body ++ closing_frame ∷ up_to_whole (take k rest)))

cut-batch : (body rest : List Frame) (n : ℕ) → AllByRecursion (λ g. g.is_whole ≡ false) body → Cut body rest n
cut-batch [] rest zero none = inl (omega arith, refl)
cut-batch [] rest (suc n) none = inr (n, omega arith, closing-counts (up_to_whole (take n rest)))
cut-batch (g ∷ body) rest zero none = inl (omega arith, refl)
cut-batch (g ∷ body) rest (suc n) none = by (cut-batch body rest n none.1)
  where
    by : Cut body rest n → Cut (g ∷ body) rest (suc n)
    by (inl x) = inl ((let few : n ≤ length body = x.0 in omega arith), ap (front_of g) x.1 ∙ alone g none.0)
    by (inr x) = inr (
      x.0,
      (let is : n ≡ suc (length body + x.0) = x.1 in omega arith),
      ap (front_of g) x.2 ∙ before-closing g body (up_to_whole (take x.0 rest)),
    )

-- the frames of a batch and of those behind it
with-first : (b : Batch) (bs : List Batch) → all_frames (b ∷ bs) ≡ b.body ++ closing_frame ∷ all_frames bs
with-first b bs = append_assoc b.body (closing_frame ∷ []) (all_frames bs)

-- one more batch counts
counts-more : (b : Batch) (bs : List Batch) (n k m : ℕ)
    → up_to_whole (take n (b.body ++ closing_frame ∷ all_frames bs)) ≡ b.body ++ closing_frame ∷ up_to_whole (take k (all_frames bs))
    → up_to_whole (take k (all_frames bs)) ≡ all_frames (take m bs)
    → up_to_whole (take n (all_frames (b ∷ bs))) ≡ all_frames (take (suc m) (b ∷ bs))
counts-more b bs n k m here behind =
    ap (λ l. up_to_whole (take n l)) (with-first b bs)
    ∙ here
    ∙ ap (λ l. b.body ++ closing_frame ∷ l) behind
    ∙ sym (with-first b (take m bs))

none-counts : (n : ℕ) → up_to_whole (take n []) ≡ []
none-counts zero = refl
none-counts (suc n) = refl

module _ (f : SavedFolder) (s : FolderState) where
  -- just the first batches count
  first-count : (bs : List Batch) (told : List Page) (n : ℕ) → AreBatches f s told bs → (m : ℕ) × (up_to_whole (take n (all_frames bs)) ≡ all_frames (take m bs))
  first-count [] told n are = (0, none-counts n)
  first-count (b ∷ bs) told n are = by (λ k. first-count bs (told ++ b.pages) k are.1) (cut-batch b.body (all_frames bs) n are.0.none_whole)
    where
      by : ((k : ℕ) → (m : ℕ) × (up_to_whole (take k (all_frames bs)) ≡ all_frames (take m bs))) → Cut b.body (all_frames bs) n
          → (m : ℕ) × (up_to_whole (take n (all_frames (b ∷ bs))) ≡ all_frames (take m (b ∷ bs)))
      by behind (inl x) = (0, ap (λ l. up_to_whole (take n l)) (with-first b bs) ∙ x.1)
      by behind (inr x) = let rest = behind x.0 in (suc rest.0, counts-more b bs n x.0 rest.0 x.2 rest.1)

  -- and among them those of which each frame is left
  pub synced-count : (synced more : List Batch) (told : List Page) (n : ℕ) → AreBatches f s told (synced ++ more) → length (all_frames synced) ≤ n
      → (m : ℕ) × (length synced ≤ m) × (up_to_whole (take n (all_frames (synced ++ more))) ≡ all_frames (take m (synced ++ more)))
  synced-count [] more told n are left = let x = first-count more told n are in (x.0, omega arith, x.1)
  synced-count (b ∷ bs) more told n are left =
      by (λ k fits. synced-count bs more (told ++ b.pages) k are.1 fits) (cut-batch b.body (all_frames (bs ++ more)) n are.0.none_whole)
    where
      long : length b.body + 1 + length (all_frames bs) ≤ n
      long = omega (arith, left, length-append (frames_of b) (all_frames bs), length-append b.body (closing_frame ∷ []))

      by : ((k : ℕ) → length (all_frames bs) ≤ k → (m : ℕ) × (length bs ≤ m) × (up_to_whole (take k (all_frames (bs ++ more))) ≡ all_frames (take m (bs ++ more))))
          → Cut b.body (all_frames (bs ++ more)) n
          → (m : ℕ) × (length (b ∷ bs) ≤ m) × (up_to_whole (take n (all_frames (b ∷ (bs ++ more)))) ≡ all_frames (take m (b ∷ (bs ++ more))))
      by behind (inl x) = absurd (omega (arith, long, x.0))
      by behind (inr x) =
          let fits : length (all_frames bs) ≤ x.0 = omega (arith, long, x.1) in
          let rest = behind x.0 fits in
          (suc rest.0, (let more_than : length bs ≤ rest.0 = rest.1 in omega arith), counts-more b (bs ++ more) n x.0 rest.0 x.2 rest.2)

  -- the first batches are batches
  pub first-batches : (m : ℕ) (bs : List Batch) (told : List Page) → AreBatches f s told bs → AreBatches f s told (take m bs)
  first-batches zero bs told are = tt
  first-batches (suc m) [] told are = tt
  first-batches (suc m) (b ∷ bs) told are = (are.0, first-batches m bs (told ++ b.pages) are.1)

  -- ---- what is recovered

  -- of no frame just what was there
  pub none-recovered : (t : FolderState) → IsRecoveredBy f.id [] s t → SameOwn t s
  none-recovered t is = record { records = λ n. is.own n; last = is.last }

  -- of batches behind those that were told, what the folder was at their end
  module _ (t : FolderState)
      (saved : (v : CallerView) (pages : List Page) (progress : Progress) (frames : List Frame) → IsLegalView v → SameOwn s v.opening → KeepsUp s.last pages progress v →
      HasAll (now v) progress.cursor → AreUpdates pages → HavePages f pages frames → IsRecoveredBy f.id frames s t → SameOwn t (now v)) where
    pub end-recovered : (bs : List Batch) (told : List Page) (frames : List Frame) (before : FolderState) → HavePages f told frames → (IsRecoveredBy f.id frames s t → SameOwn t before)
        → AreBatches f s told bs → IsRecoveredBy f.id (frames ++ all_frames bs) s t → SameOwn t (at_end before bs)
    end-recovered [] told frames before had same are is = same (subst (λ l. IsRecoveredBy f.id l s t) (append-nil frames) is)
    end-recovered (b ∷ bs) told frames before had same are is =
        let batch = are.0 in
        let have : HavePages f (told ++ b.pages) (frames ++ frames_of b) = joined-have f told frames b.pages (frames_of b) had (none-behind f closing_frame tt b.pages b.body batch.have) in
        end-recovered bs (told ++ b.pages) (frames ++ frames_of b) (now b.view) have
        (saved b.view (told ++ b.pages) b.progress (frames ++ frames_of b) batch.legal batch.opened batch.keeps batch.all batch.updates have)
        are.1
        (subst (λ l. IsRecoveredBy f.id l s t) (sym (append_assoc frames (frames_of b) (all_frames bs))) is)
