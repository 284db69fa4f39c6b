-- What is read, where frames were read before.
use Rattle.std.proofs.Common.{◌≡◌, ℕ, ◌+◌, Bool, true, false, List, [], ◌∷◌, ◌++◌, length, take, drop, refl, sym, ap, subst, ◌∙◌}
use Rattle.std.specs.Prelude.{◌==◌, if◌then◌else◌}
use Rattle.node_journal.specs.declared.found.Found.TheVariants.{Framed}
use Rattle.node_journal.specs.declared.frame.Frame.{Frame}
use Rattle.node_journal.specs.declared.kept.KeptFrames.{KeptFrames}
use Rattle.node_journal.specs.declared.run.Run.{Run}
use Rattle.node_journal.specs.Reading.{Reads, Ends, Breaks, Goes, counted, frame_at, nothing, torn, with_first}
use Rattle.node_journal.specs.Runs.{joined, joined_to}

chosen-len : (b : Bool) (f : Frame) (offset : ℕ) (size : ℕ) (k : KeptFrames) → let r : KeptFrames = if b then record { frames = f ∷ []; len = offset + size; end = k.end } else nothing offset (torn k.end) in r.frames ≡ [] → r.len ≡ offset
chosen-len true f offset size k e = absurd cc
chosen-len false f offset size k e = refl

counted-len : (f : Frame) (offset size : ℕ) (k : KeptFrames) (fs : List Frame) → (counted f offset size k fs).frames ≡ [] → (counted f offset size k fs).len ≡ offset
counted-len f offset size k [] e = chosen-len f.is_whole f offset size k e
counted-len f offset size k (g ∷ gs) e = absurd cc

-- where no frame counts, they end where they begin
pub none-len : (header : List ℕ) (offset : ℕ) (bytes : List ℕ) (k : KeptFrames) → Reads header offset bytes k → k.frames ≡ [] → k.len ≡ offset
none-len header offset bytes k (Ends at rest e) none = refl
none-len header offset bytes k (Breaks at rest e) none = refl
none-len header offset bytes k (Goes at rest f size l e r) none = counted-len f at size l l.frames none

start-to : (run : Run) (k : KeptFrames) (fs : List Frame) → k.frames ≡ fs → run.frames.items ≡ [] → run.count ≡ 0 → (fs ≡ [] → run.len ≡ k.len) → joined_to run k fs ≡ k
start-to run k [] e none zero len = λ i. record {
  frames = (ap (λ (n : ℕ). take n run.frames.items) zero ∙ sym e) i;
  len = len refl i;
  end = if zero i == length (none i) then k.end else torn k.end;
}
start-to run k (g ∷ gs) e none zero len = λ i. record {
  frames = (ap (λ (l : List Frame). l ++ g ∷ gs) none ∙ sym e) i;
  len = k.len;
  end = k.end;
}

-- before the first frame
pub start-joined : (header bytes : List ℕ) (run : Run) (k : KeptFrames) → run.frames.items ≡ [] → run.count ≡ 0 → Reads header run.len bytes k → joined run k ≡ k
start-joined header bytes run k none zero reads =
    start-to run k k.frames refl none zero (λ e. sym (none-len header run.len bytes k reads e))

-- one frame more
pub goes-on : (header all bytes : List ℕ) (start at size next : ℕ) (old new : Run) (f : Frame) →
    ((k : KeptFrames) → Reads header at (drop at bytes) k → Reads header start all (joined old k)) →
    Framed f size ≡ frame_at header at (drop at bytes) → next ≡ at + size → drop size (drop at bytes) ≡ drop (at + size) bytes →
    ((k : KeptFrames) → joined new k ≡ joined old (with_first f at size k)) →
    (k : KeptFrames) → Reads header next (drop next bytes) k → Reads header start all (joined new k)
goes-on header all bytes start at size next old new f before found is further join k reads =
    let there : Reads header (at + size) (drop (at + size) bytes) k = subst (λ (n : ℕ). Reads header n (drop n bytes) k) is reads in
    let behind : Reads header (at + size) (drop size (drop at bytes)) k = subst (λ (l : List ℕ). Reads header (at + size) l k) (sym further) there in
    subst (Reads header start all) (sym (join k)) (before (with_first f at size k) (Goes at (drop at bytes) f size k (sym found) behind))
