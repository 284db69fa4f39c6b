-- Bytes are read in one way.
use Rattle.std.proofs.Common.{◌≡◌, ℕ, ◌+◌, List, drop, refl, sym, subst, ◌∙◌}
use Rattle.node_journal.specs.declared.found.Found.{Found}
use Rattle.node_journal.specs.declared.found.Found.TheVariants.{Cut, NoFrame, Framed}
use Rattle.node_journal.specs.declared.frame.Frame.{Frame}
use Rattle.node_journal.specs.declared.kept.KeptFrames.{KeptFrames}
use Rattle.node_journal.specs.Reading.{Reads, Ends, Breaks, Goes, frame_at, with_first}

cut-none : {A : Type 0} (x : Found) → x ≡ Cut → x ≡ NoFrame → A
cut-none x e f = absurd (let g : Cut ≡ NoFrame = sym e ∙ f in cc)

cut-one : {A : Type 0} (x : Found) (f : Frame) (size : ℕ) → x ≡ Cut → x ≡ Framed f size → A
cut-one x f size e g = absurd (let h : Cut ≡ Framed f size = sym e ∙ g in cc)

none-one : {A : Type 0} (x : Found) (f : Frame) (size : ℕ) → x ≡ NoFrame → x ≡ Framed f size → A
none-one x f size e g = absurd (let h : NoFrame ≡ Framed f size = sym e ∙ g in cc)

same-frame : (x : Found) (f g : Frame) (m n : ℕ) → x ≡ Framed f m → x ≡ Framed g n → f ≡ g
same-frame x f g m n e h = let same : Framed f m ≡ Framed g n = sym e ∙ h in cc

same-size : (x : Found) (f g : Frame) (m n : ℕ) → x ≡ Framed f m → x ≡ Framed g n → m ≡ n
same-size x f g m n e h = let same : Framed f m ≡ Framed g n = sym e ∙ h in cc

pub one : (header : List ℕ) (offset : ℕ) (bytes : List ℕ) (j k : KeptFrames) → Reads header offset bytes j → Reads header offset bytes k → j ≡ k
one header offset bytes j k (Ends o b e) (Ends p c f) = refl
one header offset bytes j k (Ends o b e) (Breaks p c f) = cut-none (frame_at header o b) e f
one header offset bytes j k (Ends o b e) (Goes p c g size l f r) = cut-one (frame_at header o b) g size e f
one header offset bytes j k (Breaks o b e) (Ends p c f) = cut-none (frame_at header o b) f e
one header offset bytes j k (Breaks o b e) (Breaks p c f) = refl
one header offset bytes j k (Breaks o b e) (Goes p c g size l f r) = none-one (frame_at header o b) g size e f
one header offset bytes j k (Goes o b h m i e q) (Ends p c f) = cut-one (frame_at header o b) h m f e
one header offset bytes j k (Goes o b h m i e q) (Breaks p c f) = none-one (frame_at header o b) h m f e
one header offset bytes j k (Goes o b h m i e q) (Goes p c g n l f r) =
    let size : m ≡ n = same-size (frame_at header o b) h g m n e f in
    let frame : h ≡ g = same-frame (frame_at header o b) h g m n e f in
    let rest : i ≡ l = one header (o + m) (drop m b) i l q (subst (λ (s : ℕ). Reads header (o + s) (drop s b) l) (sym size) r) in
    λ t. with_first (frame t) o (size t) (rest t)
