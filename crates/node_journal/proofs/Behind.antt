-- Frames behind a mark.
use Rattle.std.proofs.Common.{◌≡◌, ℕ, zero, suc, ◌+◌, ◌<◌, ◌≤◌, Bool, List, [], ◌∷◌, length, drop, get_or, Option, Some, None, sym, ap, ◌∙◌, add-one}
use Rattle.std.specs.Prelude.{bytes_eq, if◌then◌else◌}
use Rattle.std.proofs.Math.Seq.{drop-cons}
use Rattle.std.proofs.Math.ListN.{drop_of_length-le}
use Rattle.node_journal.specs.declared.frame.Frame.{Frame}
use Rattle.node_journal.specs.Marks.{behind_mark, or_else}

pub none-behind : (digest : List ℕ) (fs : List Frame) (at : ℕ) → length fs ≤ at → behind_mark digest (drop at fs) ≡ None
none-behind digest fs at le = ap (behind_mark digest) (drop_of_length-le fs le)

-- the frame at a place, and none behind it
next : (digest : List ℕ) (f : Frame) (fs : List Frame) (b : Bool) → bytes_eq f.mark digest ≡ b → behind_mark digest fs ≡ None → behind_mark digest (f ∷ fs) ≡ (if b then Some fs else None)
next digest f fs b e none =
    (λ i. or_else (none i) (if bytes_eq f.mark digest then Some fs else None)) ∙ ap (λ (c : Bool). if c then Some fs else None) e

at-place : (fs : List Frame) (at : ℕ) (f : Frame) → at < length fs → f ≡ get_or fs at f → drop at fs ≡ f ∷ drop (at + 1) fs
at-place fs at f lt is = drop-cons fs at f lt ∙ (λ i. sym is i ∷ drop (sym (add-one at) i) fs)

pub place-behind : (digest : List ℕ) (fs : List Frame) (at : ℕ) (f : Frame) (b : Bool) → at < length fs → f ≡ get_or fs at f → bytes_eq f.mark digest ≡ b → behind_mark digest (drop (at + 1) fs) ≡ None → behind_mark digest (drop at fs) ≡ (if b then Some (drop (at + 1) fs) else None)
place-behind digest fs at f b lt is e none = ap (behind_mark digest) (at-place fs at f lt is) ∙ next digest f (drop (at + 1) fs) b e none

-- frames before the last one with the mark don't matter
pub before-mark : (digest : List ℕ) (fs rest : List Frame) (at : ℕ) → behind_mark digest (drop at fs) ≡ Some rest → behind_mark digest fs ≡ Some rest
before-mark digest fs rest zero e = e
before-mark digest [] rest (suc at) e = e
before-mark digest (f ∷ fs) rest (suc at) e =
    ap (λ (o : Option (List Frame)). or_else o (if bytes_eq f.mark digest then Some fs else None)) (before-mark digest fs rest at e)
