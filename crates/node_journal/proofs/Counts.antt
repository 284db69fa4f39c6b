-- Which frames count.
use Rattle.std.proofs.Common.{◌≡◌, Bool, true, false, List, [], ◌∷◌, ◌++◌, refl, sym, ap, ◌∙◌, append-nil}
use Rattle.std.specs.Prelude.{if◌then◌else◌}
use Rattle.node_journal.specs.declared.frame.Frame.{Frame}
use Rattle.node_journal.specs.Cuts.{front_of, up_to_whole}

first-keeps : (f : Frame) (rs : List Frame) (b : Bool) → f.is_whole ≡ b → (rest : List Frame) × (front_of f rs ≡ (if f.is_whole then f ∷ [] else []) ++ rest)
first-keeps f [] b e = ([], sym (append-nil (if f.is_whole then f ∷ [] else [])))
first-keeps f (g ∷ gs) true e = (g ∷ gs, ap (λ (c : Bool). (if c then f ∷ [] else []) ++ g ∷ gs) (sym e))
first-keeps f (g ∷ gs) false e = (f ∷ g ∷ gs, ap (λ (c : Bool). (if c then f ∷ [] else []) ++ f ∷ g ∷ gs) (sym e))

front-keeps : (f : Frame) (us rs : List Frame) → (rest : List Frame) × (front_of f (us ++ rs) ≡ front_of f us ++ rest)
front-keeps f [] rs = first-keeps f rs f.is_whole refl
front-keeps f (u ∷ us) rs = (rs, refl)

-- what counts of a beginning still counts
pub keeps : (fs gs : List Frame) → (rest : List Frame) × (up_to_whole (fs ++ gs) ≡ up_to_whole fs ++ rest)
keeps [] gs = (up_to_whole gs, refl)
keeps (f ∷ fs) gs =
    let before = keeps fs gs in
    let here = front-keeps f (up_to_whole fs) before.0 in
    (here.0, ap (front_of f) before.1 ∙ here.1)

front-some : (g f : Frame) (fs : List Frame) → front_of g (fs ++ f ∷ []) ≡ g ∷ (fs ++ f ∷ [])
front-some g f [] = refl
front-some g f (h ∷ hs) = refl

-- all count up to a whole one
pub ends-whole : (fs : List Frame) (f : Frame) → f.is_whole ≡ true → up_to_whole (fs ++ f ∷ []) ≡ fs ++ f ∷ []
ends-whole [] f e = ap (λ (c : Bool). if c then f ∷ [] else []) e
ends-whole (g ∷ fs) f e = ap (front_of g) (ends-whole fs f e) ∙ front-some g f fs
