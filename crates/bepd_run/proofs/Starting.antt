-- What a node begins with, one folder or peer after another, and lines that are read on.
use Rattle.std.proofs.Common.{◌≡◌, ◌+◌, ◌<◌, List, [], ◌∷◌, ◌++◌, suc, length, get_or, refl, ap, subst, ◌∙◌, arith}
use Rattle.std.proofs.lemmas.List.{length-append}
use Rattle.folder_core.specs.States.{FolderState}
use Rattle.node_threads.specs.declared.folders.StartFolder.{StartFolder}
use Rattle.node_threads.specs.Left.{AreLeft}
use Rattle.bepd_run.specs.Starts.{AreEach}

-- one more
pub each-more : {A B C : Type 0} (P : A → B → C → Type 0) (xs : List A) (ys : List B) (zs : List C) (x : A) (y : B) (z : C)
    → AreEach P xs ys zs → length ys < length zs → z ≡ get_or zs (length ys) z → P x y z → AreEach P (xs ++ x ∷ []) (ys ++ y ∷ []) zs
each-more P [] [] [] x y z all lt at is = absurd (omega arith)
each-more P [] [] (c ∷ zs) x y z all lt at is = (subst (P x y) at is, tt)
each-more P [] (b ∷ ys) zs x y z all lt at is = absurd all
each-more P (a ∷ xs) [] zs x y z all lt at is = absurd all
each-more P (a ∷ xs) (b ∷ ys) [] x y z all lt at is = absurd all
each-more P (a ∷ xs) (b ∷ ys) (c ∷ zs) x y z all lt at is = (all.0, each-more P xs ys zs x y z all.1 (omega arith) at is)

-- what comes after some elements is at their number
pub comes-below : {A : Type 0} (all xs : List A) (y : A) (ys : List A) → all ≡ xs ++ y ∷ ys → length xs < length all
comes-below all xs y ys e = let a : length all ≡ length xs + suc (length ys) = ap length e ∙ length-append xs (y ∷ ys) in omega arith

-- what is left of folders are as many
pub as-many-left : {C : Type 0} (state : C → FolderState) (fs : List (StartFolder C)) (cs : List C) → AreLeft state fs cs → length cs ≡ length fs
as-many-left state [] [] all = refl
as-many-left state (f ∷ fs) [] all = absurd all
as-many-left state [] (c ∷ cs) all = absurd all
as-many-left state (f ∷ fs) (c ∷ cs) all = ap suc (as-many-left state fs cs all.1)
