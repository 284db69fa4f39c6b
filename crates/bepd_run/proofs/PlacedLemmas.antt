-- The directory of a path by its last slash.
use Rattle.std.proofs.Common.{◌≡◌, ◌≢◌, ◌∙◌, ◌==◌, ◌||◌, ℕ, suc, ◌<◌, Bool, true, false, List, [], ◌∷◌, ◌++◌, Some, None, length, get_or, take, drop, ap, sym, refl, arith}
use Rattle.std.proofs.lemmas.List.{take-append-drop}
use Rattle.std.proofs.lemmas.Bool.Decides.{nat_tests}
use Rattle.std.specs.Str.Pattern.{RFindsChar}
use Rattle.std.proofs.lemmas.Str.Pattern.{NoCharPasses-char, drop_at_char}
use Rattle.bepd_run.specs.Placed.{directory_of, has_slash}

pub no_slash : (bs : List ℕ) → ((i : ℕ) → i < length bs → get_or bs i 0 ≢ 47) → has_slash bs ≡ false
no_slash [] h = refl
no_slash (b ∷ bs) h =
    let other : b ≢ 47 = h 0 (omega arith) in
    let here : (b == 47) ≡ false = grind (arith, nat_tests) in
    rw (here, no_slash bs (λ i within. h (suc i) (omega arith))) refl

or_true : (a b : Bool) → b ≡ true → (a || b) ≡ true
or_true true b h = refl
or_true false b h = h

has_after : (front back : List ℕ) → has_slash (front ++ 47 ∷ back) ≡ true
has_after [] back = refl
has_after (b ∷ front) back = or_true (b == 47) _ (has_after front back)

directory_none : (bs : List ℕ) → has_slash bs ≡ false → directory_of bs ≡ []
directory_none [] none = refl
directory_none (b ∷ bs) none = rw none refl

directory_is : (front back : List ℕ) → has_slash back ≡ false → directory_of (front ++ 47 ∷ back) ≡ front ++ 47 ∷ []
directory_is [] back none = ap (λ l. 47 ∷ l) (directory_none back none)
directory_is (b ∷ front) back none = rw (has_after (b ∷ front) back) (ap (λ l. b ∷ l) (directory_is front back none))

pub no_directory : (file : List ℕ) → RFindsChar 47 file None → directory_of file ≡ []
no_directory file none = directory_none file (no_slash file (λ i within. NoCharPasses-char 47 file i none (omega arith) within))

pub directory_at : (file front : List ℕ) (i j : ℕ) → RFindsChar 47 file (Some (i, j)) → front ≡ take i file → directory_of file ≡ front ++ 47 ∷ []
directory_at file front i j (none, at) same =
    let back = drop j file in
    let left : drop i file ≡ 47 ∷ back = drop_at_char 47 file i j at (omega arith) in
    let whole : file ≡ front ++ 47 ∷ back = sym (take-append-drop i file) ∙ ap (λ l. l ++ drop i file) (sym same) ∙ ap (λ l. front ++ l) left in
    ap directory_of whole ∙ directory_is front back (no_slash back (λ k within. NoCharPasses-char 47 back k none (omega arith) within))
