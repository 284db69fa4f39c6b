-- The fields of a folder that are written one after the other.
use Rattle.std.proofs.Common.{◌≡◌, ◌+◌, ◌<◌, ◌^◌, ◌++◌, length, get_or, take, ℕ, ℤ, pos, List, [], ◌∷◌, ap, map, refl, sym, subst, ◌∙◌, arith, FitsSigned, to_z, of_z}
use Rattle.std.specs.Int.{w64}
use Rattle.std.proofs.lemmas.Int.{to_z-of_z}
use Rattle.std.proofs.lemmas.List.{take_more}
use Rattle.std.specs.FinMap.{entries}
use Rattle.std.specs.List.{AllByRecursion}
use Rattle.bep_messages.specs.Writing.{Writing, Adds}
use Rattle.folder_core.specs.declared.announcement.Announcement.{Announcement}
use Rattle.folder_core.specs.Announced.{by_device}
use Rattle.folder_core.specs.Plain.{filed}
use Rattle.folder_core.specs.PlainRestores.{given}
use Rattle.folder_core.specs.Restores.{records_of}
use Rattle.folder_core.specs.States.{FolderState}
use Rattle.node_state.specs.Reading.{IsReadBack}
use Rattle.node_state.specs.Written.{entry_values}

pub adds-same : {a : Writing} {row new : List ℕ} {b : Writing} → row ≡ new → Adds a row b → Adds a new b
adds-same {a} {row} {new} {b} e h = subst (λ r. Adds a r b) e h

pub given-back : (es : List Announcement) → map by_device (map filed es) ≡ map given es
given-back [] = refl
given-back (e ∷ es) = λ i. given e ∷ given-back es i

both : (es : List Announcement) → map (λ e. entry_values (given e)) es ≡ map entry_values (map by_device (map filed es))
both [] = refl
both (e ∷ es) = λ i. entry_values (given e) ∷ both es i

pub values-are : (es : List Announcement) (s : FolderState) → map filed es ≡ entries s.announced → map (λ e. entry_values (given e)) es ≡ map entry_values (records_of s)
values-are es s is = both es ∙ ap (λ rs. map entry_values (map by_device rs)) is

-- the last sequence as its bits are written
pub last-back : (n : ℕ) (z : ℤ) → z ≡ pos n → n < 2 ^ 63 → to_z w64 (of_z w64 z) ≡ pos n
last-back n z e lt =
    let fits : FitsSigned w64 (pos n) = omega (arith, lt) in
    ap (λ (y : ℤ). to_z w64 (of_z w64 y)) e ∙ to_z-of_z w64 (pos n) fits

all-push : {A : Type 0} (P : A → Type 0) (xs : List A) (x : A) → AllByRecursion P xs → P x → AllByRecursion P (xs ++ x ∷ [])
all-push P [] x all here = (here, tt)
all-push P (y ∷ xs) x all here = (all.0, all-push P xs x all.1 here)

pub take-more : {A : Type 0} (P : A → Type 0) (xs : List A) (i : ℕ) (x : A) → i < length xs → x ≡ get_or xs i x → AllByRecursion P (take i xs) → P x → AllByRecursion P (take (i + 1) xs)
take-more P xs i x lt is all here = subst (AllByRecursion P) (sym (take_more xs i x lt ∙ ap (λ (y : _). take i xs ++ y ∷ []) (sym is))) (all-push P (take i xs) x all here)

-- a folder whose records were written
pub records-back : (es : List Announcement) (s : FolderState) → map filed es ≡ entries s.announced → AllByRecursion IsReadBack (map given es) → AllByRecursion IsReadBack (records_of s)
records-back es s is all = subst (AllByRecursion IsReadBack) (sym (given-back es) ∙ ap (map by_device) is) all
