-- What holds of a value that a chain of steps found.
use Rattle.std.proofs.Common.{◌≡◌, ◌≢◌, ℕ, ◌<◌, Bool, true, false, cond, List, length, get_or, Option, Some, None, Result, Ok, Err, refl, inl, inr}
use Rattle.std.specs.Prelude.{bytes_eq}
use Rattle.std.specs.List.{list_any}
use Rattle.std.specs.Option.{ok_or}
use Rattle.std.proofs.lemmas.Bool.{cases_Bool}
use Rattle.std.proofs.lemmas.List.Folds.{list_any_at}
use Rattle.std.proofs.lemmas.Slice.Eq.{bytes_eq-Decides}
use Rattle.node_config.specs.Values.{◌>>=◌}
use Rattle.node_config.specs.declared.fault.ConfigFault.{ConfigFault}

pub both : {A B : Type 0} (r : Result A ConfigFault) (f : A → Result B ConfigFault) (y : B) → (r >>= f) ≡ Ok y → (x : A) × (r ≡ Ok x) × (f x ≡ Ok y)
both (Ok x) f y h = (x, refl, h)
both (Err e) f y h = cc

pub value_of : {A : Type 0} (o : Option A) (e : ConfigFault) (x : A) → ok_or o e ≡ Ok x → o ≡ Some x
value_of None e x h = cc
value_of (Some y) e x h = cc

pub passed : {A : Type 0} (b : Bool) (e : ConfigFault) (r : Result A ConfigFault) (y : A) → cond b (Err e) r ≡ Ok y → (b ≡ false) × (r ≡ Ok y)
passed true e r y h = cc
passed false e r y h = (refl, h)

pub tested : {A : Type 0} (b : Bool) (x : A) (e : ConfigFault) (y : A) → cond b (Ok x) (Err e) ≡ Ok y → (b ≡ true) × (x ≡ y)
tested true x e y h = (refl, cc)
tested false x e y h = cc

pub some_where : {A : Type 0} (b : Bool) (x y : A) → cond b (Some x) None ≡ Some y → (b ≡ true) × (x ≡ y)
some_where true x y h = (refl, cc)
some_where false x y h = cc

-- a test that no element passes
pub none_passes : {A : Type 0} (p : A → Bool) (xs : List A) (k : ℕ) (d : A) → list_any p xs ≡ false → k < length xs → p (get_or xs k d) ≡ false
none_passes p xs k d none within =
    elim (cases_Bool (p (get_or xs k d))) [ inl passes ↦ cc (list_any_at p xs k d within passes) | inr fails ↦ fails ]

pub differs : (xs ys : List ℕ) → bytes_eq xs ys ≡ false → xs ≢ ys
differs xs ys other = λ same. cc ((bytes_eq-Decides xs ys).1 same)
