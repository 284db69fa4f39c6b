-- Facts of one variant of a result.
use Rattle.std.proofs.Common.{◌≡◌, true, false, sym}
use Rattle.std.specs.Prelude.{Result, Ok, Err, IfOk, OnOk, OnErr}
use Rattle.std.specs.Result.{is_err}
use Rattle.std.proofs.lemmas.Bool.{true≢false}

module _ {A E : Type 0} where
  pub ok_and : {P : Type 0} {Q R : A → Type 0} (r : Result A E) → (P → (x : A) → Q x → R x) → OnOk r P → IfOk r Q → IfOk r R
  ok_and (Ok x) each p q = each p x q
  ok_and (Err e) each p q = tt

  pub on_ok : {P Q : Type 0} (r : Result A E) → (P → Q) → OnOk r P → OnOk r Q
  on_ok (Ok x) then p = then p
  on_ok (Err e) then p = tt

  pub on_err : {P Q : Type 0} (r : Result A E) → (P → Q) → OnErr r P → OnErr r Q
  on_err (Ok x) then p = tt
  on_err (Err e) then p = then p

module _ {A E : Type 0} {P : Type 0} where
  pub of_ok : (r : Result A E) → is_err r ≡ false → OnOk r P → P
  of_ok (Ok x) t p = p
  of_ok (Err e) t p = absurd (true≢false t)

  pub of_err : (r : Result A E) → is_err r ≡ true → OnErr r P → P
  of_err (Ok x) t p = absurd (true≢false (sym t))
  of_err (Err e) t p = p

module _ {A E P : Type 0} where
  pub always_ok : (r : Result A E) → P → OnOk r P
  always_ok (Ok x) p = p
  always_ok (Err e) p = tt

  pub on_any_err : (r : Result A E) → P → OnErr r P
  on_any_err (Ok x) p = tt
  on_any_err (Err e) p = p

module _ {A E P Q R : Type 0} where
  pub whichever : (r : Result A E) → OnOk r P → OnErr r Q → (P → R) → (Q → R) → R
  whichever (Ok x) p q ok err = ok p
  whichever (Err e) p q ok err = err q

module _ {A E : Type 0} where
  pub both : (P Q : Type 0) (r : Result A E) → OnOk r P → OnOk r Q → OnOk r (P × Q)
  both P Q (Ok x) p q = (p, q)
  both P Q (Err e) p q = tt

  pub both_err : (P Q : Type 0) (r : Result A E) → OnErr r P → OnErr r Q → OnErr r (P × Q)
  both_err P Q (Ok x) p q = tt
  both_err P Q (Err e) p q = (p, q)
