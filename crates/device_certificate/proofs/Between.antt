-- A text whose lines are known around its certificate.
use Rattle.std.proofs.Common.{◌≡◌, ℕ, ◌+◌, false, List, ◌∷◌, ◌++◌, ap, sym, subst, refl, ◌∙◌, arith}
use Rattle.std.specs.Prelude.{◌↔◌}
use Rattle.std.specs.List.{count_by, list_any, before_first, after_first, concat}
use Rattle.device_certificate.specs.Lines.{lines, is_line}
use Rattle.device_certificate.specs.Certificate.{begin_line, end_line, lines_after_begin, certificate_base64, begins, HasCertificate, IsBase64Of, IsCertificate}
use Rattle.device_certificate.proofs.Firsts.{none_of_count, count_append, count_yes, count_no, after_at, before_at, any_at}

module _ (text : List ℕ) (before body after : List (List ℕ)) (are : lines text ≡ before ++ begin_line ∷ (body ++ end_line ∷ after))
    (one : count_by (is_line begin_line) (before ++ (body ++ after)) ≡ 0) (unended : list_any (is_line end_line) body ≡ false) where
  counts : count_by (is_line begin_line) before + (count_by (is_line begin_line) body + count_by (is_line begin_line) after) ≡ 0
  counts =
      let p = is_line begin_line in
      omega (arith, one, count_append p before (body ++ after), count_append p body after)

  begins_one : begins text ≡ 1
  begins_one =
      let p = is_line begin_line in
      omega (
        arith,
        counts,
        ap (count_by p) are,
        count_append p before (begin_line ∷ (body ++ end_line ∷ after)),
        count_yes p begin_line (body ++ end_line ∷ after) refl,
        count_append p body (end_line ∷ after),
        count_no p end_line after refl,
      )

  follows : lines_after_begin text ≡ body ++ end_line ∷ after
  follows =
      let p = is_line begin_line in
      ap (after_first p) are ∙ after_at p before begin_line (body ++ end_line ∷ after) (none_of_count p before (omega (arith, counts))) refl

  has : HasCertificate text
  has = (begins_one, ap (list_any (is_line end_line)) follows ∙ any_at (is_line end_line) body end_line after refl)

  base64 : certificate_base64 text ≡ concat body
  base64 = ap (λ l. concat (before_first (is_line end_line) l)) follows ∙ ap concat (before_at (is_line end_line) body end_line after unended refl)

  pub between : (der : List ℕ) → IsCertificate text der ↔ IsBase64Of (concat body) der
  between der = (λ is. subst (λ l. IsBase64Of l der) base64 is.1, λ is. (has, subst (λ l. IsBase64Of l der) (sym base64) is))
