use Rattle.std.proofs.Common.{◌≡◌, ℕ, List, ◌++◌, Result, Ok, Err, IfOk, cond, codes, ap, ◌∙◌}
use Rattle.std.specs.Prelude.{decimal}
use Rattle.std.specs.String.{string_bytes}
use Rattle.bepd_run.specs.declared.losses.Losses.{Losses}
use Rattle.bepd_run.specs.Losses.{notice}
use Rattle.bepd_run.proofs.losses.Losses.notice.Goals as goal

as_told : {S E : Type 0} → (bytes : S → List ℕ) → (r : Result S E) → (l : Losses) → (start : List ℕ) → start ≡ cond l.is_open (codes "\n(") (codes "(")
    → IfOk r (λ s. bytes s ≡ start ++ (decimal l.lines ++ codes " lines left out)\n")) → IfOk r (λ s. bytes s ≡ notice l)
as_told bytes (Ok s) l start k h = h ∙ ap (λ x. x ++ (decimal l.lines ++ codes " lines left out)\n")) k
as_told bytes (Err e) l start k h = tt

pub returns : goal.returns
returns c = as_told string_bytes c.format.result c.args.self.now c.notice_start-start.result.now c.notice_start-start.ensures c.format.ensures.ok
