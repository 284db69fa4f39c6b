use Rattle.std.proofs.Common.{◌∙◌, ◌++◌, ◌∷◌, [], ap, sym, append_assoc}
use Rattle.std.proofs.lemmas.Result.{IfOk-weaker}
use Rattle.bepd_run.proofs.PlacedLemmas.{directory_at, no_directory}
use Rattle.bepd_run.proofs.placing.beside.Goals as goal

pub returns-in-Some : goal.returns-in-Some
returns-in-Some c =
    let (i, j, found, front, back, below, len, ends) = c.in-Some.ensures.cases in
    let is = directory_at c.args.file.now c.in-Some.directory.now i j found front in
    IfOk-weaker c.format.result _ _ (λ placed same. same ∙ sym (append_assoc c.in-Some.directory.now (47 ∷ []) c.args.path.now) ∙ ap (λ l. l ++ c.args.path.now) (sym is)) c.format.ensures.ok

pub returns-in-None : goal.returns-in-None
returns-in-None c =
    let is = no_directory c.args.file.now c.in-None.ensures.cases in
    IfOk-weaker c.from_str.result _ _ (λ placed same. same ∙ ap (λ l. l ++ c.args.path.now) (sym is)) c.from_str.ensures.ok
