use Rattle.std.proofs.Common.{◌∙◌, sym}
use Rattle.std.specs.Prelude.{codes}
use Rattle.std.proofs.lemmas.Bool.{le-leb, lt-leb, false≢true}
use Rattle.std.proofs.lemmas.Str.Pattern.{starts_text, ends_text}
use Rattle.sync_names.proofs.InternalLemmas.{three}
use Rattle.sync_names.proofs.internal.is_temporary.Goals as goal
use Rattle.sync_names.proofs.internal.is_temporary.Goals.{then-component-ge-SHORTEST_TEMPORARY, else-component-ge-SHORTEST_TEMPORARY}

pub returns-then-starts_with : goal.returns-then-starts_with
returns-then-starts_with c =
    elim c.if-component-ge-SHORTEST_TEMPORARY.branch [
      | then-component-ge-SHORTEST_TEMPORARY w ↦
          three _ _ _ _ (le-leb 15 _ w.if-component-ge-SHORTEST_TEMPORARY.true) (sym (starts_text w.starts_with.result (codes ".syncthing.") c.args.component.now w.starts_with.ensures.cases) ∙ sym w.value-is ∙ c.if-starts_with.true) (ends_text c.ends_with.result (codes ".tmp") c.args.component.now c.ends_with.ensures.cases)
      | else-component-ge-SHORTEST_TEMPORARY w ↦ absurd (false≢true (sym (lt-leb 15 _ w.if-component-ge-SHORTEST_TEMPORARY.false) ∙ sym w.value-is ∙ c.if-starts_with.true))
    ]
