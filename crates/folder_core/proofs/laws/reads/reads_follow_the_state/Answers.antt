use Rattle.std.proofs.Common.{sym, ap, ◌∙◌, ◌≡◌, subst, arith}
use Rattle.folder_core.specs.Announced.{key}
use Rattle.folder_core.specs.declared.counts.Counts.{Counts}
use Rattle.folder_core.proofs.ReadAnswers.{best-read, no_best-read, known-own, known-greatest, known-reached}
use Rattle.folder_core.specs.Reads.{IsCounted}
use Rattle.folder_core.proofs.ReadReplies.{IsGreatest, best-is, no_best-is, known-is_greatest}
use Rattle.folder_core.proofs.ReadNumbers.{counts-counted, counted-one}
use Rattle.folder_core.proofs.laws.reads.reads_follow_the_state.Goals as goal

pub returns-clause-local : goal.returns-clause-local
returns-clause-local c = λ s n r. (λ e. e, λ e. e)

pub returns-clause-best : goal.returns-clause-best
returns-clause-best c = λ s n r ds. (best-read s n r ds, best-is s n r ds)

pub returns-clause-no_best : goal.returns-clause-no_best
returns-clause-no_best c = λ s n. (no_best-read s n, no_best-is s n)

pub returns-clause-known : goal.returns-clause-known
returns-clause-known c = λ s k. (λ e. e ∙ known-own s, λ e. e ∙ sym (known-own s))

pub returns-clause-sound : goal.returns-clause-sound
returns-clause-sound c = λ s n r k folder read e.
    let g = sym read in
    let b = folder.numbered.in_range n r g in
    let l : k ≡ s.last = e ∙ known-own s in
    (folder.named (key n s.me) r g, folder.valid n r g, b.0, omega arith)

pub returns-clause-known_of_others : goal.returns-clause-known_of_others
returns-clause-known_of_others c = λ s d k other. (
  λ e. subst (IsGreatest s d) (sym e) (known-greatest s d other, known-reached s d other),
  known-is_greatest s d k other,
)

pub returns-clause-counts : goal.returns-clause-counts
returns-clause-counts c = λ s x e. (ap (λ (y : Counts). y.needed) e, ap (λ (y : Counts). y.pulls) e, ap (λ (y : Counts). y.last) e)

pub returns-clause-counted : goal.returns-clause-counted
returns-clause-counted c = λ s x. (λ e. subst (IsCounted s) (sym e) (counts-counted s), counted-one s x)
