use Rattle.std.proofs.Common.{◌≡◌, ◌<◌, List, length, sym, ap, subst, ◌∙◌}
use Rattle.std.specs.Prelude.{slice_get}
use Rattle.std.specs.List.{remove}
use Rattle.folder_core.specs.PlainPulls.{position_of, pull_for}
use Rattle.folder_core.specs.declared.plain.pull.OpenPull.{OpenPull}
use Rattle.folder_core.specs.declared.pull_stage.PullStage.TheVariants.{Committing}
use Rattle.folder_db.specs.Indexed.{ready_of}
use Rattle.folder_db.proofs.Lists.{map-remove}
use Rattle.folder_db.proofs.Pulls.{ready-found, some-ready}
use Rattle.folder_db.proofs.commits.take_ready.Goals as goal

pub unreachable-requires : goal.unreachable-requires
unreachable-requires c =
    let i = c.in_ok-place.place in
    let t = c.args.info.now in
    let below = subst (λ (xs : List OpenPull). i < length xs) c.deref.ensures.value c.in_ok-place.ensures.within in
    let found = subst (λ (xs : List OpenPull). slice_get xs i ≡ pull_for t Committing xs) c.deref.ensures.value c.in_ok-place.ensures.found in
    some-ready t c.args.pulls.now.items c.args.copies.now.items c.requires i c.remove-ready.result c.remove-copied.result below found c.remove-ready.ensures.value c.remove-copied.ensures.value c.in_default.is

pub returns-clause-taken : goal.returns-clause-taken
returns-clause-taken c =
    let i = c.in_ok-place.place in
    let t = c.args.info.now in
    let below = subst (λ (xs : List OpenPull). i < length xs) c.deref.ensures.value c.in_ok-place.ensures.within in
    let found = subst (λ (xs : List OpenPull). slice_get xs i ≡ pull_for t Committing xs) c.deref.ensures.value c.in_ok-place.ensures.found in (
      ready-found t c.args.pulls.now.items c.args.copies.now.items c.requires i c.remove-ready.result c.remove-copied.result below found c.remove-ready.ensures.value c.remove-copied.ensures.value c.in-Some.announced c.in-Some.is,
      c.remove-ready.ensures.items ∙ ap (remove c.args.pulls.now.items) (c.in_ok-place.ensures.place ∙ ap (position_of t.name) c.deref.ensures.value),
    )

pub returns-clause-copies : goal.returns-clause-copies
returns-clause-copies c =
    c.remove-copied.ensures.items ∙ ap (λ xs. remove xs c.in_ok-place.place) c.requires
    ∙ sym (map-remove (λ p. p.ready) c.args.pulls.now.items c.in_ok-place.place) ∙ ap ready_of (sym c.remove-ready.ensures.items)
