use Rattle.std.proofs.Common.{◌<◌, ◌-◌, ◌++◌, ◌∷◌, [], ◌^◌, subst, sym, ap, ◌∙◌, arith}
use Rattle.std.specs.FinMap.{get}
use Rattle.folder_core.specs.Announced.{key}
use Rattle.folder_index.specs.declared.local.Local.{Local}
use Rattle.folder_index.specs.Indexes.{with_record}
use Rattle.folder_index.proofs.Indexed.{last_replaced, last_set, moved, sequence_at, some_promised}
use Rattle.folder_index.proofs.Results.{of_ok}
use Rattle.folder_index.proofs.index.set_last.Goals as goal
use Rattle.folder_index.proofs.index.set_last.Goals.{in-Some, in_default}

pub push-requires : goal.push-requires
push-requires c =
    let s = c.args.names.now in
    let l = c.args.local.now in
    let some = some_promised s l c.requires.index c.args.announced.name c.requires.reserved in
    let IsSome : Local → Type 0 = λ k. 0 < k.latest.promised in
    elim c.match-sequence_of.branch [
      | in-Some w ↦ subst IsSome (sym (w.local-is ∙ w.take_out.ensures)) some
      | in_default w ↦ subst IsSome (sym w.local-is) some
    ]

pub returns-clause-index : goal.returns-clause-index
returns-clause-index c =
    let s = c.args.names.now in
    let l = c.args.local.now in
    let r = c.args.announced in
    let names = of_ok c.set.result (sym c.is_err.ensures.value ∙ c.if-is_err.false) c.set.ensures.ok ∙ ap (λ d. with_record d r s) c.me-me.ensures in
    let there = c.get.ensures ∙ (λ i. get s.announced (key (c.name.ensures i) (c.me-me.ensures i))) in
    let low : r.sequence < 2 ^ 63 = omega (arith, c.sequence.ensures.value, c.sequence.ensures.fits) in
    elim c.match-sequence_of.branch [
      | in-Some w ↦
          let local = w.local-is ∙ w.take_out.ensures in
          let put = c.push.ensures ∙ (λ i. record { records = (local i).latest.records ++ c.requires.same i ∷ []; promised = (local i).latest.promised - 1 }) in
          moved (sym names) (sym (λ i. record { records = (local i).records; places = (local i).places; numbers = (local i).numbers; latest = put i }))
          (last_replaced s l c.requires.index r low c.requires.reserved c.requires.greatest w.in-Some.replaced (w.in-Some.ensures.sequence ∙ ap sequence_at there))
      | in_default w ↦
          let local = w.local-is in
          let put = c.push.ensures ∙ (λ i. record { records = (local i).latest.records ++ c.requires.same i ∷ []; promised = (local i).latest.promised - 1 }) in
          moved (sym names) (sym (λ i. record { records = (local i).records; places = (local i).places; numbers = (local i).numbers; latest = put i }))
          (last_set s l c.requires.index r low c.requires.reserved c.requires.greatest (w.in_default.ensures.sequence ∙ ap sequence_at there))
    ]
