use Rattle.std.proofs.Common.{◌≡◌, Some, refl, sym, ap, ◌∙◌, arith}
use Rattle.std.specs.BTreeMap.{is_at}
use Rattle.std.specs.FinMap.{get}
use Rattle.std.specs.Map.{lookup}
use Rattle.std.specs.Ordering.{nat_cmp}
use Rattle.std.specs.Prelude.{is_some}
use Rattle.std.proofs.lemmas.Bool.{lt-ltb, ltb-true, true≢false}
use Rattle.folder_index.specs.Sequences.{Sequenced}
use Rattle.folder_index.proofs.Sequenced.{get_of, none_in, not_above}
use Rattle.folder_index.proofs.by_sequence.BySequence.are_below.Goals as goal

pub returns-in-Some : goal.returns-in-Some
returns-in-Some c =
    let es = c.self.inside.records.entries in (
      λ t q r there.
          (let found : lookup (is_at (nat_cmp q)) es ≡ Some r = get_of nat_cmp es c.self.invariant.rises q ∙ ap (λ (m : Sequenced). get m q) c.self.view_is ∙ there in
          let top = not_above c.in-Some.last.now q (c.in-Some.ensures.greatest q (ap is_some found)) in
          let less = ltb-true c.in-Some.last.now c.args.sequence t in
          omega arith),
      λ each.
          lt-ltb c.in-Some.last.now c.args.sequence (each c.in-Some.last.now c.in-Some.field-0-1.now
          (ap (λ (m : Sequenced). get m c.in-Some.last.now) (sym c.self.view_is) ∙ sym (get_of nat_cmp es c.self.invariant.rises c.in-Some.last.now) ∙ c.in-Some.ensures.value)),
    )

pub returns-in-None : goal.returns-in-None
returns-in-None c =
    let es = c.self.inside.records.entries in (
      λ t q r there.
          (let found : lookup (is_at (nat_cmp q)) es ≡ Some r = get_of nat_cmp es c.self.invariant.rises q ∙ ap (λ (m : Sequenced). get m q) c.self.view_is ∙ there in
          absurd (true≢false (sym (c.in-None.ensures.variant.1 (none_in es q r found))))),
      λ each. refl,
    )
