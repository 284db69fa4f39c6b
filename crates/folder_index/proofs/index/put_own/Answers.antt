use Rattle.std.proofs.Common.{◌<◌, ◌^◌, None, Some, sym, ap, ◌∙◌, arith}
use Rattle.std.specs.FinMap.{get}
use Rattle.std.proofs.lemmas.Option.{none-some}
use Rattle.folder_core.specs.Announced.{key}
use Rattle.folder_core.proofs.ListTests.{inside}
use Rattle.folder_index.specs.Locals.{without_filed}
use Rattle.folder_index.proofs.Indexed.{absent, index_replaced, index_set, sequence_at, settled_moved, unlike_told, unused}
use Rattle.folder_index.proofs.Results.{both, both_err, whichever}
use Rattle.folder_index.proofs.index.put_own.Goals as goal

pub add_own-requires : goal.add_own-requires
add_own-requires c =
    let s = c.args.names.now in
    let l = c.args.local.now in
    let r = c.args.announced in
    let low : r.sequence < 2 ^ 63 = omega (arith, c.sequence-sequence.ensures.value, c.sequence-sequence.ensures.fits) in
    let there = c.in-None.ensures.sequence ∙ ap sequence_at (c.get.ensures ∙ (λ i. get s.announced (key (c.name.ensures i) (c.me.ensures i)))) in
    let unlike = unlike_told (get s.announced (key r.name s.me)) r.sequence None there (λ q e. absurd (none-some q e)) in
    record {
      unused = unused s l c.requires.index r low c.requires.free unlike;
      absent = absent s l c.requires.index r low c.requires.free unlike;
    }

pub returns-in-None-clause-index : goal.returns-in-None-clause-index
returns-in-None-clause-index c =
    let s = c.args.names.now in
    let l = c.args.local.now in
    let r = c.args.announced in
    let low : r.sequence < 2 ^ 63 = omega (arith, c.sequence-sequence.ensures.value, c.sequence-sequence.ensures.fits) in
    let there = c.in-None.ensures.sequence ∙ ap sequence_at (c.get.ensures ∙ (λ i. get s.announced (key (c.name.ensures i) (c.me.ensures i)))) in
    let unlike = unlike_told (get s.announced (key r.name s.me)) r.sequence None there (λ q e. absurd (none-some q e)) in
    whichever c.add_own.result (both _ _ c.add_own.result c.add_own.ensures.ok c.add_own.ensures.local) (both_err _ _ c.add_own.result c.add_own.ensures.err c.add_own.ensures.local_stays)
    (λ p. settled_moved (sym p.0) (sym p.1) (index_set s l c.requires.index r low c.requires.free unlike there))
    (λ p. settled_moved (sym p.0) (sym p.1) c.requires.index)

pub add_own-requires-in-Some-2 : goal.add_own-requires-in-Some-2
add_own-requires-in-Some-2 c =
    let s = c.args.names.now in
    let l = c.args.local.now in
    let r = c.args.announced in
    let low : r.sequence < 2 ^ 63 = omega (arith, c.sequence-sequence.ensures.value, c.sequence-sequence.ensures.fits) in
    let there = c.in-Some.ensures.sequence ∙ ap sequence_at (c.get.ensures ∙ (λ i. get s.announced (key (c.name.ensures i) (c.me.ensures i)))) in
    let unlike = unlike_told (get s.announced (key r.name s.me)) r.sequence (Some c.in-Some.replaced) there (λ q e same. c.if-replaced-sequence.false (inside c.in-Some.replaced q e ∙ same ∙ sym c.sequence-sequence.ensures.value)) in
    record {
      unused = unused s l c.requires.index r low c.requires.free unlike;
      absent = absent s l c.requires.index r low c.requires.free unlike;
    }

pub returns-in_ok-add_own-in-Some-2-clause-index : goal.returns-in_ok-add_own-in-Some-2-clause-index
returns-in_ok-add_own-in-Some-2-clause-index c =
    let s = c.args.names.now in
    let l = c.args.local.now in
    let r = c.args.announced in
    let low : r.sequence < 2 ^ 63 = omega (arith, c.sequence-sequence.ensures.value, c.sequence-sequence.ensures.fits) in
    let there = c.in-Some.ensures.sequence ∙ ap sequence_at (c.get.ensures ∙ (λ i. get s.announced (key (c.name.ensures i) (c.me.ensures i)))) in
    let unlike = unlike_told (get s.announced (key r.name s.me)) r.sequence (Some c.in-Some.replaced) there (λ q e same. c.if-replaced-sequence.false (inside c.in-Some.replaced q e ∙ same ∙ sym c.sequence-sequence.ensures.value)) in
    settled_moved (sym c.in_ok-add_own-in-Some-2.ensures.ok) (sym (c.unfile.ensures ∙ ap (without_filed c.in-Some.replaced) c.in_ok-add_own-in-Some-2.ensures.local))
    (index_replaced s l c.requires.index r low c.requires.free unlike c.in-Some.replaced there)
