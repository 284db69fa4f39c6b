use Rattle.std.proofs.Common.{◌∙◌, ◌+◌, drop_of_length-le, take, drop, ap, arith, refl, sym}
use Rattle.node_config.specs.Overlaps.{first_nested, or_else}
use Rattle.node_config.proofs.OverlapLemmas.{met, next}
use Rattle.node_config.proofs.overlap.first_nested.Goals as goal

pub loop-place-init : goal.loop-place-init
loop-place-init c = refl

pub returns-in-Some : goal.returns-in-Some
returns-in-Some c =
    let fs = c.args.folders.now in
    let i = c.loop-place.place in
    let x = c.index-folders-place.result in
    let got = sym (c.with_earlier.ensures ∙ ap (met fs i) c.as_str.ensures) ∙ c.in-Some.is in
    let rest = first_nested (take (i + 1) fs) (drop (i + 1) fs) in
    sym (c.loop-place.invariant ∙ next fs i x c.loop-place-test.true (sym c.index-folders-place.is) ∙ ap (λ o. or_else o rest) got)

pub loop-place-preserved : goal.loop-place-preserved
loop-place-preserved c =
    let fs = c.args.folders.now in
    let i = c.loop-place.place in
    let x = c.index-folders-place.result in
    let got = sym (c.with_earlier.ensures ∙ ap (met fs i) c.as_str.ensures) ∙ c.in_default.is in
    let rest = first_nested (take (i + 1) fs) (drop (i + 1) fs) in
    c.loop-place.invariant ∙ next fs i x c.loop-place-test.true (sym c.index-folders-place.is) ∙ ap (λ o. or_else o rest) got

pub returns : goal.returns
returns c =
    let fs = c.args.folders.now in
    let i = c.loop-place.place in
    sym (c.loop-place.invariant ∙ ap (first_nested (take i fs)) (drop_of_length-le fs (omega arith)))
