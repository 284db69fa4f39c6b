use Rattle.std.proofs.Common.{◌≡◌, ◌<◌, ◌+◌, ◌-◌, ◌/◌, true, false, ap, refl, sym, ◌∙◌, length, arith}
use Rattle.std.specs.Prelude.{Some, slice_get}
use Rattle.std.proofs.lemmas.Bool.{false_from_ne_true, true≢false}
use Rattle.std.proofs.lemmas.Option.{get_or_from_slice_get, slice_get_read}
use Rattle.folder_core.proofs.PlainGroup.{back_is, front_is}
use Rattle.folder_index.specs.Chunks.{is_lesser}
use Rattle.folder_index.proofs.Chunked.{groups_parted}
use Rattle.folder_index.proofs.chunks.count_lesser.Goals as goal

pub loop-low-init : goal.loop-low-init
loop-low-init c = record { order = omega arith; inside = omega arith; lesser = λ k d le short. absurd (omega arith); others = λ k d le short. absurd (omega arith) }

pub loop-low-preserved-then-is_lesser : goal.loop-low-preserved-then-is_lesser
loop-low-preserved-then-is_lesser c =
    let n = c.args.name.now in
    let gs = c.args.groups.now in
    let g = c.index-groups-middle.result in
    let inv = c.loop-low.invariant in
    let low = c.loop-low.low in
    let high = c.loop-low.high in
    let test : low < high = c.loop-low-test.true in
    let middle = low + (high - low) / 2 in
    let short : middle < length gs = omega (arith, test, inv.inside) in
    let at : slice_get gs middle ≡ Some g = slice_get_read gs (length gs) middle g refl short c.index-groups-middle.is in
    let lesser : is_lesser n g ≡ true = sym c.is_lesser.ensures ∙ c.if-is_lesser.true in
    record {
      order = omega (arith, test);
      inside = inv.inside;
      lesser = λ k d le below. groups_parted n gs c.requires k middle d (omega (arith, below)) short (ap (is_lesser n) (get_or_from_slice_get gs middle g d at) ∙ lesser);
      others = inv.others;
    }

pub loop-low-preserved : goal.loop-low-preserved
loop-low-preserved c =
    let n = c.args.name.now in
    let gs = c.args.groups.now in
    let g = c.index-groups-middle.result in
    let inv = c.loop-low.invariant in
    let low = c.loop-low.low in
    let high = c.loop-low.high in
    let test : low < high = c.loop-low-test.true in
    let middle = low + (high - low) / 2 in
    let short : middle < length gs = omega (arith, test, inv.inside) in
    let at : slice_get gs middle ≡ Some g = slice_get_read gs (length gs) middle g refl short c.index-groups-middle.is in
    let other : is_lesser n g ≡ false = sym c.is_lesser.ensures ∙ c.if-is_lesser.false in
    record {
      order = omega (arith, test);
      inside = omega (arith, short);
      lesser = inv.lesser;
      others = λ k d le below. false_from_ne_true _ (λ t. true≢false (sym (groups_parted n gs c.requires middle k d le below t) ∙ ap (is_lesser n) (get_or_from_slice_get gs middle g d at) ∙ other));
    }

pub returns-clause-lesser : goal.returns-clause-lesser
returns-clause-lesser c =
    let n = c.args.name.now in
    let gs = c.args.groups.now in
    let inv = c.loop-low.invariant in
    let same : c.loop-low.high ≡ c.loop-low.low = omega (arith, c.loop-low-test.false, inv.order) in
    front_is (is_lesser n) gs c.loop-low.low (omega (arith, inv.order, inv.inside)) inv.lesser (λ k d le short. inv.others k d (omega (arith, le, same)) short)

pub returns-clause-others : goal.returns-clause-others
returns-clause-others c =
    let n = c.args.name.now in
    let gs = c.args.groups.now in
    let inv = c.loop-low.invariant in
    let same : c.loop-low.high ≡ c.loop-low.low = omega (arith, c.loop-low-test.false, inv.order) in
    back_is (is_lesser n) gs c.loop-low.low (omega (arith, inv.order, inv.inside)) inv.lesser (λ k d le short. inv.others k d (omega (arith, le, same)) short)
