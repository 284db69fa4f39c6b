use Rattle.std.proofs.Common.{◌≡◌, ℕ, ◌+◌, ◌-◌, ◌<◌, List, true, Some, None, drop, length, sym, ap, subst, ◌∙◌, arith}
use Rattle.std.specs.Prelude.{bytes_eq}
use Rattle.node_journal.specs.declared.frame.Frame.{Frame}
use Rattle.node_journal.specs.Marks.{behind_mark}
use Rattle.node_journal.proofs.Behind.{before-mark, place-behind}
use Rattle.node_journal.proofs.marks.behind_mark.Goals as goal

pub returns-then-eq : goal.returns-then-eq
returns-then-eq c =
    let digest = c.args.digest.now in
    let fs = c.args.frames.now in
    let at : ℕ = c.loop-at.at - 1 in
    let f = c.index-frames-at.result in
    let up : at + 1 ≡ c.loop-at.at = omega (arith, c.loop-at-test.true) in
    let below : at < length fs = omega (arith, c.loop-at-test.true, c.loop-at.auto.at) in
    let mark : c.as_slice.result.now ≡ f.mark = c.as_slice.ensures ∙ ap (λ (g : Frame). g.mark) (sym c.index-frames-at.is) in
    let equal : bytes_eq c.as_slice.result.now digest ≡ true = sym c.eq.ensures ∙ c.if-eq.true in
    let same : bytes_eq f.mark digest ≡ true = subst (λ (m : List ℕ). bytes_eq m digest ≡ true) mark equal in
    let none : behind_mark digest (drop (at + 1) fs) ≡ None = subst (λ (k : ℕ). behind_mark digest (drop k fs) ≡ None) (sym up) c.loop-at.invariant in
    let here = place-behind digest fs at f true below c.index-frames-at.is same none in
    let whole = before-mark digest fs (drop (at + 1) fs) at here in
    ap (λ (l : List Frame). Some l) c.split_at.ensures.back ∙ sym whole
