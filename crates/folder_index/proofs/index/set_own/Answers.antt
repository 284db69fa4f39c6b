use Rattle.std.proofs.Common.{◌<◌, refl, subst, sym, ap, ◌∙◌}
use Rattle.std.specs.FinSet.{contains}
use Rattle.folder_index.specs.Latest.{Waiting}
use Rattle.folder_index.proofs.Indexed.{moved, set_kept, set_released, settled_moved, some_promised, with_waiting}
use Rattle.folder_index.proofs.index.set_own.Goals as goal

pub release-requires : goal.release-requires
release-requires c =
    let s = c.args.names.now in
    let n = c.args.announced.name in
    let promised = ap (contains s.promised) (sym c.name.ensures) ∙ sym c.is_promised-is_promised.ensures ∙ c.if-is_promised.true in
    let some = some_promised s c.settle_own.new.local c.in_ok-settle_own.ensures.index n promised in
    let IsSome : Waiting → Type 0 = λ w. 0 < w.promised in
    subst IsSome (sym c.in_ok-put_own.ensures.latest) some

pub returns-then-is_promised-clause-index : goal.returns-then-is_promised-clause-index
returns-then-is_promised-clause-index c =
    let s = c.args.names.now in
    let r = c.args.announced in
    let k = c.settle_own.new.local in
    let l = c.put_own.new.local in
    let promised = ap (contains s.promised) (sym c.name.ensures) ∙ sym c.is_promised-is_promised.ensures ∙ c.if-is_promised.true in
    let names = c.in_ok-put_own.ensures.ok in
    let latest = c.in_ok-put_own.ensures.latest in
    moved (sym names) (sym (ap (λ w. with_waiting w l) c.release.ensures))
    (set_released s r l (settled_moved names refl c.in_ok-put_own.ensures.index) (ap (λ (w : Waiting). w.records) latest ∙ c.in_ok-settle_own.ensures.settled) (ap (λ (w : Waiting). w.promised) latest ∙ c.in_ok-settle_own.ensures.index.promised) promised)

pub returns-else-is_promised-clause-index : goal.returns-else-is_promised-clause-index
returns-else-is_promised-clause-index c =
    let s = c.args.names.now in
    let r = c.args.announced in
    let l = c.put_own.new.local in
    let promised = ap (contains s.promised) (sym c.name.ensures) ∙ sym c.is_promised-is_promised.ensures ∙ c.if-is_promised.false in
    let names = c.in_ok-put_own.ensures.ok in
    let latest = c.in_ok-put_own.ensures.latest in
    moved (sym names) refl
    (set_kept s r l (settled_moved names refl c.in_ok-put_own.ensures.index) (ap (λ (w : Waiting). w.records) latest ∙ c.in_ok-settle_own.ensures.settled) (ap (λ (w : Waiting). w.promised) latest ∙ c.in_ok-settle_own.ensures.index.promised) promised)
