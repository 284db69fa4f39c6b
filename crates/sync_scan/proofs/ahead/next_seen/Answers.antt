use Rattle.std.proofs.Common.{◌≡◌, ◌∷◌, length, arith, sym, subst, take}
use Rattle.std.specs.Prelude.{IsTrue}
use Rattle.std.specs.List.{AllZip}
use Rattle.sync_scan.specs.Ahead.{AreSeen, HasBlocks, IsSeen}
use Rattle.sync_scan.specs.Looks.{MayFindAt, ShownSince}
use Rattle.sync_scan.specs.Told.{Fails}
use Rattle.sync_scan.proofs.SeenLemmas.{are-none, empty-of, seen-head}
use Rattle.sync_scan.proofs.ahead.next_seen.Goals as goal

pub returns-in-Some-clause-seen : goal.returns-in-Some-clause-seen
returns-in-Some-clause-seen g c = λ first begun tree n rest goes looks same names seen.
    let gives = g.S.FileStore.gives in
    let view = g.W.FolderCalls.view in
    let shown = g.G.Gate.shown c.args.scanning.now.gate.now g.row.S.Denot g.row.W.Denot in
    let may = MayFindAt gives (ShownSince gives shown view begun) (IsTrue g.S.FileStore.keeps) tree in
    let new = g.W.FolderCalls.view c.fill_ahead.new.calls in
    let ahead = c.fill_ahead.new.ahead in
    let R = IsSeen (HasBlocks ahead.blocks.items) first new may (Fails gives) in
    let all = subst (AreSeen ahead first new may (Fails gives)) names
    (c.fill_ahead.ensures.seen first begun tree goes looks same (subst (AreSeen c.args.ahead.now first (g.W.FolderCalls.view c.args.calls.now) may (Fails gives)) (sym names) seen)) in
    seen-head R all.0 n rest c.in-Some.seen c.pop_front.new.self.items (subst (AllZip R (take all.0 (n ∷ rest))) c.in-Some.ensures.items all.1)

pub returns-in-None-clause-seen : goal.returns-in-None-clause-seen
returns-in-None-clause-seen g c = λ first begun tree n rest goes looks same names seen.
    let gives = g.S.FileStore.gives in
    let view = g.W.FolderCalls.view in
    let shown = g.G.Gate.shown c.args.scanning.now.gate.now g.row.S.Denot g.row.W.Denot in
    let none : length c.pop_front.new.self.items ≡ 0 = omega (arith, c.in-None.ensures.cases.1) in (
      tt,
      are-none (record c.fill_ahead.new.ahead { seen = c.pop_front.new.self }) first (g.W.FolderCalls.view c.fill_ahead.new.calls) (MayFindAt gives (ShownSince gives shown view begun) (IsTrue g.S.FileStore.keeps) tree) (Fails gives) rest
          (empty-of c.pop_front.new.self.items none),
    )
