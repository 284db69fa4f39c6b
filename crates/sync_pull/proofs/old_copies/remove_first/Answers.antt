use Rattle.std.proofs.Common.{inr, ◌<◌, ◌≤◌, ◌++◌, ◌∷◌, [], List, length, take, arith, length-append, refl, subst, sym, ◌∙◌}
use Rattle.std.proofs.lemmas.Bool.{false≢true}
use Rattle.std.proofs.lemmas.List.{take_all}
use Rattle.file_store.specs.Asked.{Remove}
use Rattle.file_store.specs.Names.{Name}
use Rattle.file_store.specs.Sequences.{CallsOnly, called, not_called}
use Rattle.sync_pull.specs.Moments.{IsOfPull}
use Rattle.sync_pull.specs.Copies.{AreListedCopies, IsRefused, RemovesFiles}
use Rattle.sync_pull.proofs.OldCopyLemmas.{listed-push, listed-same, listed-skip, removes-next, removes-none, take-more-no, take-more-yes, take-one}
use Rattle.sync_pull.proofs.old_copies.remove_first.Goals as goal
use Rattle.sync_pull.proofs.old_copies.remove_first.Goals.{then-is_old_copy, then-seen-surplus, else-seen-surplus, else-is_old_copy}

pub loop-listed-preserved : goal.loop-listed-preserved
loop-listed-preserved g c =
    let n = c.args.name.now in
    let copy = c.args.copy.now in
    let inv = c.loop-listed.invariant in
    let index = c.loop-listed.listed-index in
    let es = take index c.args.entries.now in
    let e = c.listed-item.result in
    let done = inv.chosen.0 in
    let more = take-one c.args.entries.now index e c.loop-listed-test.true c.listed-item.is in
    let old = g.S.FileStore.tree c.args.store.now in
    let was = g.S.FileStore.tree c.loop-listed.store in
    let most = c.args.surplus in
    let refused = IsRefused g.S.FileStore.gives g.S.FileStore.tree in
    let removes = λ (l : List Name) (s : g.row.S.Denot). RemovesFiles refused l old (g.S.FileStore.tree s) in
    elim c.if-is_old_copy.branch [
      | then-is_old_copy w ↦ record {
        within = (let within = inv.within in omega arith);
        chosen = (
          done ++ e.name ∷ [],
          subst (λ l. AreListedCopies n copy l (done ++ e.name ∷ [])) (sym more) (listed-push n copy es done e inv.chosen.1 (c.is_old_copy.ensures.0 w.if-is_old_copy.true)),
          (let long = length-append done (e.name ∷ []) in let seen = inv.chosen.2 in omega arith),
          λ keeps.
              elim w.if-seen-surplus.branch [
                | then-seen-surplus v ↦
                    let less : length done < most = (let is = inv.chosen.2 in omega (arith, v.if-seen-surplus.true)) in
                    subst (λ s. removes (take most (done ++ e.name ∷ [])) s) (sym (w.store-is ∙ v.store-is))
                    (subst (λ l. removes l v.remove.new.self) (sym (take-more-yes most done e.name less))
                    (removes-next refused (take most done) e.name old was _ _ v.remove.result (inv.chosen.3 keeps) (v.remove.ensures.removes keeps)
                    (λ why is. (c.loop-listed.store, refl, why, v.remove.new.self, subst (λ r. g.S.FileStore.gives c.loop-listed.store (Remove e.name) r v.remove.new.self) is v.remove.ensures.gives))))
                | else-seen-surplus v ↦
                    let more : most ≤ length done = (let is = inv.chosen.2 in omega (arith, v.if-seen-surplus.false)) in
                    subst (λ s. removes (take most (done ++ e.name ∷ [])) s) (sym (w.store-is ∙ v.store-is))
                    (subst (λ l. removes l c.loop-listed.store) (sym (take-more-no most done e.name more)) (inv.chosen.3 keeps))
              ],
        );
        calls = λ q.
            let only = λ (s : g.row.S.Denot). CallsOnly g.S.FileStore.gives (IsOfPull n q) c.args.store.now s in
            elim w.if-seen-surplus.branch [
              | then-seen-surplus v ↦ subst only (sym (w.store-is ∙ v.store-is))
                  (called c.loop-listed.store v.remove.new.self (Remove e.name) v.remove.result (inv.calls q)
                  (inr (c.is_old_copy.ensures.0 w.if-is_old_copy.true).1) v.remove.ensures.gives)
              | else-seen-surplus v ↦ subst only (sym (w.store-is ∙ v.store-is)) (inv.calls q)
            ];
      }
      | else-is_old_copy w ↦ record {
        within = (let within = inv.within in omega arith);
        chosen = (
          done,
          subst (λ l. AreListedCopies n copy l done) (sym more) (listed-skip n copy es done e inv.chosen.1 (λ p. false≢true (sym w.if-is_old_copy.false ∙ c.is_old_copy.ensures.1 p))),
          w.seen-is ∙ inv.chosen.2,
          λ keeps. subst (λ s. removes (take most done) s) (sym w.store-is) (inv.chosen.3 keeps),
        );
        calls = λ q. subst (λ s. CallsOnly g.S.FileStore.gives (IsOfPull n q) c.args.store.now s) (sym w.store-is) (inv.calls q);
      }
    ]

pub returns-clause-removes : goal.returns-clause-removes
returns-clause-removes g c = λ keeps copies listed.
    let n = c.args.name.now in
    let copy = c.args.copy.now in
    let inv = c.loop-listed.invariant in
    let all = take_all c.loop-listed.listed-index c.args.entries.now c.loop-listed-test.false in
    let done = subst (λ l. AreListedCopies n copy l inv.chosen.0) all inv.chosen.1 in
    subst (λ l. RemovesFiles (IsRefused g.S.FileStore.gives g.S.FileStore.tree) (take c.args.surplus l) (g.S.FileStore.tree c.args.store.now) (g.S.FileStore.tree c.loop-listed.store))
    (listed-same n copy c.args.entries.now inv.chosen.0 copies done listed) (inv.chosen.3 keeps)

pub loop-listed-init : goal.loop-listed-init
loop-listed-init g c = record {
  within = omega arith;
  chosen = (
    [],
    refl,
    refl,
    λ keeps. subst (λ l. RemovesFiles (IsRefused g.S.FileStore.gives g.S.FileStore.tree) l (g.S.FileStore.tree c.args.store.now) (g.S.FileStore.tree c.args.store.now))
        (sym (take_all c.args.surplus [] (omega arith))) (removes-none (IsRefused g.S.FileStore.gives g.S.FileStore.tree) (g.S.FileStore.tree c.args.store.now)),
  );
  calls = λ q. not_called;
}
