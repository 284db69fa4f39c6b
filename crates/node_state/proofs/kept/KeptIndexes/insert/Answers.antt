use Rattle.std.proofs.Common.{List, map, ap, sym, subst, ◌∙◌}
use Rattle.std.specs.FinMap.{insert, is_sorted}
use Rattle.std.specs.Prelude.{Result, Ok, Err, IsTrue, OnOk, OnErr}
use Rattle.sync_record.specs.Devices.{bytes_cmp}
use Rattle.node_state.specs.declared.kept.PeerIndex.{PeerIndex}
use Rattle.node_state.specs.Peers.{Peers, pair}
use Rattle.node_state.proofs.PeerMaps.{put-adds, put-sorted}
use Rattle.node_state.proofs.kept.KeptIndexes.insert.Goals as goal

by_result : {T E : Type 0} {P Q R : Type 0} (r : Result T E) → OnOk r P → OnErr r Q → (P → R) → (Q → R) → R
by_result (Ok x) p q f g = f p
by_result (Err e) p q f g = g q

ok_then : {T E P Q : Type 0} (r : Result T E) → OnOk r P → (P → Q) → OnOk r Q
ok_then (Ok x) p f = f p
ok_then (Err e) p f = tt

pub invariant_of-self : goal.invariant_of-self
invariant_of-self c =
    let old = c.self.inside.kept.items in
    let new = c.put.new.kept.items in
    by_result c.put.result c.put.ensures.ok c.put.ensures.err
    (λ is. put-sorted (map pair old) (map pair new) c.args.device c.args.index_id c.self.invariant is)
    (λ same. subst (λ (ps : List PeerIndex). IsTrue (is_sorted bytes_cmp (map pair ps))) (sym same) c.self.invariant)

pub returns-clause-ok : goal.returns-clause-ok
returns-clause-ok c =
    let old = c.self.inside.kept.items in
    let new = c.put.new.kept.items in
    ok_then c.put.result c.put.ensures.ok
    (λ is. put-adds (map pair old) (map pair new) c.args.device c.args.index_id c.self.invariant is
    ∙ ap (λ (m : Peers). insert m c.args.device c.args.index_id) c.self.view_is)
