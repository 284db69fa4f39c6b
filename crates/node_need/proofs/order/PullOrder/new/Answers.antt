use Rattle.std.proofs.Common.{◌≡◌, ◌∙◌, ◌++◌, Err, Ok, Option, Result, ap, arith, refl, sym}
use Rattle.std.specs.Global.{Vec}
use Rattle.std.specs.Prelude.{IfOk}
use Rattle.std.proofs.lemmas.List.{append-nil}
use Rattle.node_need.specs.declared.wanted.Wanted.{Wanted}
use Rattle.node_need.specs.Orders.{listed}
use Rattle.node_need.specs.Retries.{retry_at}
use Rattle.node_need.proofs.ChoiceLemmas.{goes_begin, goes_end, goes_next}
use Rattle.node_need.proofs.order.PullOrder.new.Goals as goal
use Rattle.node_need.proofs.order.PullOrder.new.Goals.{in-Some+in_ok-push-in-Some, in-None}

ok_then : {T E : Type 0} {P Q : T → Type 0} (r : Result T E) → IfOk r P → ((x : T) → P x → Q x) → IfOk r Q
ok_then (Ok x) h f = f x h
ok_then (Err e) h f = tt

pub loop-name-init : goal.loop-name-init
loop-name-init g c = record {
  folder = refl;
  on =
      goes_begin c.args.up.now c.args.is_later c.args.needed.now (g.W.FolderCalls.view c.args.calls.now) (retry_at c.args.retries.now)
      c.new-wanted.result.items c.new-wanted.ensures.items;
}

pub loop-name-preserved : goal.loop-name-preserved
loop-name-preserved g c =
    let more : c.match-branch-2.wanted.items ≡ c.loop-name.wanted.items ++ listed c.in_ok-one.field-0 =
    elim c.match-branch-2.branch [
      | in-Some+in_ok-push-in-Some w ↦ ap (λ (v : Vec Wanted). v.items) w.wanted-is ∙ w.in_ok-push-in-Some.ensures.items
          ∙ ap (λ (o : Option Wanted). c.loop-name.wanted.items ++ listed o) (sym w.in-Some.is)
      | in-None w ↦ ap (λ (v : Vec Wanted). v.items) w.wanted-is ∙ sym (append-nil c.loop-name.wanted.items)
          ∙ ap (λ (o : Option Wanted). c.loop-name.wanted.items ++ listed o) (sym w.in-None.is)
    ] in
    record {
      folder = c.in_ok-one.ensures.folder ∙ c.loop-name.invariant.folder;
      on =
          goes_next c.args.up.now c.args.is_later c.args.needed.now (g.W.FolderCalls.view c.args.calls.now) (retry_at c.args.retries.now)
          c.loop-name.name-index c.name-item.result (omega arith) c.name-item.is c.loop-name.wanted.items (g.W.FolderCalls.view c.loop-name.calls) (retry_at c.loop-name.retries)
          c.loop-name.invariant.on c.in_ok-one.field-0 (g.W.FolderCalls.view c.choose.new.calls) (retry_at c.choose.new.retries) c.in_ok-one.ensures.chosen
          c.match-branch-2.wanted.items more;
    }

pub returns-clause-order : goal.returns-clause-order
returns-clause-order g c =
    ok_then c.ordered.result c.ordered.ensures (λ o is. record {
      wanted = c.loop-name.wanted.items;
      chosen =
          goes_end c.args.up.now c.args.is_later c.args.needed.now (g.W.FolderCalls.view c.args.calls.now) (retry_at c.args.retries.now)
          c.loop-name.name-index (omega arith) c.loop-name.wanted.items (g.W.FolderCalls.view c.loop-name.calls) (retry_at c.loop-name.retries) c.loop-name.invariant.on;
      order = is;
    })
