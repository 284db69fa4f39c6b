use Rattle.std.proofs.Common.{inr, sym, ◌∙◌}
use Rattle.sync_pull.specs.Sources.{nobody, not_asked}
use Rattle.sync_pull.proofs.SourceLemmas.{asks-on, none-given, other-length, vain-me, vain-next}
use Rattle.sync_pull.proofs.fetch.ask_devices.Goals as goal
use Rattle.sync_pull.proofs.fetch.ask_devices.Goals.{else-branch-via-then-branch+else-len-from, else-branch-via-else-branch}

pub loop-i-init : goal.loop-i-init
loop-i-init g c = record { asks = not_asked; vain = nobody c.args.source.now }

pub loop-i-preserved-then-eq : goal.loop-i-preserved-then-eq
loop-i-preserved-then-eq g c = record {
  asks = c.loop-i.invariant.asks;
  vain = vain-me g.B.BlockSource.gives c.args.fetch.now.name.now c.args.fetch.now.me c.args.block.now c.args.fetch.now.devices.now c.loop-i.i c.index-fetch-i.result _
      c.loop-i-test.true (sym c.eq.ensures ∙ c.if-eq.true) c.loop-i.invariant.vain;
}

pub returns-then-len-from-clause-asks : goal.returns-then-len-from-clause-asks
returns-then-len-from-clause-asks g c =
    asks-on g.B.BlockSource.gives c.args.fetch.now.name.now _ _ _ _ _ _ _ c.loop-i.invariant.asks c.in_ok-fetch.ensures.gives

pub returns-then-len-from-clause-finds : goal.returns-then-len-from-clause-finds
returns-then-len-from-clause-finds g c = (
  cc,
  λ wrong. inr (vain-next g.B.BlockSource.gives c.args.fetch.now.name.now c.args.fetch.now.me c.args.block.now c.args.fetch.now.devices.now c.loop-i.i c.index-fetch-i.result c.in_ok-fetch.field-0
      c.fetch.new.bytes.items _ _ c.loop-i-test.true c.loop-i.invariant.vain c.in_ok-fetch.ensures.gives (λ _. wrong)),
)

pub loop-i-preserved : goal.loop-i-preserved
loop-i-preserved g c = record {
  asks = asks-on g.B.BlockSource.gives c.args.fetch.now.name.now _ _ _ _ _ _ _ c.loop-i.invariant.asks c.in_ok-fetch.ensures.gives;
  vain = vain-next g.B.BlockSource.gives c.args.fetch.now.name.now c.args.fetch.now.me c.args.block.now c.args.fetch.now.devices.now c.loop-i.i c.index-fetch-i.result c.in_ok-fetch.field-0
      c.fetch.new.bytes.items _ _ c.loop-i-test.true c.loop-i.invariant.vain c.in_ok-fetch.ensures.gives
      (elim c.else-branch.branch [
        | else-branch-via-then-branch+else-len-from w ↦ other-length c.args.block.now _ _ (λ same. w.if-len-from.false cc)
        | else-branch-via-else-branch w ↦ none-given _ _ w.if-branch.false
      ]);
}
