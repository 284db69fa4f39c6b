use Rattle.std.proofs.Common.{ap, arith, refl, subst, sym, ◌∙◌}
use Rattle.std.specs.Prelude.{◌≢◌, IfSome, slice_get}
use Rattle.sync_record.specs.Assemblies.{Assembling, put_answer}
use Rattle.sync_record.specs.declared.put.Put.TheVariants.{Ok}
use Rattle.sync_record.specs.Records.{FileRecord}
use Rattle.sync_pull.specs.Sources.{not_asked}
use Rattle.sync_pull.proofs.SourceLemmas.{asks-on, at-place, no-bytes-all, no-bytes-me, no-bytes-next, none-given, of-place, refused-at}
use Rattle.sync_pull.proofs.fetch.try_devices.Goals as goal
use Rattle.sync_pull.proofs.fetch.try_devices.Goals.{else-branch-via-then-branch+else-try_bytes, else-branch-via-else-branch}

pub loop-i-init : goal.loop-i-init
loop-i-init g c = record {
  same = refl;
  asks = not_asked;
  none = at-place _ c.args.assembly.now.target.blocks c.blocks-2.result.now c.args.index _ (c.blocks-2.ensures ∙ ap (λ (r : FileRecord). r.blocks) c.target.ensures) c.requires.index c.requires.asked;
}

pub loop-i-preserved-then-eq : goal.loop-i-preserved-then-eq
loop-i-preserved-then-eq g c = record {
  same = c.loop-i.invariant.same;
  asks = c.loop-i.invariant.asks;
  none = no-bytes-me g.B.BlockSource.gives c.args.fetch.now.name.now c.args.fetch.now.me _ c.args.fetch.now.devices.now c.loop-i.i c.index-fetch-i.result _
      c.loop-i-test.true (sym c.eq.ensures ∙ c.if-eq.true) c.loop-i.invariant.none;
}

pub returns-then-try_bytes-clause-asks : goal.returns-then-try_bytes-clause-asks
returns-then-try_bytes-clause-asks g c =
    asks-on g.B.BlockSource.gives c.args.fetch.now.name.now _ _ _ _ _ _ _ c.loop-i.invariant.asks c.in_ok-fetch.ensures.gives

pub loop-i-preserved : goal.loop-i-preserved
loop-i-preserved g c = record {
  same = elim c.else-branch.branch [
    | else-branch-via-then-branch+else-try_bytes w ↦ w.assembly-is ∙ w.if-try_bytes.ensures.same ∙ c.loop-i.invariant.same
    | else-branch-via-else-branch w ↦ w.assembly-is ∙ c.loop-i.invariant.same
  ];
  asks = asks-on g.B.BlockSource.gives c.args.fetch.now.name.now _ _ _ _ _ _ _ c.loop-i.invariant.asks c.in_ok-fetch.ensures.gives;
  none = no-bytes-next g.B.BlockSource.gives c.args.fetch.now.name.now c.args.fetch.now.me _ c.args.fetch.now.devices.now c.loop-i.i c.index-fetch-i.result c.in_ok-fetch.field-0
      c.fetch.new.bytes.items _ _ c.loop-i-test.true c.loop-i.invariant.none c.in_ok-fetch.ensures.gives
      (elim c.else-branch.branch [
        | else-branch-via-then-branch+else-try_bytes w ↦
            refused-at c.args.assembly.now.target.blocks c.blocks-2.result.now c.args.index _ c.in_ok-fetch.field-0 w.as_slice.result.now c.fetch.new.bytes.items
            (c.blocks-2.ensures ∙ ap (λ (r : FileRecord). r.blocks) c.target.ensures) c.requires.index w.as_slice.ensures.value
            (subst (λ (a : Assembling). IfSome (slice_get a.target.blocks c.args.index) (λ b. put_answer b w.as_slice.result.now ≢ Ok)) c.loop-i.invariant.same w.if-try_bytes.ensures.other)
        | else-branch-via-else-branch w ↦ none-given _ _ w.if-branch.false
      ]);
}

pub returns-clause-put : goal.returns-clause-put
returns-clause-put g c = (
  c.loop-i.invariant.same,
  of-place _ c.args.assembly.now.target.blocks c.blocks-2.result.now c.args.index _ (c.blocks-2.ensures ∙ ap (λ (r : FileRecord). r.blocks) c.target.ensures) c.requires.index
      (no-bytes-all g.B.BlockSource.gives c.args.fetch.now.name.now c.args.fetch.now.me _ c.args.fetch.now.devices.now c.loop-i.i _ (let h = c.loop-i-test in omega arith) c.loop-i.invariant.none),
)
