use Rattle.std.proofs.Common.{◌≡◌, Bool, false, rules, subst, suc}
use Rattle.node_pull.proofs.patient.PatientSourceBlockSource.fetch.Goals as goal

-- it was asked once more, and gave nothing
pub loop-preserved : goal.loop-preserved
loop-preserved g c =
    let no : c.in_ok-fetch.field-0 ≡ false = search rules in
    let gave = subst (λ (given : Bool). g.S.BlockSource.gives c.loop.self.source c.args.device c.args.name.now c.args.block.now given c.fetch.new.bytes.items c.fetch.new.self) no c.in_ok-fetch.ensures.gives in
    record {
      next = search rules;
      finite = search rules;
      asked = (suc c.loop.invariant.asked.0, (c.loop.self.source, c.fetch.new.bytes.items, c.loop.invariant.asked.1, gave));
    }
