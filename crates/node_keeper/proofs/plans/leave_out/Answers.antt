use Rattle.std.proofs.Common.{rules, nat_eq}
use Rattle.std.specs.Prelude.{not}
use Rattle.std.proofs.lemmas.Fn.{filter_same}
use Rattle.node_keeper.proofs.plans.leave_out.Goals as goal

pub returns : goal.returns
returns c = filter_same _ (λ pull. not (nat_eq pull.number c.args.number)) _ (λ x b f' calls. search rules) _ _ c.retain.ensures.filtered
