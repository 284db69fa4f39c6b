use Rattle.std.proofs.Common.{rules}
use Rattle.std.specs.Prelude.{bytes_eq, not}
use Rattle.std.proofs.lemmas.Fn.{filter_same}
use Rattle.bepd_run.proofs.plans.leave_out.Goals as goal

pub returns : goal.returns
returns c = filter_same _ (λ f. not (bytes_eq f.id c.args.id.now)) _ (λ x b f' calls. search rules) _ _ c.retain.ensures.filtered
