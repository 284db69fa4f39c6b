use Rattle.std.proofs.Common.{◌≡◌, ap, rules, subst, sym}
use Rattle.std.specs.Prelude.{IsSome, Some, option_copied}
use Rattle.sync_names.specs.Made.{conflict_text}
use Rattle.sync_names.specs.Refusal.{refusal}
use Rattle.sync_pull.specs.Plans.{copy_name}
use Rattle.sync_pull.proofs.FailLemmas.{refused-some}
use Rattle.sync_pull.proofs.plan.plan_copy.Goals as goal

pub returns-in_default-fault-clause-planned : goal.returns-in_default-fault-clause-planned
returns-in_default-fault-clause-planned c =
    let n = c.args.name.now in
    let base : option_copied c.args.base ≡ Some c.in-Some.base.now = ap option_copied c.in-Some.is in
    let told = refused-some (conflict_text n c.args.moment c.modified_by.result) c.in-Err.fault c.in-Err.ensures.answer c.in_default-fault.not-OutOfMemory in (
      search rules,
      subst (λ b. IsSome (refusal (copy_name n c.args.moment b))) (sym base)
          (subst (λ k. IsSome (refusal (conflict_text n c.args.moment k))) c.modified_by.ensures told),
    )
