use Rattle.std.proofs.Common.{Err, to_z, of_z, w32, sym, subst, ap, ◌∙◌, arith, rules}
use Rattle.std.specs.Prelude.{IsErrOf}
use Rattle.std.proofs.lemmas.Result.{err_from_is_err_and}
use Rattle.bep_frames.specs.declared.fault.WriteFault.TheVariants.{TooLong}
use Rattle.bep_frames.proofs.Written.{header_fits}
use Rattle.bep_frames.proofs.writing.put_later.Goals as goal

-- a header is never too long
pub returns-in_err-put_sized16-clause-long : goal.returns-in_err-put_sized16-clause-long
returns-in_err-put_sized16-clause-long g c is =
    let p = err_from_is_err_and c.from_residual.result c.from_residual.ensures.1 in
    let long = c.put_sized16.ensures.long (subst (λ r. IsErrOf r TooLong) (p.1 ∙ ap Err p.2 ∙ sym c.in_err-put_sized16.was) is) in
    let short = header_fits c.args.kind (to_z w32 (of_z w32 c.from.result)) (search rules) c.requires in
    absurd (omega (arith, long, short))
