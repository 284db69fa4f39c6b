use Rattle.std.proofs.Common.{◌≡◌, Some, ℕ, ◌≤◌, ◌<◌, ◌^◌, ◌∙◌, ap, sym, subst, arith, pos, ◌*ℤ◌, ℤ, w64, to_z, of_z, unsigned_abs, false, true}
use Rattle.std.specs.Int.{FitsUnsignedBits}
use Rattle.jiff_core.specs.DateTime.{civil_nanos}
use Rattle.jiff_core.proofs.SignedLemmas.{back_small, signed_arith}
use Rattle.sync_names.specs.Utc.{IsUtc}
use Rattle.sync_names.specs.declared.utc.UtcTime.{UtcTime}
use Rattle.sync_version.specs.declared.moment.TheConstants.Moment.{MAX_SECONDS}
use Rattle.file_dir.specs.Versions.{IsShown}
use Rattle.file_dir.proofs.VersionLemmas.{bounds, fits_timestamp, in_seconds, is_some, nanos, signed_shown}
use Rattle.file_dir.proofs.stamp.moment_at.Goals as goal

pub returns-in_default-to_timestamp : goal.returns-in_default-to_timestamp
returns-in_default-to_timestamp c = λ moment shown small u known.
    let k = signed_shown shown _ _ _ _ _ _ (bounds moment shown u) known in
    let v = c.in-Ok.ensures.value in
    let n = nanos moment shown c.in-Ok.shown u (v.0.0 ∙ k.year_is) (v.0.1 ∙ k.month_is) (v.0.2 ∙ k.day_is) (v.1.0 ∙ k.hour_is) (v.1.1 ∙ k.minute_is) (v.1.2 ∙ k.second_is) v.1.3 in
    let bad : false ≡ true = c.in_default-to_timestamp.ensures.succeeds.1 (fits_timestamp moment _ small n) in
    cc

pub returns-in_default-try_from : goal.returns-in_default-try_from
returns-in_default-try_from c = λ moment shown small u known.
    let k = signed_shown shown _ _ _ _ _ _ (bounds moment shown u) known in
    let v = c.in-Ok.ensures.value in
    let n = nanos moment shown c.in-Ok.shown u (v.0.0 ∙ k.year_is) (v.0.1 ∙ k.month_is) (v.0.2 ∙ k.day_is) (v.1.0 ∙ k.hour_is) (v.1.1 ∙ k.minute_is) (v.1.2 ∙ k.second_is) v.1.3 in
    let s : c.as_second.result ≡ pos moment = in_seconds moment _ _ _ n c.in-Ok-to_timestamp.ensures.value c.as_second.ensures in
    let e : to_z w64 (of_z w64 c.as_second.result) ≡ pos moment = ap (λ (z : ℤ). to_z w64 (of_z w64 z)) s ∙ back_small w64 (pos moment) (omega arith) in
    absurd (c.in_default-try_from.ensures (let fits : moment < 2 ^ 64 = omega arith in subst (FitsUnsignedBits 64) (sym e) fits))

pub returns : goal.returns
returns c = λ moment shown small u known.
    let k = signed_shown shown _ _ _ _ _ _ (bounds moment shown u) known in
    let v = c.in-Ok.ensures.value in
    let n = nanos moment shown c.in-Ok.shown u (v.0.0 ∙ k.year_is) (v.0.1 ∙ k.month_is) (v.0.2 ∙ k.day_is) (v.1.0 ∙ k.hour_is) (v.1.1 ∙ k.minute_is) (v.1.2 ∙ k.second_is) v.1.3 in
    let s : c.as_second.result ≡ pos moment = in_seconds moment _ _ _ n c.in-Ok-to_timestamp.ensures.value c.as_second.ensures in
    let e : to_z w64 (of_z w64 c.as_second.result) ≡ pos moment = ap (λ (z : ℤ). to_z w64 (of_z w64 z)) s ∙ back_small w64 (pos moment) (omega arith) in
    let seconds : c.in-Ok-try_from.seconds ≡ moment = c.in-Ok-try_from.ensures.1 ∙ ap unsigned_abs e in
    subst (λ (x : ℕ). c.new-2.result ≡ Some x) seconds (is_some c.new-2.result c.in-Ok-try_from.seconds (c.new-2.ensures.range.1 (omega (arith, seconds))) c.new-2.ensures.value)
