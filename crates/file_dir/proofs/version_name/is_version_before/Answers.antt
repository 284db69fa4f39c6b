use Rattle.std.proofs.Common.{◌≡◌, ◌∙◌, ◌<◌, ◌≤◌, sym, Some, None, true, false, arith}
use Rattle.std.proofs.lemmas.Bool.{lt-ltb}
use Rattle.sync_version.specs.declared.moment.TheConstants.Moment.{MAX_SECONDS}
use Rattle.file_dir.proofs.VersionLemmas.{some_is}
use Rattle.file_dir.proofs.version_name.is_version_before.Goals as goal
use borrow.Author.Tests.{ltb-true}

pub returns-in-Some : goal.returns-in-Some
returns-in-Some c =
    let s = c.seconds.ensures in (
      (λ h. let small : c.in-Some.moment ≤ MAX_SECONDS = omega (arith, s.value, s.range) in
          let before : c.in-Some.moment < c.args.seconds = omega (arith, s.value, ltb-true c.seconds.result c.args.seconds h) in
          (c.in-Some.moment, small, before, c.in-Some.ensures.found)),
      (λ h. let same = some_is c.in-Some.moment h.0 (c.in-Some.ensures.all h.0 h.1 h.3) in
          lt-ltb c.seconds.result c.args.seconds (omega (arith, s.value, same, h.2))),
    )

pub returns-in-None : goal.returns-in-None
returns-in-None c = (
  (λ h. let no : false ≡ true = h in cc),
  (λ h. let no = sym c.in-None.is ∙ c.moment_of_version.ensures.all h.0 h.1 h.3 in cc),
)
