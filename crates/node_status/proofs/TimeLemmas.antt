-- What a moment's text is.
use Rattle.std.proofs.Common.{◌≡◌, ◌≤◌, ℕ, true, false, ◌++◌, arith, codes}
use Rattle.std.specs.Prelude.{nat_le}
use Rattle.std.proofs.lemmas.Bool.{cond-true, cond-false}
use Rattle.std.proofs.lemmas.Bool.Decides.{nat_tests}
use Rattle.sync_names.specs.Utc.{utc_time}
use Rattle.sync_version.specs.declared.moment.TheConstants.Moment.{MAX_SECONDS}
use Rattle.node_status.specs.Numbers.{number_text}
use Rattle.node_status.specs.Times.{clock_text, date_text, moment_text}

pub moment_shown : (s : ℕ) → s ≤ MAX_SECONDS → moment_text s ≡ date_text (utc_time s) ++ codes " " ++ clock_text s
moment_shown s h = let test : nat_le s MAX_SECONDS ≡ true = grind (arith, nat_tests) in cond-true (nat_le s MAX_SECONDS) _ _ test

pub moment_late : (s : ℕ) → ¬ (s ≤ MAX_SECONDS) → moment_text s ≡ number_text s ++ codes " s after 1970"
moment_late s h = let test : nat_le s MAX_SECONDS ≡ false = grind (arith, nat_tests) in cond-false (nat_le s MAX_SECONDS) _ _ test
