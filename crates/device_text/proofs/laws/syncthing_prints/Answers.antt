use Rattle.std.proofs.Common.{refl}
use Rattle.device_text.specs.Base32.{digits}
use Rattle.device_text.specs.Checks.{luhn_sum}
use Rattle.device_text.proofs.laws.syncthing_prints.Goals as goal

pub returns-clause-first : goal.returns-clause-first
unfolding digits luhn_sum
returns-clause-first c = refl

pub returns-clause-second : goal.returns-clause-second
unfolding digits luhn_sum
returns-clause-second c = refl

pub returns-clause-third : goal.returns-clause-third
unfolding digits luhn_sum
returns-clause-third c = refl
