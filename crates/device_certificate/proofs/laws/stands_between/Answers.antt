use Rattle.device_certificate.proofs.Between.{between}
use Rattle.device_certificate.proofs.laws.stands_between.Goals as goal

pub returns : goal.returns
returns c = λ text der before body after are one unended. between text before body after are one unended der
