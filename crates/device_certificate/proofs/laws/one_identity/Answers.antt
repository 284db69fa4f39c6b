use Rattle.std.proofs.Common.{ap, sym, ◌∙◌}
use Rattle.sha2.specs.Sha256.{sha256}
use Rattle.device_certificate.proofs.Base64.{one_base64}
use Rattle.device_certificate.proofs.laws.one_identity.Goals as goal

pub returns : goal.returns
returns c = λ text a b x y. x.2 ∙ ap sha256 (one_base64 _ x.0 y.0 x.1.1 y.1.1) ∙ sym y.2
