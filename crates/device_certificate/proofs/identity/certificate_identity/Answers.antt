use Rattle.std.proofs.Common.{sym, ◌∙◌, ap, inl, Ok}
use Rattle.sha2.specs.Sha256.{sha256}
use Rattle.device_certificate.proofs.Base64.{one_base64}
use Rattle.device_certificate.proofs.identity.certificate_identity.Goals as goal

pub returns-clause-found : goal.returns-clause-found
returns-clause-found c = λ identity is.
    let same = one_base64 _ c.in_ok-der.der.items is.0 c.in_ok-der.ensures.value.1 is.1.1 in
    inl (ap Ok (c.digest.ensures ∙ (ap sha256 (c.as_slice.ensures.value ∙ same) ∙ sym is.2)))
