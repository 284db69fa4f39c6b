use Rattle.std.proofs.Common.{◌≡◌, [], arith, tests, refl}
use Rattle.std.proofs.lemmas.List.{nil_from_length}
use Rattle.device_certificate.proofs.Base64.{empty_text, none_of_empty}
use Rattle.device_certificate.proofs.identity.decode.Goals as goal

pub returns-in-Ok : goal.returns-in-Ok
returns-in-Ok c = λ der is.
    let empty : c.in-Ok.der.items ≡ [] = grind (arith, tests, nil_from_length, c.in-Ok.der.ok) in
    none_of_empty c.args.base64.now der (empty_text _ c.args.base64.now c.in-Ok.der.items _ (c.in-Ok.ensures.exact (refl, refl)) empty) is
