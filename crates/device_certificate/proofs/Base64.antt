-- A text is the Base64 of one list of bytes at most.
use Rattle.std.proofs.Common.{◌≡◌, List, [], ℕ, true, ap, sym, ◌∙◌, refl, arith}
use Rattle.std.specs.Prelude.{Ok, Err, Result}
use Rattle.base64.specs.Engines.{standard}
use Rattle.base64.specs.Rfc4648.{encode}
use Rattle.base64.specs.GeneralPurpose.{decode_of, encode_of, IsBytes}
use Rattle.base64.specs.declared.decode.DecodeError.{DecodeError}
use Rattle.base64.proofs.EngineFacts.{decode_of-encode_of, encode_of-nil, encode-nil}
use Rattle.device_certificate.specs.Certificate.{IsBase64Of}

abbrev bytes_of : Result (List ℕ) DecodeError → List ℕ
bytes_of (Ok bytes) = bytes
bytes_of (Err e) = []

encodes_once : (a b : List ℕ) → IsBytes a → IsBytes b → encode_of standard a ≡ encode_of standard b → a ≡ b
encodes_once a b x y same =
    ap bytes_of (sym (decode_of-encode_of standard a refl x) ∙ (ap (λ text. decode_of standard text) same ∙ decode_of-encode_of standard b refl y))

pub one_base64 : (text a b : List ℕ) → IsBase64Of text a → IsBase64Of text b → a ≡ b
one_base64 text a b x y = encodes_once a b x.1 y.1 (sym x.2 ∙ y.2)

-- the text of no bytes is empty
pub empty_text : (symbols text bytes : List ℕ) (pad : ℕ) → text ≡ encode symbols pad true bytes → bytes ≡ [] → text ≡ []
empty_text symbols text bytes pad is none = is ∙ (ap (λ b. encode symbols pad true b) none ∙ encode-nil symbols pad true)

no_bytes : IsBytes []
no_bytes i = omega arith

-- at least one byte has a text that is not empty
pub none_of_empty : (text bytes : List ℕ) → text ≡ [] → IsBase64Of text bytes → ⊥
none_of_empty text bytes empty is =
    is.0 (encodes_once bytes [] is.1 no_bytes (sym is.2 ∙ (empty ∙ sym (encode_of-nil standard))))
