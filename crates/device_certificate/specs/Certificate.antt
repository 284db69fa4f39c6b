-- The certificate in the text of a PEM file (RFC 7468, sections 2 and 5.1), and its identity.
use Rattle.std.specs.Prelude.{◌≡◌, ◌≢◌, ℕ, ◌≤◌, Bool, true, false, List, [], codes}
use Rattle.std.specs.List.{count_by, list_any, before_first, after_first, concat}
use Rattle.sha2.specs.Sha256.{sha256}
use Rattle.base64.specs.Engines.{standard}
use Rattle.base64.specs.GeneralPurpose.{encode_of, IsBytes}
use Rattle.device_certificate.specs.declared.fault.CertificateFault.{CertificateFault}
use Rattle.device_certificate.specs.declared.fault.CertificateFault.TheVariants.{NoCertificate, Unended, Several, NotBase64, OutOfMemory}
use Rattle.device_certificate.specs.Lines.{lines, is_line}

-- the line that begins a certificate (RFC 7468, sections 2 and 5.1)
abbrev pub begin_line : List ℕ
begin_line = codes "-----BEGIN CERTIFICATE-----"

-- the line that ends a certificate (RFC 7468, sections 2 and 5.1)
abbrev pub end_line : List ℕ
end_line = codes "-----END CERTIFICATE-----"

-- how many lines begin a certificate
abbrev pub begins : List ℕ → ℕ
begins text = count_by (is_line begin_line) (lines text)

-- the lines after the first begin
abbrev pub lines_after_begin : List ℕ → List (List ℕ)
lines_after_begin text = after_first (is_line begin_line) (lines text)

-- some line after the first begin ends a certificate
abbrev pub has_end : List ℕ → Bool
has_end text = list_any (is_line end_line) (lines_after_begin text)

-- the text begins one certificate, and ends it (own rule: a file with more is refused)
abbrev pub HasCertificate : List ℕ → Type 0
HasCertificate text = (begins text ≡ 1) × (has_end text ≡ true)

-- the lines between the begin and the first end after it, put together (RFC 7468, section 3)
abbrev pub certificate_base64 : List ℕ → List ℕ
certificate_base64 text = concat (before_first (is_line end_line) (lines_after_begin text))

-- the text is the Base64 (RFC 4648, section 4) of the bytes, of which there is one at least
abbrev pub IsBase64Of : List ℕ → List ℕ → Type 0
IsBase64Of text bytes = (bytes ≢ []) × IsBytes bytes × (text ≡ encode_of standard bytes)

-- the certificate in DER form: the bytes whose Base64 stands between begin and end
abbrev pub IsCertificate : List ℕ → List ℕ → Type 0
IsCertificate text der = HasCertificate text × IsBase64Of (certificate_base64 text) der

-- the SHA-256 (FIPS 180-4, section 6.2) of the text's certificate (Syncthing, "Device IDs")
abbrev pub IsCertificateIdentity : List ℕ → List ℕ → Type 0
IsCertificateIdentity text identity = (der : List ℕ) × IsCertificate text der × (identity ≡ sha256 der)

-- why a text has no identity (own rule); only a certificate with its end needs memory
abbrev pub HasFault : List ℕ → CertificateFault → Type 0
HasFault text NoCertificate = begins text ≡ 0
HasFault text Several = 2 ≤ begins text
HasFault text Unended = (begins text ≡ 1) × (has_end text ≡ false)
HasFault text NotBase64 = HasCertificate text × ((der : List ℕ) → IsBase64Of (certificate_base64 text) der → ⊥)
HasFault text OutOfMemory = HasCertificate text
