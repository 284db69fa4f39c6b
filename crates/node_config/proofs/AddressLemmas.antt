-- Where the text of an address is cut, and which texts mean the same.
use Rattle.std.proofs.Common.{◌≡◌, ◌≢◌, ◌∙◌, ◌↔◌, ◌==◌, ℕ, zero, suc, ◌<◌, ◌^◌, Bool, true, false, cond, List, [], ◌∷◌, ◌++◌, length, get_or, codes, decimal, Option, Some, None, Result, Ok, Err, Bor, MatchOption, ap, sym, subst, refl, arith, inl, inr}
use Rattle.std.specs.Prelude.{nat_eq}
use Rattle.std.specs.List.{All, starts_with}
use Rattle.std.specs.Net.Addr.{ipv4_octets}
use Rattle.std.specs.Net.Grammar.{IsDotted, IsIpv4Text, IsNumber, IsSocketV4Text, Parses}
use Rattle.std.specs.Net.Socket.{v4_ip, v4_port}
use Rattle.std.specs.Net.Text.{ipv4_text}
use Rattle.std.specs.Result.{result_ok}
use Rattle.std.specs.Str.Parse.{AllDigits, digits_value}
use Rattle.std.specs.declared.net.ipv4_addr.Ipv4Addr.{Ipv4Addr}
use Rattle.std.specs.declared.net.socket_addr.SocketAddrV4.{SocketAddrV4}
use Rattle.std.proofs.NetLemmas.Alphabet.{IsDigitOrDot, All-ipv4_text}
use Rattle.std.proofs.NetLemmas.Theorems.{IsSocketV4Text_unique}
use Rattle.std.proofs.lemmas.Bool.Decides.{Decides-eqb, nat_tests}
use Rattle.std.proofs.lemmas.Fmt.{decimal-digits_value, decimal_digit, decimal_step}
use Rattle.std.proofs.lemmas.List.Elements.{All-get_or}
use Rattle.std.proofs.lemmas.List.Sums.{fails_before_first}
use Rattle.std.proofs.lemmas.Slice.Eq.{starts_is}
use Rattle.std.proofs.lemmas.Str.Parse.{IsNumeralModel}
use Rattle.std.proofs.lemmas.Str.Pattern.{IsSplitOnceResult, split_after, split_parts}
use Rattle.node_config.specs.Addresses.{IsAddressText, IsEndpointText, IsHost, IsPort, is_socket_path, socket_text}
use Rattle.node_config.specs.declared.address.Endpoint.{Endpoint}
use Rattle.node_config.specs.declared.address.Endpoint.TheVariants.{Ip, Unix}

-- ---- where a text is cut

below_256 : (a b c d : ℕ) → (a < 256) × (b < 256) × (c < 256) × (d < 256) → (k : ℕ) → get_or (a ∷ b ∷ c ∷ d ∷ []) k 0 < 2 ^ 8
below_256 a b c d h zero = omega arith
below_256 a b c d h (suc zero) = omega arith
below_256 a b c d h (suc (suc zero)) = omega arith
below_256 a b c d h (suc (suc (suc zero))) = omega arith
below_256 a b c d h (suc (suc (suc (suc k)))) = omega arith

dotted_bytes : (text octets : List ℕ) → IsDotted text octets → All IsDigitOrDot text
dotted_bytes text octets h =
    subst (All IsDigitOrDot) (sym h.spelled) (All-ipv4_text (h.a ∷ h.b ∷ h.c ∷ h.d ∷ []) (below_256 h.a h.b h.c h.d h.fit))

no_colon : (byte : ℕ) → IsDigitOrDot byte → byte ≢ 58
no_colon byte h = λ e. elim h [ inl digit ↦ omega arith | inr dot ↦ omega arith ]

no_colon_local : (i : ℕ) → i < length (codes "localhost") → get_or (codes "localhost") i 0 ≢ 58
no_colon_local i within = grind (arith, nat_tests, fails_before_first (λ b. b == 58) (codes "localhost") i 0 within)

-- a host has no colon
host_colon : (host : List ℕ) (ip : Ipv4Addr) → IsHost host ip → (i : ℕ) → i < length host → get_or host i 0 ≢ 58
host_colon host ip (inl local) = subst (λ (t : List ℕ). (i : ℕ) → i < length t → get_or t i 0 ≢ 58) (sym local.0) no_colon_local
host_colon host ip (inr dotted) = λ i within. no_colon (get_or host i 0) (All-get_or IsDigitOrDot host i 0 within (dotted_bytes host (ipv4_octets ip) dotted))

cut_parts : (r : Option (Bor (List ℕ) × Bor (List ℕ))) (host digits : List ℕ) (ip : Ipv4Addr) (port : ℕ) → IsHost host ip → IsPort digits port
    → MatchOption r ⊥ (λ x. (x.0.now ≡ host) × (x.1.now ≡ digits)) → MatchOption r ⊥ (λ x. IsHost x.0.now ip × IsPort x.1.now port)
cut_parts None host digits ip port h p found = found
cut_parts (Some x) host digits ip port h p found = (subst (λ (t : List ℕ). IsHost t ip) (sym found.0) h, subst (λ (t : List ℕ). IsPort t port) (sym found.1) p)

-- the first colon of an address is that between its host and its port
cut_of : (text : List ℕ) (r : Option (Bor (List ℕ) × Bor (List ℕ))) → IsSplitOnceResult 58 text r → (address : SocketAddrV4) → IsAddressText text address
    → MatchOption r ⊥ (λ x. IsHost x.0.now (v4_ip address) × IsPort x.1.now (v4_port address))
cut_of text r split address (host, digits, spelled, h, p) =
    cut_parts r host digits (v4_ip address) (v4_port address) h p (split_after 58 text host digits r split (omega arith) spelled (host_colon host (v4_ip address) h))

pub cut_at : (text : List ℕ) (r : Option (Bor (List ℕ) × Bor (List ℕ))) → IsSplitOnceResult 58 text r
    → MatchOption r ((address : SocketAddrV4) → ¬ (IsAddressText text address))
    (λ parts. (text ≡ parts.0.now ++ (codes ":" ++ parts.1.now)) × ((address : SocketAddrV4) → IsAddressText text address → IsHost parts.0.now (v4_ip address) × IsPort parts.1.now (v4_port address)))
cut_at text None split = λ address is. cut_of text None split address is
cut_at text (Some x) split = ((split_parts 58 text (Some x) split (omega arith)).0, cut_of text (Some x) split)

-- ---- a host and a port

-- a text that is not `localhost` is a host where std parses it
pub other_host : {E : Type 0} (text : List ℕ) (r : Result Ipv4Addr E) → text ≢ codes "localhost" → Parses IsIpv4Text text r
    → MatchOption (result_ok r) ((ip : Ipv4Addr) → ¬ (IsHost text ip)) (IsHost text)
other_host text (Ok ip) other h = inr h
other_host text (Err e) other h = λ ip is. elim is [ inl local ↦ other local.0 | inr dotted ↦ h ip dotted ]

leads_alone : (digits : List ℕ) → ((rest : List ℕ) × (digits ≡ codes "0" ++ rest) × (rest ≢ []) → ⊥) → (rest : List ℕ) → digits ≡ codes "0" ++ rest → rest ≡ []
leads_alone digits none [] e = refl
leads_alone digits none (x ∷ xs) e = absurd (none (x ∷ xs, e, λ same. cc same))

-- digits that no zero leads are a port where they write a number of 16 bits
pub port_of : (digits : List ℕ) (r : Option ℕ) → ((rest : List ℕ) × (digits ≡ codes "0" ++ rest) × (rest ≢ []) → ⊥)
    → MatchOption r ((number : ℕ) → ¬ (IsNumber 10 digits number × (number < 2 ^ 16))) (λ number. IsNumber 10 digits number × (number < 2 ^ 16))
    → MatchOption r ((port : ℕ) → ¬ (IsPort digits port)) (IsPort digits)
port_of digits None none h = λ port is. h port (is.0, is.1)
port_of digits (Some port) none h = (h.0, h.1, leads_alone digits none)

-- a zero that leads, and is not alone, is in no port
pub no_port : (digits : List ℕ) → (rest : List ℕ) × (digits ≡ codes "0" ++ rest) × (rest ≢ []) → (port : ℕ) → ¬ (IsPort digits port)
no_port digits (rest, e, more) port is = more (is.2 rest e)

-- ---- where a socket is

pub no_endpoint : (text : List ℕ) → ((address : SocketAddrV4) → ¬ (IsAddressText text address))
    → ((path : List ℕ) → text ≡ codes "unix:" ++ path → is_socket_path path ≢ true) → (endpoint : Endpoint) → ¬ (IsEndpointText text endpoint)
no_endpoint text no_address no_path (Ip address) is = no_address address is
no_endpoint text no_address no_path (Unix path) is = no_path path.now is.0 is.1

-- ---- which texts mean the same

pub socket_of_local : (text rest : List ℕ) → text ≡ codes "localhost:" ++ rest → socket_text text ≡ codes "127.0.0.1:" ++ rest
socket_of_local text rest e = ap socket_text e

not_taken : (b : Bool) (xs ys : List ℕ) → b ≢ true → cond b xs ys ≡ ys
not_taken true xs ys h = absurd (h refl)
not_taken false xs ys h = refl

pub socket_of_other : (text : List ℕ) → ((rest : List ℕ) → text ≢ codes "localhost:" ++ rest) → socket_text text ≡ text
socket_of_other text other =
    not_taken (starts_with nat_eq text (codes "localhost:")) _ _ (λ begins. other _ ((starts_is Decides-eqb text (codes "localhost:") _ refl).0 begins))

no_letter : (byte : ℕ) → IsDigitOrDot byte → byte ≢ 108
no_letter byte h = λ e. elim h [ inl digit ↦ omega arith | inr dot ↦ omega arith ]

not_local : (host digits rest : List ℕ) → All IsDigitOrDot host → host ++ 58 ∷ digits ≢ codes "localhost:" ++ rest
not_local [] digits rest all = λ e.
    let first : get_or (58 ∷ digits) 0 0 ≡ 108 = ap (λ (l : List ℕ). get_or l 0 0) e in
    omega arith
not_local (x ∷ xs) digits rest all = λ e. no_letter x (All-get_or IsDigitOrDot (x ∷ xs) 0 0 (omega arith) all) (ap (λ (l : List ℕ). get_or l 0 0) e)

-- an address with dots, and a port without a leading zero
abbrev IsPlainText : List ℕ → SocketAddrV4 → Type 0
IsPlainText text address = (host digits : List ℕ) × (text ≡ host ++ 58 ∷ digits) × IsIpv4Text host (v4_ip address) × IsPort digits (v4_port address)

one_text : decimal 1 ≡ codes "1"
one_text = decimal_digit 1 (omega arith)

-- 127, by its digits
local_text : decimal 127 ≡ codes "127"
local_text =
    decimal_step 127 (omega arith) (omega arith)
    ∙ ap (λ (l : List ℕ). l ++ 55 ∷ []) (decimal_step 12 (omega arith) (omega arith) ∙ ap (λ (l : List ℕ). l ++ 50 ∷ []) one_text)

zero_text : decimal 0 ≡ codes "0"
zero_text = decimal_digit 0 (omega arith)

this_machine : (octets : List ℕ) → octets ≡ 127 ∷ 0 ∷ 0 ∷ 1 ∷ [] → IsDotted (codes "127.0.0.1") octets
this_machine octets e = record { a = 127; b = 0; c = 0; d = 1; fit = (omega arith, omega arith, omega arith, omega arith); value = e; spelled = rw (local_text, zero_text, one_text) refl }

plain_of : (text : List ℕ) (address : SocketAddrV4) → IsAddressText text address → IsPlainText (socket_text text) address
plain_of text address (host, digits, spelled, inl local, p) =
    let e : text ≡ codes "localhost:" ++ digits = spelled ∙ ap (λ (h : List ℕ). h ++ 58 ∷ digits) local.0 in
    (codes "127.0.0.1", digits, socket_of_local text digits e, this_machine _ local.1, p)
plain_of text address (host, digits, spelled, inr dotted, p) =
    let other = λ (rest : List ℕ) (e : text ≡ codes "localhost:" ++ rest). not_local host digits rest (dotted_bytes host _ dotted) (sym spelled ∙ e) in
    (host, digits, socket_of_other text other ∙ spelled, dotted, p)

v4_of : (text : List ℕ) (address : SocketAddrV4) → IsPlainText text address → IsSocketV4Text text address
v4_of text address (host, digits, spelled, dotted, p) = (host, 58 ∷ digits, spelled, dotted, (digits, refl, p.0, p.1))

alone : (digits : List ℕ) → ((rest : List ℕ) → digits ≡ codes "0" ++ rest → rest ≡ []) → get_or digits 0 0 ≡ 48 → length digits ≡ 1
alone [] h e = absurd (omega arith)
alone (x ∷ xs) h e = ap (λ (l : List ℕ). length (x ∷ l)) (h xs (ap (λ (y : ℕ). y ∷ xs) e))

own : IsNumeralModel (AllDigits 10) (digits_value 10)
own = record { to = λ ds h. h; from = λ ds h. h; same = λ ds h. refl }

port_text : (digits : List ℕ) (port : ℕ) → IsPort digits port → digits ≡ decimal port
port_text digits port (number, fits, leading) =
    sym (decimal-digits_value own digits number.0.1 number.0.0 (alone digits leading) (omega arith)) ∙ ap decimal number.1

-- one text of those that mean it
text_of_plain : (text : List ℕ) (address : SocketAddrV4) → IsPlainText text address → text ≡ ipv4_text (ipv4_octets (v4_ip address)) ++ 58 ∷ decimal (v4_port address)
text_of_plain text address (host, digits, spelled, dotted, p) =
    let host_is : host ≡ ipv4_text (ipv4_octets (v4_ip address)) = dotted.spelled ∙ ap ipv4_text (sym dotted.value) in
    spelled ∙ ap (λ (h : List ℕ). h ++ 58 ∷ digits) host_is ∙ ap (λ (ds : List ℕ). ipv4_text (ipv4_octets (v4_ip address)) ++ 58 ∷ ds) (port_text digits (v4_port address) p)

pub same_socket : (text other : List ℕ) (a b : SocketAddrV4) → IsAddressText text a → IsAddressText other b → (socket_text text ≡ socket_text other) ↔ (a ≡ b)
same_socket text other a b h k =
    let one = plain_of text a h in
    let two = plain_of other b k in (
      (λ e. IsSocketV4Text_unique (socket_text text) a b (v4_of _ a one) (subst (λ (t : List ℕ). IsSocketV4Text t b) (sym e) (v4_of _ b two))),
      (λ e. text_of_plain _ a one ∙ ap (λ (x : SocketAddrV4). ipv4_text (ipv4_octets (v4_ip x)) ++ 58 ∷ decimal (v4_port x)) e ∙ sym (text_of_plain _ b two)),
    )
