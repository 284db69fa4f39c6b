-- The texts that say where a socket is, and which of them mean the same.
use Rattle.std.specs.Prelude.{◌≡◌, ◌⊎◌, ℕ, ◌^◌, ◌<◌, Bool, true, not, ◌&&◌, nat_le, List, [], ◌∷◌, ◌++◌, length, drop, codes, nat_eq, if◌then◌else◌}
use Rattle.std.specs.List.{list_any, starts_with}
use Rattle.std.specs.Net.Addr.{ipv4_octets}
use Rattle.std.specs.Net.Grammar.{IsIpv4Text, IsNumber}
use Rattle.std.specs.Net.Socket.{v4_ip, v4_port}
use Rattle.std.specs.declared.net.ipv4_addr.Ipv4Addr.{Ipv4Addr}
use Rattle.std.specs.declared.net.socket_addr.SocketAddrV4.{SocketAddrV4}
use Rattle.node_config.specs.declared.address.Endpoint.{Endpoint}
use Rattle.node_config.specs.declared.address.Endpoint.TheVariants.{Ip, Unix}

-- decimal digits, at least one, that write a port; no zero leads
abbrev pub IsPort : List ℕ → ℕ → Type 0
IsPort digits port = IsNumber 10 digits port × (port < 2 ^ 16) × ((rest : List ℕ) → digits ≡ codes "0" ++ rest → rest ≡ [])

-- `localhost`, which is 127.0.0.1, or four numbers with dots between them
abbrev pub IsHost : List ℕ → Ipv4Addr → Type 0
IsHost text ip = ((text ≡ codes "localhost") × (ipv4_octets ip ≡ 127 ∷ 0 ∷ 0 ∷ 1 ∷ [])) ⊎ IsIpv4Text text ip

-- the text is this address: a host, a colon and a port
abbrev pub IsAddressText : List ℕ → SocketAddrV4 → Type 0
IsAddressText text address =
    (host digits : List ℕ) × (text ≡ host ++ (codes ":" ++ digits)) × IsHost host (v4_ip address) × IsPort digits (v4_port address)

-- an absolute path that has 107 bytes at most, and no byte 0
abbrev pub is_socket_path : List ℕ → Bool
is_socket_path path = starts_with nat_eq path (codes "/") && nat_le (length path) 107 && not (list_any (λ byte. nat_eq byte 0) path)

-- the text is this address, or `unix:` and this path of a socket
abbrev pub IsEndpointText : List ℕ → Endpoint → Type 0
IsEndpointText text (Ip address) = IsAddressText text address
IsEndpointText text (Unix path) = (text ≡ codes "unix:" ++ path.now) × (is_socket_path path.now ≡ true)

-- a text that begins with `localhost:`, with `127.0.0.1:` in its place, and any other as it is
abbrev pub socket_text : List ℕ → List ℕ
socket_text text = if starts_with nat_eq text (codes "localhost:") then codes "127.0.0.1:" ++ drop (length (codes "localhost:")) text else text
