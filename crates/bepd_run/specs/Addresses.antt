-- How a connection with a peer comes about, by its configuration (own rule).
use Rattle.std.specs.Prelude.{◌≡◌, ◌++◌, ⊤, ℕ, List, codes, true}
use Rattle.std.specs.declared.net.socket_addr.SocketAddr.TheVariants.{V4, V6}
use Rattle.node_config.specs.Addresses.{IsAddressText, IsEndpointText, is_socket_path}
use Rattle.node_config.specs.declared.address.Endpoint as config
use Rattle.node_config.specs.declared.config.PeerAddress.{PeerAddress}
use Rattle.node_config.specs.declared.config.PeerAddress.TheVariants as told
use Rattle.node_context.specs.declared.endpoint.Endpoint.{Endpoint}
use Rattle.node_context.specs.declared.endpoint.Endpoint.TheVariants.{Ip, Unix}
use Rattle.node_context.specs.declared.fault.NodeFault.{NodeFault}
use Rattle.node_context.specs.declared.fault.NodeFault.TheVariants.{BadAddress, OutOfMemory}
use Rattle.node_threads.specs.declared.peers.NodeAddress.{NodeAddress}
use Rattle.node_threads.specs.declared.peers.NodeAddress.TheVariants.{Dial, Listen}
use Rattle.bepd_run.specs.declared.failure.RunFailure.{RunFailure}
use Rattle.bepd_run.specs.declared.failure.RunFailure.TheVariants as failure

-- the text says that the socket is there
abbrev pub IsEndpoint : List ℕ → Endpoint → Type 0
IsEndpoint text (Ip (V4 address)) = IsAddressText text address
IsEndpoint text (Ip (V6 address)) = ⊥
IsEndpoint text (Unix path) = (text ≡ codes "unix:" ++ path) × (is_socket_path path ≡ true)

-- it says so of none
abbrev pub IsNoEndpoint : List ℕ → Type 0
IsNoEndpoint text = (endpoint : config.Endpoint) → IsEndpointText text endpoint → ⊥

-- it says so by the path of a Unix socket
abbrev pub IsOfPath : List ℕ → Type 0
IsOfPath text = (path : List ℕ) × (text ≡ codes "unix:" ++ path) × (is_socket_path path ≡ true)

-- why it isn't read: it says so of none, or memory ran out for a path
abbrev pub IsFaultOf : List ℕ → NodeFault → Type 0
IsFaultOf text BadAddress = IsNoEndpoint text
IsFaultOf text OutOfMemory = IsOfPath text
IsFaultOf text _ = ⊥

abbrev pub text_of : PeerAddress → List ℕ
text_of (told.Dial text) = text
text_of (told.Listen text) = text

-- a node dials where the configuration has `dial`, and listens where it has `listen`
abbrev pub IsReadAs : PeerAddress → NodeAddress → Type 0
IsReadAs (told.Dial text) (Dial endpoint) = IsEndpoint text endpoint
IsReadAs (told.Listen text) (Listen endpoint) = IsEndpoint text endpoint
IsReadAs _ _ = ⊥

-- the run ends for that, named, or since memory ran out for it or the name
abbrev pub IsRefused : PeerAddress → RunFailure → Type 0
IsRefused address (failure.Address about) = IsNoEndpoint (text_of address)
IsRefused address failure.OutOfMemory = ⊤
IsRefused address _ = ⊥
