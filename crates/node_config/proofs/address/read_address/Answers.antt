use Rattle.std.specs.Net.Socket.{v4_ip, v4_port}
use Rattle.node_config.proofs.address.read_address.Goals as goal

pub returns-in_err-ip : goal.returns-in_err-ip
returns-in_err-ip c = rw c.from_residual-in_err-ip.ensures (λ address is. c.in_err-ip.ensures (v4_ip address) ((c.in_ok-host.ensures.1 address is).0))

pub returns-in_err-port : goal.returns-in_err-port
returns-in_err-port c = rw c.from_residual-in_err-port.ensures (λ address is. c.in_err-port.ensures (v4_port address) ((c.in_ok-host.ensures.1 address is).1))
