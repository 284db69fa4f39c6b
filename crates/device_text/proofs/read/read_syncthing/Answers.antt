use Rattle.std.proofs.Common.{arith}
use Rattle.device_text.proofs.Faults.{syncthing_text}
use Rattle.device_text.proofs.read.read_syncthing.Goals as goal

pub returns-in-None-clause-value : goal.returns-in-None-clause-value
returns-in-None-clause-value c =
    let values = c.in-Some-read_values in
    syncthing_text c.args.text.now c.in-Some.characters values.values c.without_checks.result c.identity_of.result c.new.result
    c.in-Some.ensures (omega arith) values.ensures.0 values.ensures.1 c.in-None.ensures c.without_checks.ensures.value c.identity_of.ensures.value c.new.ensures
