use Rattle.std.proofs.Common.{arith, rules}
use Rattle.bep_frames.proofs.Fronts.{none_follow, some_follow}
use Rattle.bep_frames.proofs.front.put_data_front.Goals as goal

pub returns-then-bytes-eq0 : goal.returns-then-bytes-eq0
returns-then-bytes-eq0 c = none_follow c.args.out.now.items c.args.bytes.now (search rules)

pub returns : goal.returns
returns c = some_follow c.put_varint-2.result c.args.out.now.items c.put_varint.new.out.items c.put_varint-2.new.out.items c.args.bytes.now (search rules) (search rules) c.put_varint-2.ensures.ok
