use Rattle.std.proofs.Common.{rules}
use Rattle.bep_frames.proofs.Fronts.{data_follow}
use Rattle.bep_frames.proofs.front.fields_front.Goals as goal

pub returns : goal.returns
returns c = data_follow c.encode.new.out.items c.put_data_front.new.out.items c.args.message.now.payload c.args.message.now.id c.args.message.now.code c.requires (search rules) (search rules)
