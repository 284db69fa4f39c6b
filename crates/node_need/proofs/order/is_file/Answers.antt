use Rattle.std.proofs.Common.{ap, ◌∙◌}
use Rattle.node_need.proofs.OrderLemmas.{is_file_kind, kind_tells}
use Rattle.node_need.proofs.order.is_file.Goals as goal

pub returns-in-File : goal.returns-in-File
returns-in-File c = ap is_file_kind c.in-File.ensures ∙ kind_tells c.args.best.now.type_number

pub returns-in-Directory : goal.returns-in-Directory
returns-in-Directory c = ap is_file_kind c.in-Directory.ensures ∙ kind_tells c.args.best.now.type_number

pub returns-in-Other : goal.returns-in-Other
returns-in-Other c = ap is_file_kind c.in-Other.ensures ∙ kind_tells c.args.best.now.type_number
