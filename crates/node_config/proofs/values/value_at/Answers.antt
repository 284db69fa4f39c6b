use Rattle.std.proofs.Common.{◌∙◌, ap}
use Rattle.toml.specs.Data.{get_member}
use Rattle.toml.specs.View.{table_view}
use Rattle.toml.proofs.Views.{table_get}
use Rattle.node_config.proofs.Reading.{found_member}
use Rattle.node_config.proofs.values.value_at.Goals as goal

pub returns : goal.returns
returns c =
    let found = table_get c.get.result c.name.result.now c.args.table.now.entries c.get.ensures.value in
    found_member c.get.result _ (found ∙ ap (λ key. get_member key (table_view c.args.table.now)) c.name.ensures)
