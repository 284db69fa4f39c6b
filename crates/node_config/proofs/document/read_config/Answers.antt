use Rattle.std.proofs.lemmas.Result.{IfOk-weaker}
use Rattle.toml.specs.View.{table_view}
use Rattle.node_config.proofs.Consistent.{config_found}
use Rattle.node_config.proofs.Reading.{fault_of_document, not_blank, read_config_of}
use Rattle.node_config.proofs.document.read_config.Goals as goal

pub returns-in-Ok-clause-consistent : goal.returns-in-Ok-clause-consistent
returns-in-Ok-clause-consistent c = IfOk-weaker c.read_document.result _ _ (λ config h. config_found (table_view c.in-Ok.document) config h) (read_config_of (table_view c.in-Ok.document) c.read_document.result c.read_document.ensures.value)

pub returns-in-Ok-clause-err : goal.returns-in-Ok-clause-err
returns-in-Ok-clause-err c = fault_of_document c.args.text.now (table_view c.in-Ok.document) c.in-Ok.ensures.ok c.read_document.result c.read_document.ensures.value

pub returns-in-Ok-clause-memory : goal.returns-in-Ok-clause-memory
returns-in-Ok-clause-memory c = λ memory. not_blank c.args.text.now (table_view c.in-Ok.document) c.in-Ok.ensures.ok.1 (c.read_document.ensures.memory memory)
