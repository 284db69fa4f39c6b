-- What a pull changes at a name (own rule), by what is recorded of it here, and its best.
use Rattle.std.specs.Prelude.{if◌then◌else◌, Option, Some, None}
use Rattle.node_context.specs.declared.event.Change.{Change}
use Rattle.node_context.specs.declared.event.Change.TheVariants.{Got, Replaced, Deleted, Same}
use Rattle.sync_record.specs.Contents.{same_content}
use Rattle.sync_record.specs.Records.{FileRecord}

abbrev pub change_of : Option FileRecord → FileRecord → Change
change_of None best = if best.deleted then Same else Got
change_of (Some local) best =
    if same_content local best then Same
    else if best.deleted then Deleted
    else if local.deleted then Got
    else Replaced
