use Rattle.std.proofs.Common.{◌-◌, drop, length}
use Rattle.bep_messages.specs.Values.{value}
use Rattle.folder_core.specs.PlainRestores.{given}
use Rattle.node_state.specs.Meaning.{announced}
use Rattle.node_state.specs.Reading.{IsGoodEntry}
use Rattle.node_state.specs.Tables.{entry_table}
use Rattle.node_state.proofs.Goes.{Goes}
use Rattle.node_state.proofs.reading.read_entries.Given as goal

abbrev pub invariant-loop-entries : goal.invariant-loop-entries
invariant-loop-entries l = Goes IsGoodEntry (λ b. announced (value entry_table b)) given 4 l.source l.entries.items (drop l.at l.source)

abbrev pub decreases-loop-entries : goal.decreases-loop-entries
decreases-loop-entries l = length l.source - l.at
