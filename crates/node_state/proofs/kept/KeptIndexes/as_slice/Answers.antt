use Rattle.std.proofs.Common.{map, ap, sym, ◌∙◌}
use Rattle.std.specs.Bool.{passes}
use Rattle.std.specs.FinMap.{entries, entries-from_sorted}
use Rattle.sync_record.specs.Devices.{bytes_cmp}
use Rattle.node_state.specs.Peers.{Peers, pair}
use Rattle.node_state.proofs.kept.KeptIndexes.as_slice.Goals as goal

pub returns : goal.returns
returns c =
    ap (map pair) c.as_slice.ensures.value
    ∙ sym (entries-from_sorted bytes_cmp (map pair c.self.inside.kept.items) (passes _ c.self.invariant))
    ∙ ap (λ (m : Peers). entries m) c.self.view_is
