use Rattle.std.proofs.Common.{◌≡◌, List, ◌++◌, vec_len}
use Rattle.crossbeam_channel.specs.Claims.{view, IsSeatAt}
use Rattle.crossbeam_channel.specs.Ends.{sends_on}
use Rattle.folder_shared.specs.declared.known.TokenState.TheVariants.{Idle}
use Rattle.folder_shared.specs.declared.shared.Pass.{Pass}
use Rattle.folder_shared.specs.Rule.{IsSame}
use Rattle.folder_shared.specs.Passes.{opened_of}
use Rattle.folder_shared.proofs.Closing.{claims_back}
use Rattle.folder_shared.proofs.shared.SharedFolder.close.Given as goal

abbrev pub invariant-loop-pass : goal.invariant-loop-pass
invariant-loop-pass g l = record {
  seat : IsSeatAt (sends_on l.sender) l.keeper;
  idle : (view l.keeper).state ≡ Idle;
  memo : IsSame (view l.keeper).memo (opened_of l.fn.self.locked);
  joined : (tail : List (Pass g.row.C.Denot)) × (l.fn.passes.items ≡ l.passes.items ++ tail) × ((view l.keeper).histories ≡ claims_back tail);
}

abbrev pub decreases-loop-pass : goal.decreases-loop-pass
decreases-loop-pass g l = vec_len l.passes
