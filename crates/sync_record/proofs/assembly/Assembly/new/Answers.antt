use Rattle.std.proofs.Common.{◌≡◌, List, false, map, length, ap, sym, subst, ◌∙◌}
use Rattle.std.specs.Prelude.{replicate}
use Rattle.std.specs.List.{AllZip}
use Rattle.sync_blocks.specs.declared.block.Block.{Block}
use Rattle.sync_record.proofs.Placed.{IsPlaced, none_placed, replicate_is}
use Rattle.sync_record.proofs.assembly.Assembly.new.Goals as goal

pub invariant_of-result : goal.invariant_of-result
invariant_of-result c =
    let marks : c.in_ok-placed.placed.items ≡ map (λ b. false) c.args.target.blocks =
    c.in_ok-placed.ensures.value ∙ ap (λ (bs : List Block). replicate (length bs) false) c.blocks-2.ensures ∙ replicate_is c.args.target.blocks in
    record { valid = c.requires; placed = subst (λ ps. AllZip IsPlaced ps c.args.target.blocks) (sym marks) (none_placed c.args.target.blocks) }

pub returns-clause-value : goal.returns-clause-value
returns-clause-value c =
    let marks : c.in_ok-placed.placed.items ≡ map (λ b. false) c.args.target.blocks =
    c.in_ok-placed.ensures.value ∙ ap (λ (bs : List Block). replicate (length bs) false) c.blocks-2.ensures ∙ replicate_is c.args.target.blocks in
    λ i. record { target = c.args.target; placed = marks i }
