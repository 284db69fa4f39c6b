use Rattle.std.proofs.Common.{subst, sym}
use Rattle.folder_index.specs.Groups.{IsGroup, IsSmall}
use Rattle.folder_index.specs.declared.totals.Totals.{Totals}
use Rattle.folder_index.proofs.Written.{small_cleared}
use Rattle.folder_index.proofs.group.Group.clear_counted.Goals as goal

pub changed-requires-clause-small : goal.changed-requires-clause-small
changed-requires-clause-small c =
    subst (λ (p : Totals × Totals). IsSmall p.0 p.1) (λ i. (sym c.totals-was.ensures i, sym c.totals.ensures i))
    (small_cleared c.args.me c.args.name.now c.args.device c.args.self.now c.clear.new.self (subst (λ n. IsGroup c.args.me n c.clear.new.self) c.requires.group.name c.clear.ensures.group) c.clear.ensures.taken)
