use Rattle.std.proofs.Common.{rules, subst, sym}
use Rattle.atomic_table.specs.Table.{Allows}
use Rattle.folder_shared.specs.Blank.{Guarded, IsBlankOf}
use Rattle.folder_shared.proofs.Blanks.{frees}
use Rattle.folder_shared.proofs.shared.BlankSlot.put_back.Goals as goal

pub store-requires : goal.store-requires
store-requires g c = let fits = IsBlankOf c.args.self.now.table.shared.key in let seat = c.exchange.new.seat in
    (search rules, search rules, subst (λ n. Allows (Guarded fits) n seat.id seat.me 0 (λ _. 0) (λ _ _. Unit {0})) (sym c.args.self.now.sized.1) (frees fits _ _ _ _ _ c.exchange.ensures.3 c.requires.blank))
