use Rattle.std.proofs.Common.{rules, refl, arith}
use Rattle.folder_shared.proofs.Blanks.{seizes}
use Rattle.folder_shared.proofs.shared.BlankSlot.new.Goals as goal

pub vacant-requires : goal.vacant-requires
vacant-requires g c = (refl, (λ e. absurd (omega arith)), λ _. refl)

pub swap_new_seat-found-requires : goal.swap_new_seat-found-requires
swap_new_seat-found-requires g c = (search rules, seizes _ _ c.in_ok-table.table.shared.key)
