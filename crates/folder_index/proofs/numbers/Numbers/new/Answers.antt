use Rattle.std.proofs.Common.{Bool, List, ℕ, ap, ◌∙◌}
use Rattle.std.specs.FinMap.{from_sorted}
use Rattle.std.specs.Ordering.{nat_cmp}
use Rattle.folder_index.proofs.Sequenced.{none_sorted}
use Rattle.folder_index.proofs.numbers.Numbers.new.Goals as goal

pub returns : goal.returns
returns c = ap (λ (es : List (ℕ × Bool)). from_sorted {R = nat_cmp} es) c.new.ensures.empty ∙ none_sorted nat_cmp
