-- What `after` returns, by whether it found a line.
use Rattle.std.proofs.Common.{◌≡◌, true, false, List, ℕ}
use Rattle.std.specs.Prelude.{Option, Some, None, MatchOption}
use Rattle.std.specs.List.{list_any, after_first}
use Rattle.std.specs.Option.{is_some}
use Rattle.device_certificate.specs.declared.lines.Lines.{Lines}
use Rattle.device_certificate.specs.Lines.{is_line, lines_left}

pub any_is_some : (wanted : List ℕ) (all : List (List ℕ)) (r : Option Lines)
    → MatchOption r (list_any (is_line wanted) all ≡ false) (λ rest. (list_any (is_line wanted) all ≡ true) × (lines_left rest ≡ after_first (is_line wanted) all))
    → list_any (is_line wanted) all ≡ is_some r
any_is_some wanted all None h = h
any_is_some wanted all (Some rest) h = h.0
