-- Entries that pass the test `==` are one.
use Rattle.std.proofs.Common.{refl}
use Rattle.std.specs.Cmp.{unsigned_Decides}
use Rattle.folder_core.proofs.Same.{IsExact, answers, before, changes, through}
use Rattle.folder_calls.specs.contracts.entry.EntryPartialEq.TheImpl as entry_test

pub entries : IsExact entry_test.ghosts.eq
entries = through (λ e. (e.pass, (e.change, e.answer)))
    (λ f. record { pass = f.0; change = f.1.0; answer = f.1.1 }) (λ e. refl)
    (before unsigned_Decides (before changes answers))
