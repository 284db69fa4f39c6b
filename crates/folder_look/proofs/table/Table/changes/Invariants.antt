use Rattle.std.proofs.Common.{◌≡◌, ◌++◌, map, take}
use Rattle.folder_look.specs.Tables.{gone, news}
use Rattle.folder_look.proofs.table.Table.changes.Given as goal

abbrev pub invariant-loop-row : goal.invariant-loop-row
invariant-loop-row l = map (λ n. n.now) l.names.items ≡ map (λ e. e.0) (news l.self (take l.row-index l.now))

abbrev pub invariant-loop-row-2 : goal.invariant-loop-row-2
invariant-loop-row-2 l = map (λ n. n.now) l.names.items ≡ map (λ e. e.0) (news l.self l.now) ++ map (λ e. e.0) (gone (take l.row-index l.self) l.now)
