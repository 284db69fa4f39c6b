use Rattle.std.proofs.Common.{◌≡◌, Some, None, [], rules}
use Rattle.file_store.specs.Maps.{found_at, put_at}
use Rattle.file_store.proofs.PutLemmas.{put_undone}
use Rattle.file_store.proofs.changes.make_temp.Goals as goal

pub returns-then-is_err-clause-temps : goal.returns-then-is_err-clause-temps
returns-then-is_err-clause-temps c =
    let n = c.args.name.now in
    let f = found_at c.args.temps.now in
    let none : f n ≡ None = search rules in
    let put : found_at c.insert.new.self ≡ put_at n (Some []) f = search rules in
    put_undone n f (found_at c.insert.new.self) (found_at c.remove.new.self) (Some []) none put c.remove.ensures.left
