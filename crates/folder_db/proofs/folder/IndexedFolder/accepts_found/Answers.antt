use Rattle.std.specs.Prelude.{option_copied}
use Rattle.folder_db.proofs.Scans.{found-accepted}
use Rattle.folder_db.proofs.folder.IndexedFolder.accepts_found.Goals as goal

pub returns : goal.returns
returns c =
    let f = c.self.inside in
    rw (← c.self.view_is) (λ moment. found-accepted f.index f.last f.pulls.items f.copies.items c.self.invariant c.args.name.now c.me-me.result c.me-me.ensures (option_copied c.get-local.result) c.get-local.ensures
    c.deref.result.now c.deref.ensures.value (option_copied c.args.expected) c.is_same-is_unchanged.result c.scan_obstacle.result c.scan_obstacle.ensures c.args.found.now moment c.is_same-is_unchanged.ensures c.is_none.result c.is_none.ensures)
