use Rattle.std.proofs.Common.{◌∙◌}
use Rattle.folder_db.proofs.Pulls.{has-open}
use Rattle.folder_db.proofs.folder.IndexedFolder.has_open.Goals as goal

pub returns : goal.returns
returns c =
    let f = c.self.inside in
    rw (← c.self.view_is) (c.is_some.ensures ∙ has-open f.index f.last f.pulls.items f.copies.items c.self.invariant c.args.info.now c.args.stage c.deref.result.now c.deref.ensures.value c.place_for.result c.place_for.ensures.within c.place_for.ensures.found)
