use Rattle.std.proofs.Common.{◌∙◌}
use Rattle.std.specs.Prelude.{option_copied}
use Rattle.folder_db.proofs.Pulls.{begin-accepted}
use Rattle.folder_db.proofs.folder.IndexedFolder.accepts_begin.Goals as goal

pub returns : goal.returns
returns c =
    let f = c.self.inside in
    rw (← c.self.view_is) (c.is_ok.ensures.value ∙ begin-accepted f.index f.last f.pulls.items f.copies.items c.self.invariant c.args.name.now c.me.result c.me.ensures c.announcements_of-announced.result.now c.announcements_of-announced.ensures (option_copied c.record_from-local.result) c.record_from-local.ensures
    c.deref.result.now c.deref.ensures.value c.has_pull.result c.has_pull.ensures (λ b. b.now) c.best_to_pull.result c.best_to_pull.ensures.best c.best_to_pull.ensures.refused)
