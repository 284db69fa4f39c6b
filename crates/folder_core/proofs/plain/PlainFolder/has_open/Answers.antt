use Rattle.std.proofs.Common.{◌∙◌}
use Rattle.folder_core.proofs.PlainOpened.{open-is}
use Rattle.folder_core.proofs.plain.PlainFolder.has_open.Goals as goal

pub returns : goal.returns
returns c =
    let f = c.self.inside in
    rw (← c.self.view_is) (c.is_some.ensures ∙ open-is c.args.info.now c.args.stage f.me f.entries.items f.last f.pulls.items c.deref.result.now c.self.invariant.pulls_rise c.deref.ensures.value c.place_for.result c.place_for.ensures.within c.place_for.ensures.found)
