use Rattle.std.proofs.Common.{◌≡◌, ap, sym, ◌∙◌}
use Rattle.std.specs.Prelude.{filter}
use Rattle.folder_core.specs.PlainPulls.{best_in}
use Rattle.folder_core.specs.PlainScans.{first_of}
use Rattle.folder_core.proofs.ListTests.{ok_then}
use Rattle.folder_core.proofs.PlainBegin.{begin-accepted, is_open, own-is, tests-are}
use Rattle.folder_core.proofs.PlainGroup.{is_named}
use Rattle.folder_core.proofs.plain.PlainFolder.accepts_begin.Goals as goal

pub returns : goal.returns
returns c =
    let f = c.self.inside in
    let n = c.args.name.now in
    let group : c.entries_of-announced.result.now ≡ filter (is_named n) f.entries.items = c.entries_of-announced.ensures ∙ ap (filter (is_named n)) c.as_slice.ensures.value in
    let own = own-is f.me f.entries.items _ f.last f.pulls.items c.self.invariant n _ group _ c.record_from-local.ensures in
    let busy = c.has_pull.ensures ∙ ap (is_open n) c.deref.ensures.value in
    let told = c.best_to_pull.ensures.refused ∙ ap first_of (tests-are f.me f.entries.items _ f.last f.pulls.items c.self.invariant n _ _ _ group own busy) in
    rw (← c.self.view_is) (c.is_ok.ensures.value ∙ begin-accepted f.me f.entries.items _ f.last f.pulls.items c.self.invariant n (λ b. b.now) c.best_to_pull.result (ok_then c.best_to_pull.result (λ b is. ap best_in (sym group) ∙ is) c.best_to_pull.ensures.best) told)
