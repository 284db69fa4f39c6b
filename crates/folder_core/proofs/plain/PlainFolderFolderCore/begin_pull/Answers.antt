use Rattle.std.proofs.Common.{◌≡◌, sym, ap, ◌∙◌}
use Rattle.std.specs.Prelude.{filter}
use Rattle.std.proofs.lemmas.Bool.{true≢false}
use Rattle.folder_core.specs.PlainPulls.{best_in}
use Rattle.folder_core.specs.PlainScans.{first_of}
use Rattle.folder_core.proofs.PlainBegin.{begin-begun, begin-is_accepted, begin-plain, begin-refused, is_open, own-is, tests-are}
use Rattle.folder_core.proofs.PlainGroup.{is_named}
use Rattle.folder_core.proofs.plain.PlainFolderFolderCore.begin_pull.Goals as goal

pub returns-in-Err-clause-change : goal.returns-in-Err-clause-change
returns-in-Err-clause-change c =
    let f = c.self.inside in
    let n = c.args.name.now in
    let group : c.entries_of-announced.result.now ≡ filter (is_named n) f.entries.items = c.entries_of-announced.ensures ∙ ap (filter (is_named n)) c.as_slice.ensures.value in
    let own = own-is f.me f.entries.items _ f.last f.pulls.items c.self.invariant n _ group _ c.record_from-base.ensures in
    let busy = c.has_pull-is_open.ensures ∙ ap (is_open n) c.deref.ensures.value in
    let told = c.in-Err.ensures.refused ∙ ap first_of (tests-are f.me f.entries.items _ f.last f.pulls.items c.self.invariant n _ _ _ group own busy) in
    rw (← c.self.view_is) (rw c.begin_refused.ensures (begin-refused f.me f.entries.items _ f.last f.pulls.items c.self.invariant n c.in-Err.obstacle told))

pub returns-in_err-info-clause-refused : goal.returns-in_err-info-clause-refused
returns-in_err-info-clause-refused c =
    let f = c.self.inside in
    let n = c.args.name.now in
    let group : c.entries_of-announced.result.now ≡ filter (is_named n) f.entries.items = c.entries_of-announced.ensures ∙ ap (filter (is_named n)) c.as_slice.ensures.value in
    let own = own-is f.me f.entries.items _ f.last f.pulls.items c.self.invariant n _ group _ c.record_from-base.ensures in
    let busy = c.has_pull-is_open.ensures ∙ ap (is_open n) c.deref.ensures.value in
    let told = c.in-Ok.ensures.refused ∙ ap first_of (tests-are f.me f.entries.items _ f.last f.pulls.items c.self.invariant n _ _ _ group own busy) in
    let best = ap best_in (sym group) ∙ c.in-Ok.ensures.best in
    rw (← c.self.view_is) (λ refused. absurd (true≢false (sym (begin-is_accepted f.me f.entries.items _ f.last f.pulls.items c.self.invariant n c.in-Ok.best.now best told) ∙ refused)))

pub invariant_of-self-2 : goal.invariant_of-self-2
invariant_of-self-2 c =
    let f = c.self.inside in
    let n = c.args.name.now in
    let group : c.entries_of-announced.result.now ≡ filter (is_named n) f.entries.items = c.entries_of-announced.ensures ∙ ap (filter (is_named n)) c.as_slice.ensures.value in
    let own = own-is f.me f.entries.items _ f.last f.pulls.items c.self.invariant n _ group _ c.record_from-base.ensures in
    let busy = c.has_pull-is_open.ensures ∙ ap (is_open n) c.deref.ensures.value in
    let told = c.in-Ok.ensures.refused ∙ ap first_of (tests-are f.me f.entries.items _ f.last f.pulls.items c.self.invariant n _ _ _ group own busy) in
    let best = ap best_in (sym group) ∙ c.in-Ok.ensures.best in
    begin-plain f.me f.entries.items _ f.last f.pulls.items c.self.invariant n c.in-Ok.best.now best told _ own c.open.new.pulls.items c.in_ok-info.ensures.opened

pub returns-clause-change : goal.returns-clause-change
returns-clause-change c =
    let f = c.self.inside in
    let n = c.args.name.now in
    let group : c.entries_of-announced.result.now ≡ filter (is_named n) f.entries.items = c.entries_of-announced.ensures ∙ ap (filter (is_named n)) c.as_slice.ensures.value in
    let own = own-is f.me f.entries.items _ f.last f.pulls.items c.self.invariant n _ group _ c.record_from-base.ensures in
    let busy = c.has_pull-is_open.ensures ∙ ap (is_open n) c.deref.ensures.value in
    let told = c.in-Ok.ensures.refused ∙ ap first_of (tests-are f.me f.entries.items _ f.last f.pulls.items c.self.invariant n _ _ _ group own busy) in
    let best = ap best_in (sym group) ∙ c.in-Ok.ensures.best in
    rw (← c.self.view_is) (begin-begun f.me f.entries.items _ f.last f.pulls.items c.self.invariant n c.in-Ok.best.now best told _ own c.open.new.pulls.items c.in_ok-info.ensures.opened c.in_ok-info.info c.in_ok-info.ensures.info)
