use Rattle.std.proofs.Common.{rules, subst, sym}
use Rattle.file_store.specs.Trees.{Tree}
use Rattle.folder_calls.specs.Shared.{now}
use Rattle.folder_core.specs.States.{local}
use Rattle.sync_pull.specs.Standing.{StandsAs}
use Rattle.proof_layers.proofs.CarryLemmas.{scan-goes}
use Rattle.proof_layers.proofs.carrying.scan.Goals as goal

pub returns-in-Answered-Ok-Recorded-clause-goes_on : goal.returns-in-Answered-Ok-Recorded-clause-goes_on
returns-in-Answered-Ok-Recorded-clause-goes_on g c =
    let old = g.W.FolderCalls.view c.args.calls.now in
    let new = g.W.FolderCalls.view c.scan_name.new.calls in
    scan-goes old new c.args.name.now c.args.moment
    (c.a_scan_adds_one_entry_at_most.ensures.alone _ c.args.store.now (g.S.FileStore.tree c.args.store.now) old new c.args.name.now c.args.moment c.in_ok-alloc.field-0 c.in_ok-alloc.ensures.scans)

pub returns-in-Answered-Ok-Unchanged-clause-goes_on : goal.returns-in-Answered-Ok-Unchanged-clause-goes_on
returns-in-Answered-Ok-Unchanged-clause-goes_on g c =
    let old = g.W.FolderCalls.view c.args.calls.now in
    let new = g.W.FolderCalls.view c.scan_name.new.calls in
    scan-goes old new c.args.name.now c.args.moment
    (c.a_scan_adds_one_entry_at_most.ensures.alone _ c.args.store.now (g.S.FileStore.tree c.args.store.now) old new c.args.name.now c.args.moment c.in_ok-alloc.field-0 c.in_ok-alloc.ensures.scans)

pub returns-in-Answered-Ok-Recorded-clause-stands : goal.returns-in-Answered-Ok-Recorded-clause-stands
returns-in-Answered-Ok-Recorded-clause-stands g c = λ keeps.
    let old = g.W.FolderCalls.view c.args.calls.now in
    let new = g.W.FolderCalls.view c.scan_name.new.calls in
    let n = c.args.name.now in
    let tree = g.S.FileStore.tree c.args.store.now in
    subst (λ (t : Tree). StandsAs (local (now new) n) (t.names n)) (sym (c.scan_name.ensures.kept keeps))
    (c.what_is_pulled_is_what_was_scanned.ensures.scanned _ c.args.store.now old new n c.args.moment tree c.in_ok-alloc.field-0 keeps c.in_ok-alloc.ensures.scans (search rules))

pub returns-in-Answered-Ok-Unchanged-clause-stands : goal.returns-in-Answered-Ok-Unchanged-clause-stands
returns-in-Answered-Ok-Unchanged-clause-stands g c = λ keeps.
    let old = g.W.FolderCalls.view c.args.calls.now in
    let new = g.W.FolderCalls.view c.scan_name.new.calls in
    let n = c.args.name.now in
    let tree = g.S.FileStore.tree c.args.store.now in
    subst (λ (t : Tree). StandsAs (local (now new) n) (t.names n)) (sym (c.scan_name.ensures.kept keeps))
    (c.what_is_pulled_is_what_was_scanned.ensures.scanned _ c.args.store.now old new n c.args.moment tree c.in_ok-alloc.field-0 keeps c.in_ok-alloc.ensures.scans (search rules))
