use Rattle.std.proofs.Common.{sym, subst}
use Rattle.std.specs.Prelude.{None}
use Rattle.file_store.specs.Trees.{bytes_of}
use Rattle.folder_calls.specs.Shared.{now}
use Rattle.folder_core.specs.States.{local}
use Rattle.block_server.specs.PartsRead.{ReadsPart}
use Rattle.block_server.specs.Served.{Serves}
use Rattle.block_server.proofs.Serving.{serves-code, serves-none}
use Rattle.block_server.specs.PartsGiven.{GivesPart}
use Rattle.block_server.proofs.GivenParts.{asked-part, given-code, given-read}
use Rattle.block_server.proofs.Shapes.{early-refused}
use Rattle.block_server.proofs.answering.answer.Goals as goal

pub returns-in-Err-clause-serves : goal.returns-in-Err-clause-serves
returns-in-Err-clause-serves g c =
    subst (λ w. Serves g.S.FileStore.keeps c.args.request.now (local (now (g.W.FolderCalls.view c.asked_part.new.calls)) c.args.request.now.name)
    (bytes_of ((g.S.FileStore.tree c.args.store.now).names c.args.request.now.name)) (g.S.FileStore.fault_count c.args.store.now) w (g.S.FileStore.fault_count c.args.store.now))
    (sym c.refuse.ensures) (serves-code _ _ _ _ _ c.in-Err.code (rw c.in-Err.is at c.in_ok-part.ensures.part))

pub returns-in_err-bytes-clause-free : goal.returns-in_err-bytes-clause-free
returns-in_err-bytes-clause-free g c = λ early.
    let part = rw c.in-Ok.is at c.in_ok-part.ensures.part in
    absurd (early-refused c.args.request.now (local (now (g.W.FolderCalls.view c.asked_part.new.calls)) c.args.request.now.name) early part.0)

pub returns-in_default-clause-serves : goal.returns-in_default-clause-serves
returns-in_default-clause-serves g c =
    let after = g.S.FileStore.fault_count c.read_part.new.store in
    let faults = g.S.FileStore.fault_count c.args.store.now in
    let part = rw c.in-Ok.is at c.in_ok-part.ensures.part in
    subst (λ w. Serves g.S.FileStore.keeps c.args.request.now (local (now (g.W.FolderCalls.view c.asked_part.new.calls)) c.args.request.now.name)
    (bytes_of ((g.S.FileStore.tree c.args.store.now).names c.args.request.now.name)) faults w after)
    (sym c.refuse-in_default.ensures)
    (serves-none _ _ _ _ _ part.0 c.in-Ok.part.offset c.in-Ok.part.size _ part.2 part.3
    (subst (λ n. ReadsPart g.S.FileStore.keeps c.in-Ok.part.offset c.in-Ok.part.size (bytes_of ((g.S.FileStore.tree c.args.store.now).names n)) faults None after) part.1
    (subst (λ o. ReadsPart g.S.FileStore.keeps c.in-Ok.part.offset c.in-Ok.part.size (bytes_of ((g.S.FileStore.tree c.args.store.now).names c.in-Ok.part.name)) faults o after) c.in_default.is c.in_ok-bytes.ensures.reads)))

pub returns-in-Err-clause-given : goal.returns-in-Err-clause-given
returns-in-Err-clause-given g c = given-code g.S.FileStore.gives c.args.request.now (local (now (g.W.FolderCalls.view c.asked_part.new.calls)) c.args.request.now.name) c.args.store.now
    c.refuse.result c.in-Err.code (rw c.in-Err.is at c.in_ok-part.ensures.part) c.refuse.ensures

pub returns-in_default-clause-given : goal.returns-in_default-clause-given
returns-in_default-clause-given g c =
    let gives = g.S.FileStore.gives in
    let part = rw c.in-Ok.is at c.in_ok-part.ensures.part in
    given-read gives c.args.request.now (local (now (g.W.FolderCalls.view c.asked_part.new.calls)) c.args.request.now.name) c.args.store.now
    c.refuse-in_default.result c.read_part.new.store part.0 None
    (asked-part gives c.args.request.now c.args.store.now c.read_part.new.store c.in-Ok.part None part.1 part.2 part.3 (subst (λ o. GivesPart gives c.in-Ok.part.name c.in-Ok.part.offset c.in-Ok.part.size c.args.store.now o c.read_part.new.store) c.in_default.is c.in_ok-bytes.ensures.given)) c.refuse-in_default.ensures
