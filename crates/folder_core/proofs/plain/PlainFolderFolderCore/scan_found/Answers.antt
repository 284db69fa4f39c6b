use Rattle.std.proofs.Common.{◌≡◌, ◌+◌, [], sym, ap, ◌∙◌, arith}
use Rattle.std.specs.Prelude.{filter, option_copied, unwrap_or}
use Rattle.folder_core.specs.Calls.{may_allocate, scan_answer}
use Rattle.sync_version.specs.Computed.{raised}
use Rattle.folder_core.specs.Plain.{commits, folder_of, pulls_of}
use Rattle.folder_core.specs.PlainReads.{record_from}
use Rattle.folder_core.specs.States.{FolderState}
use Rattle.folder_core.specs.declared.answer.Answer.{Answer}
use Rattle.folder_core.specs.declared.answer.Answer.TheVariants.{Recorded}
use Rattle.folder_core.specs.declared.change.Change.TheVariants.{ScanFound}
use Rattle.folder_core.specs.Steps.{with_local}
use Rattle.folder_core.proofs.PlainGroup.{is_named}
use Rattle.folder_core.proofs.PlainScan.{found-made, found-memory, found-record, found-told, plain_recorded, step_recorded}
use Rattle.folder_core.proofs.plain.PlainFolderFolderCore.scan_found.Goals as goal

pub returns-in-Some : goal.returns-in-Some
returns-in-Some c =
    let f = c.self.inside in
    let n = c.args.name.now in
    let es = f.entries.items in
    let ps = f.pulls.items in
    let group : c.entries_of-group.result.now ≡ filter (is_named n) es = c.entries_of-group.ensures ∙ ap (filter (is_named n)) c.as_slice.ensures.value in
    let found : option_copied c.record_from-local.result ≡ record_from f.me (filter (is_named n) es) = c.record_from-local.ensures ∙ ap (record_from f.me) group in
    rw (← c.self.view_is) (record {
      changes = found-told f.me es _ f.last ps c.self.invariant n (option_copied c.record_from-local.result) found c.deref.result.now c.deref.ensures.value (option_copied c.args.expected) c.is_same-is_unchanged.result c.scan_obstacle-obstacle.result c.scan_obstacle-obstacle.ensures c.args.found.now c.args.moment c.is_same-is_unchanged.ensures
          c.in-Some.obstacle (option_copied c.version_of.result) (scan_answer c.scan_answer.result) c.in-Some.is c.version_of.ensures c.scan_answer.ensures.told;
      memory = λ none. found-memory f.me es _ f.last ps c.self.invariant n (option_copied c.record_from-local.result) found c.deref.result.now c.deref.ensures.value (option_copied c.args.expected) c.is_same-is_unchanged.result c.scan_obstacle-obstacle.result c.scan_obstacle-obstacle.ensures c.args.found.now c.args.moment c.is_same-is_unchanged.ensures
          c.in-Some.obstacle (option_copied c.version_of.result) c.in-Some.is c.version_of.ensures (c.scan_answer.ensures.memory none);
    })

pub invariant_of-self-2 : goal.invariant_of-self-2
invariant_of-self-2 c =
    let f = c.self.inside in
    let n = c.args.name.now in
    let es = f.entries.items in
    let ps = f.pulls.items in
    let group : c.entries_of-group.result.now ≡ filter (is_named n) es = c.entries_of-group.ensures ∙ ap (filter (is_named n)) c.as_slice.ensures.value in
    let found : option_copied c.record_from-local.result ≡ record_from f.me (filter (is_named n) es) = c.record_from-local.ensures ∙ ap (record_from f.me) group in
    let change = ScanFound n (option_copied c.args.expected) c.args.found.now c.args.moment in
    let r = c.in_ok-record.record in
    let version = c.in_ok-version.ensures ∙ ap (λ v. raised (unwrap_or v []) c.short_id-id.result c.args.moment) c.version_of-2.ensures in
    let built = found-record f.me es _ f.last ps c.self.invariant n (option_copied c.record_from-local.result) found c.deref.result.now c.deref.ensures.value (option_copied c.args.expected) c.is_same-is_unchanged.result c.scan_obstacle-obstacle.result c.scan_obstacle-obstacle.ensures c.args.found.now c.args.moment c.is_same-is_unchanged.ensures c.in_ok-version.version c.short_id-id.result r version c.short_id-id.ensures c.in_ok-record.ensures in
    let made = found-made f.me es _ f.last ps c.self.invariant n (option_copied c.record_from-local.result) found c.deref.result.now c.deref.ensures.value (option_copied c.args.expected) c.is_same-is_unchanged.result c.scan_obstacle-obstacle.result c.scan_obstacle-obstacle.ensures c.args.found.now c.args.moment c.is_same-is_unchanged.ensures c.in_default.is ∙ ap (λ x. (Recorded (f.last + 1), with_local (folder_of f.me es f.last (pulls_of ps)) x)) (sym built) in
    let promised = c.open_commits-promised.ensures ∙ ap commits c.deref-2.ensures.value in
    plain_recorded f.me es c.put_next.new.entries.items _ _ f.last ps change r c.in_ok-sequence.sequence c.self.invariant c.requires c.in_ok-sequence.ensures.sequence c.in_ok-sequence.ensures.placed made
    (let room = c.in_ok-sequence.ensures.promised in omega arith)

pub returns : goal.returns
returns c =
    let f = c.self.inside in
    let n = c.args.name.now in
    let es = f.entries.items in
    let ps = f.pulls.items in
    let group : c.entries_of-group.result.now ≡ filter (is_named n) es = c.entries_of-group.ensures ∙ ap (filter (is_named n)) c.as_slice.ensures.value in
    let found : option_copied c.record_from-local.result ≡ record_from f.me (filter (is_named n) es) = c.record_from-local.ensures ∙ ap (record_from f.me) group in
    let change = ScanFound n (option_copied c.args.expected) c.args.found.now c.args.moment in
    let r = c.in_ok-record.record in
    let version = c.in_ok-version.ensures ∙ ap (λ v. raised (unwrap_or v []) c.short_id-id.result c.args.moment) c.version_of-2.ensures in
    let built = found-record f.me es _ f.last ps c.self.invariant n (option_copied c.record_from-local.result) found c.deref.result.now c.deref.ensures.value (option_copied c.args.expected) c.is_same-is_unchanged.result c.scan_obstacle-obstacle.result c.scan_obstacle-obstacle.ensures c.args.found.now c.args.moment c.is_same-is_unchanged.ensures c.in_ok-version.version c.short_id-id.result r version c.short_id-id.ensures c.in_ok-record.ensures in
    let made = found-made f.me es _ f.last ps c.self.invariant n (option_copied c.record_from-local.result) found c.deref.result.now c.deref.ensures.value (option_copied c.args.expected) c.is_same-is_unchanged.result c.scan_obstacle-obstacle.result c.scan_obstacle-obstacle.ensures c.args.found.now c.args.moment c.is_same-is_unchanged.ensures c.in_default.is ∙ ap (λ x. (Recorded (f.last + 1), with_local (folder_of f.me es f.last (pulls_of ps)) x)) (sym built) in
    rw (← c.self.view_is) (record { changes = step_recorded f.me es c.put_next.new.entries.items f.last ps change r c.in_ok-sequence.sequence c.self.invariant.rises c.in_ok-sequence.ensures.sequence c.in_ok-sequence.ensures.placed made; memory = λ none. absurd (cc none) })

pub returns-in_err-version-clause-memory : goal.returns-in_err-version-clause-memory
returns-in_err-version-clause-memory c =
    let f = c.self.inside in
    let n = c.args.name.now in
    let es = f.entries.items in
    let ps = f.pulls.items in
    let group : c.entries_of-group.result.now ≡ filter (is_named n) es = c.entries_of-group.ensures ∙ ap (filter (is_named n)) c.as_slice.ensures.value in
    let found : option_copied c.record_from-local.result ≡ record_from f.me (filter (is_named n) es) = c.record_from-local.ensures ∙ ap (record_from f.me) group in
    rw (← c.self.view_is) (λ none. ap (λ (d : Answer × FolderState). may_allocate d.0) (found-made f.me es _ f.last ps c.self.invariant n (option_copied c.record_from-local.result) found c.deref.result.now c.deref.ensures.value (option_copied c.args.expected) c.is_same-is_unchanged.result c.scan_obstacle-obstacle.result c.scan_obstacle-obstacle.ensures c.args.found.now c.args.moment c.is_same-is_unchanged.ensures c.in_default.is))

pub returns-in_err-record-clause-memory : goal.returns-in_err-record-clause-memory
returns-in_err-record-clause-memory c =
    let f = c.self.inside in
    let n = c.args.name.now in
    let es = f.entries.items in
    let ps = f.pulls.items in
    let group : c.entries_of-group.result.now ≡ filter (is_named n) es = c.entries_of-group.ensures ∙ ap (filter (is_named n)) c.as_slice.ensures.value in
    let found : option_copied c.record_from-local.result ≡ record_from f.me (filter (is_named n) es) = c.record_from-local.ensures ∙ ap (record_from f.me) group in
    rw (← c.self.view_is) (λ none. ap (λ (d : Answer × FolderState). may_allocate d.0) (found-made f.me es _ f.last ps c.self.invariant n (option_copied c.record_from-local.result) found c.deref.result.now c.deref.ensures.value (option_copied c.args.expected) c.is_same-is_unchanged.result c.scan_obstacle-obstacle.result c.scan_obstacle-obstacle.ensures c.args.found.now c.args.moment c.is_same-is_unchanged.ensures c.in_default.is))

pub returns-in_err-sequence-clause-memory : goal.returns-in_err-sequence-clause-memory
returns-in_err-sequence-clause-memory c =
    let f = c.self.inside in
    let n = c.args.name.now in
    let es = f.entries.items in
    let ps = f.pulls.items in
    let group : c.entries_of-group.result.now ≡ filter (is_named n) es = c.entries_of-group.ensures ∙ ap (filter (is_named n)) c.as_slice.ensures.value in
    let found : option_copied c.record_from-local.result ≡ record_from f.me (filter (is_named n) es) = c.record_from-local.ensures ∙ ap (record_from f.me) group in
    rw (← c.self.view_is) (λ none. ap (λ (d : Answer × FolderState). may_allocate d.0) (found-made f.me es _ f.last ps c.self.invariant n (option_copied c.record_from-local.result) found c.deref.result.now c.deref.ensures.value (option_copied c.args.expected) c.is_same-is_unchanged.result c.scan_obstacle-obstacle.result c.scan_obstacle-obstacle.ensures c.args.found.now c.args.moment c.is_same-is_unchanged.ensures c.in_default.is))
