use Rattle.std.proofs.Common.{◌+◌, [], refl, sym, ap, ◌∙◌}
use Rattle.std.specs.Prelude.{option_copied, unwrap_or}
use Rattle.sync_record.specs.Records.{FileRecord}
use Rattle.sync_version.specs.Computed.{raised}
use Rattle.folder_core.specs.Calls.{scan_answer}
use Rattle.folder_core.specs.Plain.{pulls_of}
use Rattle.folder_core.specs.Steps.{next_version, with_local}
use Rattle.folder_core.specs.declared.answer.Answer.TheVariants.{Recorded}
use Rattle.folder_core.specs.declared.change.Change.TheVariants.{ScanFound}
use Rattle.folder_core.proofs.ChangeFolders.{found-name}
use Rattle.folder_db.specs.Indexed.{folder_with}
use Rattle.folder_db.proofs.Scans.{fits-next, found-made, found-may, found-memory, found-record, found-told, free-next, no-commit, recorded, recorded-counted, recorded-indexed, told-choices}
use Rattle.folder_db.proofs.folder.IndexedFolderFolderCore.scan_found.Goals as goal

pub returns-in-Some : goal.returns-in-Some
returns-in-Some c =
    let f = c.self.inside in
    rw (← c.self.view_is) (record {
      changes = found-told f.index f.last f.pulls.items f.copies.items c.self.invariant c.args.name.now c.me-me.result c.me-me.ensures (option_copied c.get-local.result) c.get-local.ensures c.deref.result.now c.deref.ensures.value (option_copied c.args.expected) c.is_same-is_unchanged.result c.scan_obstacle-obstacle.result c.scan_obstacle-obstacle.ensures c.args.found.now c.args.moment c.is_same-is_unchanged.ensures c.in-Some.obstacle (option_copied c.version_of.result) (scan_answer c.scan_answer.result) c.in-Some.is c.version_of.ensures c.scan_answer.ensures.told;
      memory = λ none. found-memory f.index f.last f.pulls.items f.copies.items c.self.invariant c.args.name.now c.me-me.result c.me-me.ensures (option_copied c.get-local.result) c.get-local.ensures c.deref.result.now c.deref.ensures.value (option_copied c.args.expected) c.is_same-is_unchanged.result c.scan_obstacle-obstacle.result c.scan_obstacle-obstacle.ensures c.args.found.now c.args.moment c.is_same-is_unchanged.ensures c.in-Some.obstacle (option_copied c.version_of.result) c.in-Some.is c.version_of.ensures (c.scan_answer.ensures.memory none);
      choices = told-choices (option_copied c.version_of.result) c.in-Some.obstacle (scan_answer c.scan_answer.result) c.scan_answer.ensures.told f.index.choices;
    })

pub returns-in_err-version-clause-memory : goal.returns-in_err-version-clause-memory
returns-in_err-version-clause-memory c = let f = c.self.inside in rw (← c.self.view_is) (λ none. found-may f.index f.last f.pulls.items f.copies.items c.self.invariant c.args.name.now c.me-me.result c.me-me.ensures (option_copied c.get-local.result) c.get-local.ensures c.deref.result.now c.deref.ensures.value (option_copied c.args.expected) c.is_same-is_unchanged.result c.scan_obstacle-obstacle.result c.scan_obstacle-obstacle.ensures c.args.found.now c.args.moment c.is_same-is_unchanged.ensures c.in_default.is)

pub returns-in_err-record-clause-memory : goal.returns-in_err-record-clause-memory
returns-in_err-record-clause-memory c = let f = c.self.inside in rw (← c.self.view_is) (λ none. found-may f.index f.last f.pulls.items f.copies.items c.self.invariant c.args.name.now c.me-me.result c.me-me.ensures (option_copied c.get-local.result) c.get-local.ensures c.deref.result.now c.deref.ensures.value (option_copied c.args.expected) c.is_same-is_unchanged.result c.scan_obstacle-obstacle.result c.scan_obstacle-obstacle.ensures c.args.found.now c.args.moment c.is_same-is_unchanged.ensures c.in_default.is)

pub returns-in_err-set-clause-memory : goal.returns-in_err-set-clause-memory
returns-in_err-set-clause-memory c = let f = c.self.inside in rw (← c.self.view_is) (λ none. found-may f.index f.last f.pulls.items f.copies.items c.self.invariant c.args.name.now c.me-me.result c.me-me.ensures (option_copied c.get-local.result) c.get-local.ensures c.deref.result.now c.deref.ensures.value (option_copied c.args.expected) c.is_same-is_unchanged.result c.scan_obstacle-obstacle.result c.scan_obstacle-obstacle.ensures c.args.found.now c.args.moment c.is_same-is_unchanged.ensures c.in_default.is)

pub with_sequence-requires : goal.with_sequence-requires
with_sequence-requires c = let f = c.self.inside in fits-next f.index f.last f.pulls.items f.copies.items c.self.invariant c.args.name.now c.me-me.result c.me-me.ensures (option_copied c.get-local.result) c.get-local.ensures c.deref.result.now c.deref.ensures.value (option_copied c.args.expected) c.is_same-is_unchanged.result c.scan_obstacle-obstacle.result c.scan_obstacle-obstacle.ensures c.in_default.is

pub set-requires : goal.set-requires
set-requires c =
    let f = c.self.inside in
    λ own. free-next f.index f.last f.pulls.items f.copies.items c.self.invariant c.with_sequence.result.name c.with_sequence.result.sequence (ap (λ (r : FileRecord). r.sequence) c.with_sequence.ensures)

pub invariant_of-self-2 : goal.invariant_of-self-2
invariant_of-self-2 c =
    let f = c.self.inside in
    let n = c.args.name.now in
    let state = folder_with f.index f.last (pulls_of f.pulls.items) in
    let r = c.in_ok-record.record in
    let version = c.in_ok-version.ensures ∙ ap (λ v. raised (unwrap_or v []) c.short_id-id.result c.args.moment) c.version_of-2.ensures in
    let built = found-record f.index f.last f.pulls.items f.copies.items c.self.invariant c.args.name.now c.me-me.result c.me-me.ensures (option_copied c.get-local.result) c.get-local.ensures c.deref.result.now c.deref.ensures.value (option_copied c.args.expected) c.is_same-is_unchanged.result c.scan_obstacle-obstacle.result c.scan_obstacle-obstacle.ensures c.args.found.now c.args.moment c.is_same-is_unchanged.ensures c.in_ok-version.version c.short_id-id.result r version c.short_id-id.ensures c.in_ok-record.ensures in
    let made = found-made f.index f.last f.pulls.items f.copies.items c.self.invariant c.args.name.now c.me-me.result c.me-me.ensures (option_copied c.get-local.result) c.get-local.ensures c.deref.result.now c.deref.ensures.value (option_copied c.args.expected) c.is_same-is_unchanged.result c.scan_obstacle-obstacle.result c.scan_obstacle-obstacle.ensures c.args.found.now c.args.moment c.is_same-is_unchanged.ensures c.in_default.is ∙ ap (λ x. (Recorded (f.last + 1), with_local state x)) (sym built) in
    let named = ap (λ (x : FileRecord). x.name) built ∙ found-name state n (next_version state n c.args.moment) c.args.found.now c.args.found.now.content in
    let free = no-commit f.index f.last f.pulls.items f.copies.items c.self.invariant c.args.name.now c.me-me.result c.me-me.ensures (option_copied c.get-local.result) c.get-local.ensures c.deref.result.now c.deref.ensures.value (option_copied c.args.expected) c.is_same-is_unchanged.result c.scan_obstacle-obstacle.result c.scan_obstacle-obstacle.ensures c.in_default.is in
    recorded-indexed f.index f.last f.pulls.items f.copies.items c.self.invariant (ScanFound n (option_copied c.args.expected) c.args.found.now c.args.moment) c.requires r c.with_sequence.result n named free made c.me-me.result c.me-me.ensures (f.last + 1) refl c.set.new.self c.in_ok-set.ensures.ok c.with_sequence.ensures

pub returns-clause-changes : goal.returns-clause-changes
returns-clause-changes c =
    let f = c.self.inside in
    let n = c.args.name.now in
    let state = folder_with f.index f.last (pulls_of f.pulls.items) in
    let r = c.in_ok-record.record in
    let version = c.in_ok-version.ensures ∙ ap (λ v. raised (unwrap_or v []) c.short_id-id.result c.args.moment) c.version_of-2.ensures in
    let built = found-record f.index f.last f.pulls.items f.copies.items c.self.invariant c.args.name.now c.me-me.result c.me-me.ensures (option_copied c.get-local.result) c.get-local.ensures c.deref.result.now c.deref.ensures.value (option_copied c.args.expected) c.is_same-is_unchanged.result c.scan_obstacle-obstacle.result c.scan_obstacle-obstacle.ensures c.args.found.now c.args.moment c.is_same-is_unchanged.ensures c.in_ok-version.version c.short_id-id.result r version c.short_id-id.ensures c.in_ok-record.ensures in
    let made = found-made f.index f.last f.pulls.items f.copies.items c.self.invariant c.args.name.now c.me-me.result c.me-me.ensures (option_copied c.get-local.result) c.get-local.ensures c.deref.result.now c.deref.ensures.value (option_copied c.args.expected) c.is_same-is_unchanged.result c.scan_obstacle-obstacle.result c.scan_obstacle-obstacle.ensures c.args.found.now c.args.moment c.is_same-is_unchanged.ensures c.in_default.is ∙ ap (λ x. (Recorded (f.last + 1), with_local state x)) (sym built) in
    let named = ap (λ (x : FileRecord). x.name) built ∙ found-name state n (next_version state n c.args.moment) c.args.found.now c.args.found.now.content in
    let free = no-commit f.index f.last f.pulls.items f.copies.items c.self.invariant c.args.name.now c.me-me.result c.me-me.ensures (option_copied c.get-local.result) c.get-local.ensures c.deref.result.now c.deref.ensures.value (option_copied c.args.expected) c.is_same-is_unchanged.result c.scan_obstacle-obstacle.result c.scan_obstacle-obstacle.ensures c.in_default.is in
    rw (← c.self.view_is) (recorded f.index f.last f.pulls.items f.copies.items c.self.invariant (ScanFound n (option_copied c.args.expected) c.args.found.now c.args.moment) c.requires r c.with_sequence.result n named free made c.me-me.result c.me-me.ensures (f.last + 1) refl c.set.new.self c.in_ok-set.ensures.ok c.with_sequence.ensures)

pub returns-clause-choices : goal.returns-clause-choices
returns-clause-choices c =
    let f = c.self.inside in
    let n = c.args.name.now in
    let state = folder_with f.index f.last (pulls_of f.pulls.items) in
    let r = c.in_ok-record.record in
    let version = c.in_ok-version.ensures ∙ ap (λ v. raised (unwrap_or v []) c.short_id-id.result c.args.moment) c.version_of-2.ensures in
    let built = found-record f.index f.last f.pulls.items f.copies.items c.self.invariant c.args.name.now c.me-me.result c.me-me.ensures (option_copied c.get-local.result) c.get-local.ensures c.deref.result.now c.deref.ensures.value (option_copied c.args.expected) c.is_same-is_unchanged.result c.scan_obstacle-obstacle.result c.scan_obstacle-obstacle.ensures c.args.found.now c.args.moment c.is_same-is_unchanged.ensures c.in_ok-version.version c.short_id-id.result r version c.short_id-id.ensures c.in_ok-record.ensures in
    let made = found-made f.index f.last f.pulls.items f.copies.items c.self.invariant c.args.name.now c.me-me.result c.me-me.ensures (option_copied c.get-local.result) c.get-local.ensures c.deref.result.now c.deref.ensures.value (option_copied c.args.expected) c.is_same-is_unchanged.result c.scan_obstacle-obstacle.result c.scan_obstacle-obstacle.ensures c.args.found.now c.args.moment c.is_same-is_unchanged.ensures c.in_default.is ∙ ap (λ x. (Recorded (f.last + 1), with_local state x)) (sym built) in
    let named = ap (λ (x : FileRecord). x.name) built ∙ found-name state n (next_version state n c.args.moment) c.args.found.now c.args.found.now.content in
    let free = no-commit f.index f.last f.pulls.items f.copies.items c.self.invariant c.args.name.now c.me-me.result c.me-me.ensures (option_copied c.get-local.result) c.get-local.ensures c.deref.result.now c.deref.ensures.value (option_copied c.args.expected) c.is_same-is_unchanged.result c.scan_obstacle-obstacle.result c.scan_obstacle-obstacle.ensures c.in_default.is in
    rw (← c.self.view_is) (recorded-counted f.index f.last f.pulls.items f.copies.items c.self.invariant (ScanFound n (option_copied c.args.expected) c.args.found.now c.args.moment) c.requires r c.with_sequence.result n named free made c.me-me.result c.me-me.ensures (f.last + 1) refl c.set.new.self c.in_ok-set.ensures.ok c.with_sequence.ensures)
