use Rattle.std.proofs.Common.{◌≡◌, ◌+◌, refl, sym, ap, ◌∙◌}
use Rattle.std.specs.Prelude.{Some, option_copied}
use Rattle.sync_record.specs.Records.{FileRecord}
use Rattle.sync_version.specs.Computed.{raised}
use Rattle.folder_core.specs.Announced.{key}
use Rattle.folder_core.specs.Calls.{scan_answer}
use Rattle.folder_core.specs.Plain.{pulls_of}
use Rattle.folder_core.specs.Steps.{with_local}
use Rattle.folder_core.specs.declared.answer.Answer.TheVariants.{Recorded}
use Rattle.folder_core.specs.declared.change.Change.TheVariants.{ScanGone}
use Rattle.folder_db.specs.Indexed.{folder_with}
use Rattle.folder_db.proofs.Scans.{fits-next, free-next, gone-made, gone-may, gone-memory, gone-record, gone-told, no-commit, recorded, recorded-counted, recorded-indexed, told-choices}
use Rattle.folder_db.proofs.folder.IndexedFolderFolderCore.scan_gone.Goals as goal

pub returns-in-Some : goal.returns-in-Some
returns-in-Some c =
    let f = c.self.inside in
    rw (← c.self.view_is) (record {
      changes = gone-told f.index f.last f.pulls.items f.copies.items c.self.invariant c.args.name.now c.me-me.result c.me-me.ensures (option_copied c.get-local.result) c.get-local.ensures c.deref.result.now c.deref.ensures.value (option_copied c.args.expected) c.is_gone-is_unchanged.result c.scan_obstacle-obstacle.result c.scan_obstacle-obstacle.ensures c.args.moment c.is_gone-is_unchanged.ensures c.in-Some.obstacle (option_copied c.version_of.result) (scan_answer c.scan_answer.result) c.in-Some.is c.version_of.ensures c.scan_answer.ensures.told;
      memory = λ none. gone-memory f.index f.last f.pulls.items f.copies.items c.self.invariant c.args.name.now c.me-me.result c.me-me.ensures (option_copied c.get-local.result) c.get-local.ensures c.deref.result.now c.deref.ensures.value (option_copied c.args.expected) c.is_gone-is_unchanged.result c.scan_obstacle-obstacle.result c.scan_obstacle-obstacle.ensures c.args.moment c.is_gone-is_unchanged.ensures c.in-Some.obstacle (option_copied c.version_of.result) c.in-Some.is c.version_of.ensures (c.scan_answer.ensures.memory none);
      choices = told-choices (option_copied c.version_of.result) c.in-Some.obstacle (scan_answer c.scan_answer.result) c.scan_answer.ensures.told f.index.choices;
    })

pub returns-in_err-version-clause-memory : goal.returns-in_err-version-clause-memory
returns-in_err-version-clause-memory c = let f = c.self.inside in rw (← c.self.view_is) (λ none. gone-may f.index f.last f.pulls.items f.copies.items c.self.invariant c.args.name.now c.me-me.result c.me-me.ensures (option_copied c.get-local.result) c.get-local.ensures c.deref.result.now c.deref.ensures.value (option_copied c.args.expected) c.is_gone-is_unchanged.result c.scan_obstacle-obstacle.result c.scan_obstacle-obstacle.ensures c.args.moment c.is_gone-is_unchanged.ensures c.in-Some-local.local.now (ap option_copied c.in-Some-local.is) c.in_default.is)

pub returns-in_err-record-clause-memory : goal.returns-in_err-record-clause-memory
returns-in_err-record-clause-memory c = let f = c.self.inside in rw (← c.self.view_is) (λ none. gone-may f.index f.last f.pulls.items f.copies.items c.self.invariant c.args.name.now c.me-me.result c.me-me.ensures (option_copied c.get-local.result) c.get-local.ensures c.deref.result.now c.deref.ensures.value (option_copied c.args.expected) c.is_gone-is_unchanged.result c.scan_obstacle-obstacle.result c.scan_obstacle-obstacle.ensures c.args.moment c.is_gone-is_unchanged.ensures c.in-Some-local.local.now (ap option_copied c.in-Some-local.is) c.in_default.is)

pub returns-in_err-set-clause-memory : goal.returns-in_err-set-clause-memory
returns-in_err-set-clause-memory c = let f = c.self.inside in rw (← c.self.view_is) (λ none. gone-may f.index f.last f.pulls.items f.copies.items c.self.invariant c.args.name.now c.me-me.result c.me-me.ensures (option_copied c.get-local.result) c.get-local.ensures c.deref.result.now c.deref.ensures.value (option_copied c.args.expected) c.is_gone-is_unchanged.result c.scan_obstacle-obstacle.result c.scan_obstacle-obstacle.ensures c.args.moment c.is_gone-is_unchanged.ensures c.in-Some-local.local.now (ap option_copied c.in-Some-local.is) c.in_default.is)

pub with_sequence-requires : goal.with_sequence-requires
with_sequence-requires c = let f = c.self.inside in fits-next f.index f.last f.pulls.items f.copies.items c.self.invariant c.args.name.now c.me-me.result c.me-me.ensures (option_copied c.get-local.result) c.get-local.ensures c.deref.result.now c.deref.ensures.value (option_copied c.args.expected) c.is_gone-is_unchanged.result c.scan_obstacle-obstacle.result c.scan_obstacle-obstacle.ensures c.in_default.is

pub set-requires : goal.set-requires
set-requires c =
    let f = c.self.inside in
    λ own. free-next f.index f.last f.pulls.items f.copies.items c.self.invariant c.with_sequence.result.name c.with_sequence.result.sequence (ap (λ (r : FileRecord). r.sequence) c.with_sequence.ensures)

pub invariant_of-self-2 : goal.invariant_of-self-2
invariant_of-self-2 c =
    let f = c.self.inside in
    let n = c.args.name.now in
    let state = folder_with f.index f.last (pulls_of f.pulls.items) in
    let r = c.in_ok-record.record in
    let local = c.in-Some-local.local.now in
    let there : option_copied c.get-local.result ≡ Some local = ap option_copied c.in-Some-local.is in
    let version = c.in_ok-version.ensures ∙ ap (λ v. raised v c.short_id-id.result c.args.moment) c.version.ensures in
    let built = gone-record f.index f.last f.pulls.items f.copies.items c.self.invariant c.args.name.now c.me-me.result c.me-me.ensures (option_copied c.get-local.result) c.get-local.ensures c.deref.result.now c.deref.ensures.value (option_copied c.args.expected) c.is_gone-is_unchanged.result c.scan_obstacle-obstacle.result c.scan_obstacle-obstacle.ensures c.args.moment c.is_gone-is_unchanged.ensures local c.in_ok-version.version c.short_id-id.result r there version c.short_id-id.ensures c.in_ok-record.ensures in
    let made = gone-made f.index f.last f.pulls.items f.copies.items c.self.invariant c.args.name.now c.me-me.result c.me-me.ensures (option_copied c.get-local.result) c.get-local.ensures c.deref.result.now c.deref.ensures.value (option_copied c.args.expected) c.is_gone-is_unchanged.result c.scan_obstacle-obstacle.result c.scan_obstacle-obstacle.ensures c.args.moment c.is_gone-is_unchanged.ensures local there c.in_default.is ∙ ap (λ x. (Recorded (f.last + 1), with_local state x)) (sym built) in
    let named = ap (λ (x : FileRecord). x.name) built ∙ c.self.invariant.folder.named (key n c.me-me.result) local (sym c.get-local.ensures ∙ there) in
    let free = no-commit f.index f.last f.pulls.items f.copies.items c.self.invariant c.args.name.now c.me-me.result c.me-me.ensures (option_copied c.get-local.result) c.get-local.ensures c.deref.result.now c.deref.ensures.value (option_copied c.args.expected) c.is_gone-is_unchanged.result c.scan_obstacle-obstacle.result c.scan_obstacle-obstacle.ensures c.in_default.is in
    recorded-indexed f.index f.last f.pulls.items f.copies.items c.self.invariant (ScanGone n (option_copied c.args.expected) c.args.moment) tt r c.with_sequence.result n named free made c.me-me.result c.me-me.ensures (f.last + 1) refl c.set.new.self c.in_ok-set.ensures.ok c.with_sequence.ensures

pub returns-clause-changes : goal.returns-clause-changes
returns-clause-changes c =
    let f = c.self.inside in
    let n = c.args.name.now in
    let state = folder_with f.index f.last (pulls_of f.pulls.items) in
    let r = c.in_ok-record.record in
    let local = c.in-Some-local.local.now in
    let there : option_copied c.get-local.result ≡ Some local = ap option_copied c.in-Some-local.is in
    let version = c.in_ok-version.ensures ∙ ap (λ v. raised v c.short_id-id.result c.args.moment) c.version.ensures in
    let built = gone-record f.index f.last f.pulls.items f.copies.items c.self.invariant c.args.name.now c.me-me.result c.me-me.ensures (option_copied c.get-local.result) c.get-local.ensures c.deref.result.now c.deref.ensures.value (option_copied c.args.expected) c.is_gone-is_unchanged.result c.scan_obstacle-obstacle.result c.scan_obstacle-obstacle.ensures c.args.moment c.is_gone-is_unchanged.ensures local c.in_ok-version.version c.short_id-id.result r there version c.short_id-id.ensures c.in_ok-record.ensures in
    let made = gone-made f.index f.last f.pulls.items f.copies.items c.self.invariant c.args.name.now c.me-me.result c.me-me.ensures (option_copied c.get-local.result) c.get-local.ensures c.deref.result.now c.deref.ensures.value (option_copied c.args.expected) c.is_gone-is_unchanged.result c.scan_obstacle-obstacle.result c.scan_obstacle-obstacle.ensures c.args.moment c.is_gone-is_unchanged.ensures local there c.in_default.is ∙ ap (λ x. (Recorded (f.last + 1), with_local state x)) (sym built) in
    let named = ap (λ (x : FileRecord). x.name) built ∙ c.self.invariant.folder.named (key n c.me-me.result) local (sym c.get-local.ensures ∙ there) in
    let free = no-commit f.index f.last f.pulls.items f.copies.items c.self.invariant c.args.name.now c.me-me.result c.me-me.ensures (option_copied c.get-local.result) c.get-local.ensures c.deref.result.now c.deref.ensures.value (option_copied c.args.expected) c.is_gone-is_unchanged.result c.scan_obstacle-obstacle.result c.scan_obstacle-obstacle.ensures c.in_default.is in
    rw (← c.self.view_is) (recorded f.index f.last f.pulls.items f.copies.items c.self.invariant (ScanGone n (option_copied c.args.expected) c.args.moment) tt r c.with_sequence.result n named free made c.me-me.result c.me-me.ensures (f.last + 1) refl c.set.new.self c.in_ok-set.ensures.ok c.with_sequence.ensures)

pub returns-clause-choices : goal.returns-clause-choices
returns-clause-choices c =
    let f = c.self.inside in
    let n = c.args.name.now in
    let state = folder_with f.index f.last (pulls_of f.pulls.items) in
    let r = c.in_ok-record.record in
    let local = c.in-Some-local.local.now in
    let there : option_copied c.get-local.result ≡ Some local = ap option_copied c.in-Some-local.is in
    let version = c.in_ok-version.ensures ∙ ap (λ v. raised v c.short_id-id.result c.args.moment) c.version.ensures in
    let built = gone-record f.index f.last f.pulls.items f.copies.items c.self.invariant c.args.name.now c.me-me.result c.me-me.ensures (option_copied c.get-local.result) c.get-local.ensures c.deref.result.now c.deref.ensures.value (option_copied c.args.expected) c.is_gone-is_unchanged.result c.scan_obstacle-obstacle.result c.scan_obstacle-obstacle.ensures c.args.moment c.is_gone-is_unchanged.ensures local c.in_ok-version.version c.short_id-id.result r there version c.short_id-id.ensures c.in_ok-record.ensures in
    let made = gone-made f.index f.last f.pulls.items f.copies.items c.self.invariant c.args.name.now c.me-me.result c.me-me.ensures (option_copied c.get-local.result) c.get-local.ensures c.deref.result.now c.deref.ensures.value (option_copied c.args.expected) c.is_gone-is_unchanged.result c.scan_obstacle-obstacle.result c.scan_obstacle-obstacle.ensures c.args.moment c.is_gone-is_unchanged.ensures local there c.in_default.is ∙ ap (λ x. (Recorded (f.last + 1), with_local state x)) (sym built) in
    let named = ap (λ (x : FileRecord). x.name) built ∙ c.self.invariant.folder.named (key n c.me-me.result) local (sym c.get-local.ensures ∙ there) in
    let free = no-commit f.index f.last f.pulls.items f.copies.items c.self.invariant c.args.name.now c.me-me.result c.me-me.ensures (option_copied c.get-local.result) c.get-local.ensures c.deref.result.now c.deref.ensures.value (option_copied c.args.expected) c.is_gone-is_unchanged.result c.scan_obstacle-obstacle.result c.scan_obstacle-obstacle.ensures c.in_default.is in
    rw (← c.self.view_is) (recorded-counted f.index f.last f.pulls.items f.copies.items c.self.invariant (ScanGone n (option_copied c.args.expected) c.args.moment) tt r c.with_sequence.result n named free made c.me-me.result c.me-me.ensures (f.last + 1) refl c.set.new.self c.in_ok-set.ensures.ok c.with_sequence.ensures)
