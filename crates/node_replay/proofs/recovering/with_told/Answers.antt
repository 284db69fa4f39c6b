use Rattle.std.proofs.Common.{◌≡◌, ◌∙◌, ℕ, List, to_z, map, max, ap, subst}
use Rattle.std.specs.Int.{w64}
use Rattle.std.specs.Prelude.{fold, pos}
use Rattle.std.proofs.lemmas.Int.{to_z_pos}
use Rattle.folder_core.specs.declared.announcement.Announcement.{Announcement}
use Rattle.folder_core.specs.PlainRestores.{given}
use Rattle.folder_core.specs.Restores.{MayRestore, restored_folder}
use Rattle.node_replay.specs.Told.{lasts_told}
use Rattle.node_replay.proofs.LaidFolders.{below-rises, known-last, none-over, over-is}
use Rattle.node_replay.proofs.recovering.with_told.Goals as goal

pub laid_over-requires : goal.laid_over-requires
laid_over-requires c = below-rises c.args.folder.now c.records.result.now c.records.ensures

pub returns-in-Ok-clause-is : goal.returns-in-Ok-clause-is
returns-in-Ok-clause-is c =
    let s = c.args.folder.now in
    let me = c.me-me.result in
    let own = c.me-me.ensures.me in
    let last = c.last_after-last.result in
    let lasts = lasts_told (map (λ p. p.now) c.args.parts.now) in
    let e : last ≡ fold max s.last lasts = c.last_after-last.ensures.value ∙ ap (λ (n : ℕ). fold max n lasts) (c.known.ensures ∙ known-last s me own) in
    let num : to_z w64 last ≡ pos last = to_z_pos w64 last c.last_after-last.ensures.fits in
    over-is s c.records.result.now c.records.ensures me own c.args.told.items c.in_ok-records.records.items c.in_ok-records.ensures.rises c.in_ok-records.ensures.announced
    last (to_z w64 last) num lasts e c.in-Ok.folder
    (c.in-Ok.ensures.restored ∙ ap (λ (es : List Announcement). restored_folder me (map given es) (to_z w64 last)) c.from_vec.ensures)

pub returns-in-Err-BadRecords-clause-err : goal.returns-in-Err-BadRecords-clause-err
returns-in-Err-BadRecords-clause-err c =
    let s = c.args.folder.now in
    let me = c.me-me.result in
    let own = c.me-me.ensures.me in
    let last = c.last_after-last.result in
    let lasts = lasts_told (map (λ p. p.now) c.args.parts.now) in
    let e : last ≡ fold max s.last lasts = c.last_after-last.ensures.value ∙ ap (λ (n : ℕ). fold max n lasts) (c.known.ensures ∙ known-last s me own) in
    let num : to_z w64 last ≡ pos last = to_z_pos w64 last c.last_after-last.ensures.fits in
    let refused : ¬ (MayRestore me (map given c.from_vec.result) (to_z w64 last)) = c.in-Err-BadRecords.ensures.refused c.in-Err-BadRecords.field-0-is in
    none-over s c.records.result.now c.records.ensures me own c.args.told.items c.in_ok-records.records.items c.in_ok-records.ensures.rises c.in_ok-records.ensures.announced
    last (to_z w64 last) num lasts e
    (subst (λ (es : List Announcement). ¬ (MayRestore me (map given es) (to_z w64 last))) c.from_vec.ensures refused)
