use Rattle.std.proofs.Common.{◌≡◌, ◌+◌, ◌<◌, ◌^◌, ◌∙◌, List, length, map, to_z, ap, subst, arith}
use Rattle.std.specs.Int.{w64}
use Rattle.std.specs.Prelude.{pos}
use Rattle.std.proofs.lemmas.Int.{to_z_pos}
use Rattle.folder_core.specs.declared.announcement.Announcement.{Announcement}
use Rattle.folder_core.specs.PlainRestores.{given}
use Rattle.folder_core.specs.Restores.{MayRestore, restored_folder}
use Rattle.node_replay.proofs.Advancing.{may-advanced, restored-advanced}
use Rattle.node_replay.proofs.LaidFolders.{below-rises, known-last}
use Rattle.node_replay.proofs.settling.with_finished.Goals as goal

pub laid_over-requires : goal.laid_over-requires
laid_over-requires c = below-rises c.in_ok-plain.plain c.records.result.now c.records.ensures

pub returns-in-Ok-clause-is : goal.returns-in-Ok-clause-is
returns-in-Ok-clause-is c =
    let s = c.args.folder.folder in
    let me = c.args.me in
    let told = c.args.finished.items in
    let last = c.known.result + c.len.result in
    let e : last ≡ s.last + length told = omega (arith, c.known.ensures ∙ known-last s me c.requires.own, c.len.ensures ∙ c.args.finished.ok.0) in
    let fits : last < 2 ^ 63 = omega (arith, e, c.requires.folder.room) in
    let num : to_z w64 last ≡ pos last = to_z_pos w64 last fits in
    c.in-Ok.ensures.restored ∙ ap (λ (es : List Announcement). restored_folder me (map given es) (to_z w64 last)) c.from_vec.ensures
    ∙ restored-advanced s c.in_ok-plain.plain c.in_ok-plain.ensures.copy c.requires.closed me c.requires.own c.records.result.now c.records.ensures told
    c.in_ok-records.records.items c.in_ok-records.ensures.rises c.in_ok-records.ensures.announced last e (to_z w64 last) num

pub unreachable-requires : goal.unreachable-requires
unreachable-requires c =
    let s = c.args.folder.folder in
    let me = c.args.me in
    let told = c.args.finished.items in
    let last = c.known.result + c.len.result in
    let e : last ≡ s.last + length told = omega (arith, c.known.ensures ∙ known-last s me c.requires.own, c.len.ensures ∙ c.args.finished.ok.0) in
    let fits : last < 2 ^ 63 = omega (arith, e, c.requires.folder.room) in
    let num : to_z w64 last ≡ pos last = to_z_pos w64 last fits in
    let refused : ¬ (MayRestore me (map given c.from_vec.result) (to_z w64 last)) = c.in-Err-BadRecords.ensures.refused c.in-Err-BadRecords.field-0-is in
    subst (λ (es : List Announcement). ¬ (MayRestore me (map given es) (to_z w64 last))) c.from_vec.ensures refused
    (may-advanced s c.in_ok-plain.plain c.in_ok-plain.ensures.copy c.requires.closed me c.requires.own c.records.result.now c.records.ensures told
    c.in_ok-records.records.items c.in_ok-records.ensures.rises c.in_ok-records.ensures.announced last e (to_z w64 last) num c.requires.folder)
