use Rattle.std.proofs.Common.{◌≡◌, ◌∙◌, pos, map, to_z, sym, ap}
use Rattle.std.specs.Int.{w64}
use Rattle.folder_core.specs.PlainRestores.{given}
use Rattle.folder_core.specs.Restores.{restored_folder}
use Rattle.folder_core.proofs.ListTests.{ok_then}
use Rattle.node_resume.specs.Resumed.{is_kept, shared_records}
use Rattle.node_resume.proofs.Restoring.{known-own, last-number, may, restored-is}
use Rattle.node_resume.proofs.resuming.shared_records.Goals as goal

pub restored-requires : goal.restored-requires
restored-requires c =
    let s = c.args.folder.now in
    let own = c.me-me.ensures.me in
    let last : to_z w64 c.known.result ≡ pos s.last = last-number s c.me-me.ensures.folder c.known.result (c.known.ensures ∙ known-own s c.me-me.result own) in
    may s (is_kept c.args.config.now c.args.place) c.me-me.ensures.folder c.records.result.now c.records.ensures c.me-me.result own c.from_vec.result (c.from_vec.ensures ∙ c.in_ok-kept.ensures) (to_z w64 c.known.result) last

pub returns : goal.returns
returns c =
    let s = c.args.folder.now in
    let own = c.me-me.ensures.me in
    let last : to_z w64 c.known.result ≡ pos s.last = last-number s c.me-me.ensures.folder c.known.result (c.known.ensures ∙ known-own s c.me-me.result own) in
    let is = restored-is s (is_kept c.args.config.now c.args.place) c.me-me.ensures.folder c.records.result.now c.records.ensures c.me-me.result own c.from_vec.result (c.from_vec.ensures ∙ c.in_ok-kept.ensures) (to_z w64 c.known.result) last in
    ok_then {P = λ index. index.folder ≡ restored_folder c.me-me.result (map given c.from_vec.result) (to_z w64 c.known.result)} {Q = λ index. index.folder ≡ shared_records c.args.config.now c.args.place s}
    c.restored.result (λ index e. e ∙ is) c.restored.ensures
