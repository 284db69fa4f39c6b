use Rattle.std.proofs.Common.{sym, ◌∙◌, take, arith}
use Rattle.folder_index.specs.Chunks.{is_lesser}
use Rattle.folder_index.proofs.Chunked.{groups_parted, not_true}
use Rattle.folder_index.proofs.Nearby.{Pass, cut_by, fail_at, none_pass, pass_at}
use Rattle.folder_index.proofs.chunks.is_between.Goals.{in_default-via-in-Some+else-not-is_lesser_at, in_default-via-in_default}
use Rattle.folder_index.proofs.chunks.is_between.Goals as goal

pub returns-in_default-clause-lesser : goal.returns-in_default-clause-lesser
returns-in_default-clause-lesser c = λ t.
    let n = c.args.name.now in
    let gs = c.args.groups.now in
    let parted = groups_parted n gs c.requires in
    let pass : Pass (is_lesser n) (take c.args.place gs) =
    elim c.in_default.branch [
      | in_default-via-in-Some+else-not-is_lesser_at w ↦ pass_at (is_lesser n) gs parted w.in-Some.before c.args.place (sym w.is_lesser_at.ensures ∙ w.if-not-is_lesser_at.false) (let of = w.in-Some.ensures in omega arith)
      | in_default-via-in_default w ↦ none_pass (is_lesser n) gs c.args.place (let none = w.in_default.ensures in omega arith)
    ] in
    (cut_by (is_lesser n) gs c.args.place pass (fail_at (is_lesser n) gs parted c.args.place (sym c.is_lesser_at-in_default.ensures ∙ not_true _ t))).front

pub returns-in_default-clause-others : goal.returns-in_default-clause-others
returns-in_default-clause-others c = λ t.
    let n = c.args.name.now in
    let gs = c.args.groups.now in
    let parted = groups_parted n gs c.requires in
    let pass : Pass (is_lesser n) (take c.args.place gs) =
    elim c.in_default.branch [
      | in_default-via-in-Some+else-not-is_lesser_at w ↦ pass_at (is_lesser n) gs parted w.in-Some.before c.args.place (sym w.is_lesser_at.ensures ∙ w.if-not-is_lesser_at.false) (let of = w.in-Some.ensures in omega arith)
      | in_default-via-in_default w ↦ none_pass (is_lesser n) gs c.args.place (let none = w.in_default.ensures in omega arith)
    ] in
    (cut_by (is_lesser n) gs c.args.place pass (fail_at (is_lesser n) gs parted c.args.place (sym c.is_lesser_at-in_default.ensures ∙ not_true _ t))).back
