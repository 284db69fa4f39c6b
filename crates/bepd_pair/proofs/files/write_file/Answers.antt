use Rattle.std.proofs.Common.{refl, ap, ◌∙◌}
use Rattle.file_store.specs.Calls.{temp_written}
use Rattle.file_store.specs.Stores.{mem_tree}
use Rattle.bepd_pair.specs.Files.{ChangesStore, IsNoPlaceForFile, file_put}
use Rattle.bepd_pair.proofs.Filing.{committed_out, no_place, passed, put_whole, temp_there, written_free, written_out, written_there}
use Rattle.bepd_pair.proofs.files.write_file.Goals as goal

pub returns-in_err-write_at : goal.returns-in_err-write_at
returns-in_err-write_at c =
    let old = mem_tree c.args.store.now in
    let n = c.args.name.now in
    let unfit = IsNoPlaceForFile old n in
    let done = file_put old n c.args.text.now c.args.moment in
    let new = mem_tree c.write_at.new.self in
    let made = (c.in_ok-make_temp.ensures.makes refl).1 in
    passed (λ r. ChangesStore unfit old done r new) c.from_residual-in_err-write_at.result c.in_err-write_at.field-0.0 c.from_residual-in_err-write_at.ensures.1
    (written_out unfit old done (mem_tree c.make_temp.new.self) new n _ c.as_bytes.result.now c.in_err-write_at.field-0.0 (temp_there old (mem_tree c.make_temp.new.self) n made) (c.in_err-write_at.ensures.writes refl))

pub returns-in_err-commit_temp : goal.returns-in_err-commit_temp
returns-in_err-commit_temp c =
    let old = mem_tree c.args.store.now in
    let n = c.args.name.now in
    let unfit = IsNoPlaceForFile old n in
    let done = file_put old n c.args.text.now c.args.moment in
    let mid = mem_tree c.make_temp.new.self in
    let written = mem_tree c.write_at.new.self in
    let new = mem_tree c.commit_temp.new.self in
    let made = (c.in_ok-make_temp.ensures.makes refl).1 in
    let wrote = (c.in_ok-write_at.ensures.writes refl).1 in
    passed (λ r. ChangesStore unfit old done r new) c.from_residual-in_err-commit_temp.result c.in_err-commit_temp.field-0.0 c.from_residual-in_err-commit_temp.ensures.1
    (committed_out unfit old done written new n _ c.in_err-commit_temp.field-0.0 (written_there mid written n c.as_bytes.result.now wrote)
    (written_free old mid written n c.as_bytes.result.now c.requires made wrote) (c.in_err-commit_temp.ensures.commits refl))

pub returns : goal.returns
returns c =
    let old = mem_tree c.args.store.now in
    let n = c.args.name.now in
    let made = c.in_ok-make_temp.ensures.makes refl in
    let wrote = (c.in_ok-write_at.ensures.writes refl).1 in
    let placed = (c.in_ok-commit_temp.ensures.commits refl) in (
      no_place old n c.requires made.0,
      c.set_modified.ensures.tree ∙ put_whole old (mem_tree c.make_temp.new.self) (mem_tree c.write_at.new.self) (mem_tree c.commit_temp.new.self) n c.args.text.now placed.0 c.args.moment made.1 (wrote ∙ ap (λ b. temp_written (mem_tree c.make_temp.new.self) n 0 b) c.as_bytes.ensures.value) placed.1.1,
    )
