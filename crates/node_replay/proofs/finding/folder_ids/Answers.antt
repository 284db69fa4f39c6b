use Rattle.std.proofs.Common.{◌≡◌, ◌++◌, ◌∙◌, [], ℕ, List, map, take, sym, ap, arith}
use Rattle.std.specs.Prelude.{flat_map}
use Rattle.std.proofs.lemmas.Grind.{common_steps}
use Rattle.std.proofs.lemmas.List.{append-nil}
use Rattle.std.proofs.lemmas.Result.{err_from_is_err_and}
use Rattle.node_journal.specs.declared.frame.Frame.{Frame}
use Rattle.node_journal.specs.declared.part.Part.{Part}
use Rattle.node_state.specs.declared.state.StoredFolder.{StoredFolder}
use Rattle.node_replay.specs.Recovered.{firsts}
use Rattle.node_replay.proofs.Adding.{told-more}
use Rattle.node_replay.proofs.All.{at-place}
use Rattle.node_replay.proofs.Firsts.{some-before, some-behind, some-firsts, some-mapped, some-parts}
use Rattle.node_replay.proofs.finding.folder_ids.Goals as goal

pub loop-frame-init : goal.loop-frame-init
loop-frame-init c =
    let none : List (List ℕ) = [] in
    c.in_ok-add_stored.ensures.ids none c.new-ids.ensures.items
    ∙ ap (λ fs. firsts (map (λ (f : StoredFolder). f.id) fs)) c.as_slice-stored.ensures
    ∙ ap firsts (sym (append-nil (map (λ (f : StoredFolder). f.id) c.args.state.now.folders)))

pub loop-frame-preserved : goal.loop-frame-preserved
loop-frame-preserved c =
    let frames = c.args.frames.now in
    let i = c.loop-frame.frame-index in
    let old : List (List ℕ) = map (λ (f : StoredFolder). f.id) c.args.state.now.folders in
    let so_far : List (List ℕ) = old ++ map (λ (p : Part). p.id) (flat_map (λ (f : Frame). f.folders) (take i frames)) in
    c.in_ok-add_told.ensures.ids so_far c.loop-frame.invariant
    ∙ ap (λ ps. firsts (so_far ++ map (λ (p : Part). p.id) ps)) c.as_slice-told.ensures
    ∙ told-more frames i c.frame-item.result c.loop-frame-test.true c.frame-item.is old

pub returns-clause-ids : goal.returns-clause-ids
returns-clause-ids c =
    let all : take c.loop-frame.frame-index c.args.frames.now ≡ c.args.frames.now = grind (arith, common_steps) in
    c.loop-frame.invariant
    ∙ ap (λ fs. firsts (map (λ (f : StoredFolder). f.id) c.args.state.now.folders ++ map (λ (p : Part). p.id) (flat_map (λ (f : Frame). f.folders) fs))) all

pub returns-in_err-add_stored-clause-some : goal.returns-in_err-add_stored-clause-some
returns-in_err-add_stored-clause-some c =
    let p = err_from_is_err_and c.from_residual.result c.from_residual.ensures.1 in
    let old : List (List ℕ) = map (λ (f : StoredFolder). f.id) c.args.state.now.folders in
    let told : List (List ℕ) = map (λ (p : Part). p.id) (flat_map (λ (f : Frame). f.folders) c.args.frames.now) in
    rw p.1 (some-firsts (old ++ told) (some-before old told (some-mapped (λ (f : StoredFolder). f.id) c.args.state.now.folders
    (λ none. c.in_err-add_stored.ensures.some (c.as_slice-stored.ensures ∙ none)))))

pub returns-in_err-add_told-clause-some : goal.returns-in_err-add_told-clause-some
returns-in_err-add_told-clause-some c =
    let p = err_from_is_err_and c.from_residual-in_err-add_told.result c.from_residual-in_err-add_told.ensures.1 in
    let old : List (List ℕ) = map (λ (f : StoredFolder). f.id) c.args.state.now.folders in
    let told : List (List ℕ) = map (λ (p : Part). p.id) (flat_map (λ (f : Frame). f.folders) c.args.frames.now) in
    rw p.1 (some-firsts (old ++ told) (some-behind old told (some-mapped (λ (p : Part). p.id) (flat_map (λ (f : Frame). f.folders) c.args.frames.now)
    (some-parts c.args.frames.now c.frame-item.result (at-place c.args.frames.now c.loop-frame.frame-index c.frame-item.result c.loop-frame-test.true c.frame-item.is)
    (λ none. c.in_err-add_told.ensures.some (c.as_slice-told.ensures ∙ none))))))
