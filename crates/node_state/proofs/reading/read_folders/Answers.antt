use Rattle.std.proofs.Common.{◌≡◌, true, false, drop, rules}
use Rattle.std.specs.List.{list_any}
use Rattle.std.specs.Prelude.{bytes_eq, slice_range}
use Rattle.std.proofs.lemmas.Result.{err_from_is_err_and}
use Rattle.node_state.specs.declared.state.StoredFolder.{StoredFolder}
use Rattle.node_state.specs.Reading.{IsGoodFolder}
use Rattle.node_state.proofs.Goes.{goes-on}
use Rattle.node_state.proofs.States.{folder_at, ids-once, ids-push, ids-repeat, itself, some-folder}
use Rattle.node_state.proofs.reading.read_folders.Goals as goal

pub returns-then-has_id-clause-err : goal.returns-then-has_id-clause-err
returns-then-has_id-clause-err c = λ _ ended good once.
    let fs = c.loop-folders.folders.items in
    let f : StoredFolder = c.in_ok-folder.folder in
    let body = c.args.body.now in
    let is = rw c.in-Some.is at c.in_ok-start.ensures.first in
    let old : list_any (λ (g : StoredFolder). bytes_eq g.id f.id) fs ≡ true = search rules in
    ids-repeat c.args.me c.args.edition body fs (drop c.loop-folders.at body) (slice_range body c.in-Some.start c.in-Some.end) (drop c.in-Some.end body) f
    c.loop-folders.invariant.goes is c.in_ok-folder.ensures.value old once

pub loop-folders-preserved : goal.loop-folders-preserved
loop-folders-preserved c =
    let fs = c.loop-folders.folders.items in
    let f : StoredFolder = c.in_ok-folder.folder in
    let body = c.args.body.now in
    let is = rw c.in-Some.is at c.in_ok-start.ensures.first in
    let new : list_any (λ (g : StoredFolder). bytes_eq g.id f.id) fs ≡ false = search rules in
    record {
      goes = goes-on (IsGoodFolder c.args.me c.args.edition) (folder_at c.args.me c.args.edition body) itself 1 body fs (drop c.loop-folders.at body)
          c.loop-folders.invariant.goes (slice_range body c.in-Some.start c.in-Some.end) (drop c.in-Some.end body) f c.push.new.self.items is
          c.in_ok-folder.ensures.good c.in_ok-folder.ensures.value c.in_ok-push.ensures.items;
      once = ids-push fs c.push.new.self.items f c.loop-folders.invariant.once new c.in_ok-push.ensures.items;
    }

pub returns-clause-once : goal.returns-clause-once
returns-clause-once c = ids-once c.loop-folders.folders.items c.loop-folders.invariant.once

pub returns-in_err-folder-clause-memory : goal.returns-in_err-folder-clause-memory
returns-in_err-folder-clause-memory c =
    let body = c.args.body.now in
    let is = rw c.in-Some.is at c.in_ok-start.ensures.first in
    let p = err_from_is_err_and c.from_residual-in_err-folder.result c.from_residual-in_err-folder.ensures.1 in
    rw (p.1, p.2) (λ _. some-folder c.args.me c.args.edition body c.loop-folders.folders.items (drop c.loop-folders.at body) (slice_range body c.in-Some.start c.in-Some.end) (drop c.in-Some.end body)
    c.loop-folders.invariant.goes is)

pub returns-in_err-push-clause-memory : goal.returns-in_err-push-clause-memory
returns-in_err-push-clause-memory c =
    let body = c.args.body.now in
    let is = rw c.in-Some.is at c.in_ok-start.ensures.first in
    let p = err_from_is_err_and c.from_residual-in_err-push.result c.from_residual-in_err-push.ensures.1 in
    rw (p.1, p.2) (λ _. some-folder c.args.me c.args.edition body c.loop-folders.folders.items (drop c.loop-folders.at body) (slice_range body c.in-Some.start c.in-Some.end) (drop c.in-Some.end body)
    c.loop-folders.invariant.goes is)
