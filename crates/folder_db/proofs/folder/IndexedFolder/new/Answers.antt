use Rattle.std.proofs.Common.{refl, ap, arith}
use Rattle.folder_core.specs.States.{empty_folder}
use Rattle.folder_core.proofs.ChangeFolders.{empty-folder}
use Rattle.folder_index.specs.Indexes.{IndexState}
use Rattle.folder_db.proofs.Filling.{closed-indexed, closed-state}
use Rattle.folder_db.proofs.folder.IndexedFolder.new.Goals as goal

pub invariant_of-result : goal.invariant_of-result
invariant_of-result c =
    let me = c.args.me in
    closed-indexed (empty_folder me) (empty-folder me) refl c.new.result (ap (λ (s : IndexState). s.me) c.new.ensures) (ap (λ (s : IndexState). s.announced) c.new.ensures) 0 refl c.new-2.result.items c.new-2.ensures.items
    c.new-3.result.items c.new-3.ensures.items (ap (λ (s : IndexState). s.promised) c.new.ensures) (let none = ap (λ (s : IndexState). s.choices) c.new.ensures in omega arith)

pub returns : goal.returns
returns c =
    let me = c.args.me in
    (λ i. record {
      folder = closed-state (empty_folder me) (empty-folder me) refl c.new.result (ap (λ (s : IndexState). s.me) c.new.ensures) (ap (λ (s : IndexState). s.announced) c.new.ensures) 0 refl c.new-2.result.items c.new-2.ensures.items i;
      choices = ap (λ (s : IndexState). s.choices) c.new.ensures i;
    })
