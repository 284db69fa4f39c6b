use Rattle.std.proofs.Common.{◌∙◌, [], append-nil, refl, sym, take, arith}
use Rattle.std.specs.Prelude.{IsTrue, option_copied, unwrap_or}
use Rattle.rayon.proofs.ListFacts.{IfOk-then}
use Rattle.file_store.specs.Sequences.{Since, not_called}
use Rattle.sync_scan.specs.Ahead.{HasBytes}
use Rattle.sync_scan.specs.Told.{Fails}
use Rattle.sync_scan.proofs.SeenLemmas.{sight-found}
use Rattle.sync_scan.proofs.ahead.sight_of_file.Goals as goal

pub returns-clause-sight : goal.returns-clause-sight
returns-clause-sight g c = λ first looks says there.
    IfOk-then c.read_part.result _ _ (c.read_part.ensures.read first looks) (λ s h.
    sight-found (Since g.S.FileStore.gives first) (IsTrue g.S.FileStore.keeps) (g.S.FileStore.tree c.args.store.now) c.args.name.now (option_copied c.args.local) c.in-File.size c.in-File.modified (omega arith) (rw c.in-File.is at says) (rw c.in-File.is at there)
    (HasBytes (take c.read_part.new.batch.filled c.read_part.new.buffer.items) c.read_part.new.batch.cuts.items) (Fails g.S.FileStore.gives c.args.name.now) s
    (sym (c.unwrap_or.ensures ∙ (λ t. unwrap_or (c.recorded_block_size.ensures.value t) (c.block_size_for-own.ensures t))) ∙ c.if-unwrap_or-own.false ∙ c.block_size_for-own.ensures) h)

pub returns-in_default : goal.returns-in_default
returns-in_default g c = record {
  within = c.requires.within;
  bytes = ([], append-nil (take c.args.batch.now.filled c.args.buffer.now.items));
  cuts = ([], append-nil c.args.batch.now.cuts.items);
  sight = λ first looks says there. tt;
  looks = not_called;
  kept = λ keeps. refl;
}
