use Rattle.std.proofs.Common.{◌∙◌, sym, ap, take}
use Rattle.std.specs.Prelude.{IsTrue, option_copied}
use Rattle.rayon.proofs.ListFacts.{IfOk-then}
use Rattle.file_store.specs.Asked.{StatAt}
use Rattle.file_store.specs.Calls.{stat_of}
use Rattle.file_store.specs.Sequences.{IsLook, Since}
use Rattle.file_store.proofs.SequenceLemmas.{called_on, called_once}
use Rattle.file_store.specs.Trees.{Tree}
use Rattle.sync_scan.specs.Ahead.{HasBytes}
use Rattle.sync_scan.specs.Looks.{MayFind}
use Rattle.sync_scan.specs.Told.{Fails}
use Rattle.sync_scan.proofs.LookLemmas.{stat_look, stat_then}
use Rattle.sync_scan.proofs.EachLemmas.{may-moved}
use Rattle.sync_scan.proofs.SeenLemmas.{sight-weaker}
use Rattle.sync_scan.proofs.ToldLemmas.{fails-stat}
use Rattle.sync_scan.proofs.ahead.sight_of.Goals as goal

pub returns-in-Ok-clause-sight : goal.returns-in-Ok-clause-sight
returns-in-Ok-clause-sight g c = λ first looks.
    let gives = g.S.FileStore.gives in
    let keeps = IsTrue g.S.FileStore.keeps in
    let tree = g.S.FileStore.tree c.args.store.now in
    let then = g.S.FileStore.tree c.stat.new.self in
    let n = c.args.name.now in
    let local = option_copied c.args.local in
    let has = HasBytes (take c.sight_of_file.new.batch.filled c.sight_of_file.new.buffer.items) c.sight_of_file.new.batch.cuts.items in
    let same = λ (k : IsTrue g.S.FileStore.keeps). (c.in-Ok.ensures.stats k).kept in
    IfOk-then c.sight_of_file.result _ _
    (c.sight_of_file.ensures.sight first (called_on gives IsLook first c.args.store.now c.stat.new.self looks (called_once gives IsLook c.args.store.now c.stat.new.self (StatAt n) _ tt c.in-Ok.ensures.gives))
    (c.args.store.now, c.stat.new.self, (looks, c.in-Ok.ensures.gives))
    (λ k. (c.in-Ok.ensures.stats k).value ∙ ap (λ (t : Tree). stat_of (t.names c.args.name.now)) (sym (same k))))
    (λ s h. sight-weaker has has (MayFind (Since gives first) keeps then n local) (MayFind (Since gives first) keeps tree n local) (Fails gives n) s (λ p b x. x) (may-moved (Since gives first) keeps then tree same n local) h)

pub returns-in-Err-clause-sight : goal.returns-in-Err-clause-sight
returns-in-Err-clause-sight g c = λ first looks. fails-stat g.S.FileStore.gives c.args.name.now c.args.store.now c.stat.new.self c.in-Err.refusal c.in-Err.ensures.refusals c.in-Err.ensures.gives

pub returns-in-Ok-clause-looks : goal.returns-in-Ok-clause-looks
returns-in-Ok-clause-looks g c = stat_then g.S.FileStore.gives _ _ _ _ _ c.in-Ok.ensures.gives c.sight_of_file.ensures.looks

pub returns-in-Err-clause-looks : goal.returns-in-Err-clause-looks
returns-in-Err-clause-looks g c = stat_look g.S.FileStore.gives _ _ _ _ c.in-Err.ensures.gives
