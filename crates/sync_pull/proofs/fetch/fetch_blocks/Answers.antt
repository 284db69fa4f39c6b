use Rattle.std.proofs.Common.{rules}
use Rattle.std.proofs.Common.{refl}
use Rattle.std.proofs.Common.{◌≡◌, ◌+◌, ◌≤◌, ap, arith, length, subst, sym, take, ◌∙◌}
use Rattle.std.proofs.lemmas.List.{take_all}
use Rattle.file_store.proofs.SequenceLemmas.{called_on}
use Rattle.sync_record.specs.Records.{FileRecord}
use Rattle.sync_pull.specs.Faults.{StopCounts}
use Rattle.sync_pull.specs.Fetching.{ArePut, HoldsBlocks}
use Rattle.sync_pull.specs.Sources.{Lacks}
use Rattle.sync_pull.proofs.FailLemmas.{err-counts}
use Rattle.sync_pull.proofs.ChainLemmas.{sees-itself, sees-together}
use Rattle.sync_pull.proofs.PuttingLemmas.{temps-then}
use Rattle.file_store.specs.Sequences.{not_called}
use Rattle.sync_pull.proofs.fetch.fetch_blocks.Goals as goal

pub loop-done-preserved : goal.loop-done-preserved
loop-done-preserved g c =
    let inv = c.loop-done.invariant in
    let n = c.args.fetch.now.name.now in
    let done = c.loop-done.done in
    let next = c.min-next.result in
    let items = ap length (c.blocks-count.ensures ∙ ap (λ (r : FileRecord). r.blocks) c.target.ensures) in
    let test = c.loop-done-test.true in
    let least = c.min-next.ensures in
    record {
      target = c.in_ok-fetch_group.ensures.target ∙ inv.target;
      put = c.in_ok-fetch_group.ensures.put;
      within = omega arith;
      folder = c.fetch_group.ensures.folder ∙ inv.folder;
      sees = sees-together _ _ _ inv.sees c.fetch_group.ensures.sees;
      held = λ keeps empty.
          subst (λ (r : FileRecord). HoldsBlocks (take (done + next) r.blocks) n (g.S.FileStore.tree c.fetch_group.new.store)) inv.target
          (c.in_ok-fetch_group.ensures.held keeps
          (subst (λ (r : FileRecord). HoldsBlocks (take done r.blocks) n (g.S.FileStore.tree c.loop-done.store)) (sym inv.target) (inv.held keeps empty)));
      counted = c.in_ok-fetch_group.ensures.counted ∙ inv.counted;
      temp = λ keeps. temps-then n _ _ _ (inv.temp keeps) (c.fetch_group.ensures.temp keeps);
      calls = called_on _ _ _ _ _ inv.calls c.fetch_group.ensures.calls;
    }

pub returns-clause-held : goal.returns-clause-held
returns-clause-held g c = λ keeps empty.
    let r = c.args.draft.now.assembly.target in
    let items = ap length (c.blocks-count.ensures ∙ ap (λ (r : FileRecord). r.blocks) c.target.ensures) in
    let test = c.loop-done-test.false in
    let all : length r.blocks ≤ c.loop-done.done = omega arith in
    subst (λ bs. HoldsBlocks bs c.args.fetch.now.name.now (g.S.FileStore.tree c.loop-done.store)) (take_all c.loop-done.done r.blocks all)
    (c.loop-done.invariant.held keeps empty)

pub returns-clause-put : goal.returns-clause-put
returns-clause-put g c =
    let r = c.args.draft.now.assembly.target in
    let items = ap length (c.blocks-count.ensures ∙ ap (λ (r : FileRecord). r.blocks) c.target.ensures) in
    let test = c.loop-done-test.false in
    let within = c.loop-done.invariant.within in
    let all : c.loop-done.done ≡ length r.blocks = omega arith in
    subst (λ k. ArePut k c.loop-done.draft.assembly) all c.loop-done.invariant.put

pub returns-in_err-fetch_group-clause-counted : goal.returns-in_err-fetch_group-clause-counted
returns-in_err-fetch_group-clause-counted g c =
    let inv = c.loop-done.invariant in
    let stop = c.in_err-fetch_group.field-0.0 in
    let after = g.S.FileStore.fault_count c.fetch_group.new.store in
    let lacks = λ (r : FileRecord). Lacks g.B.BlockSource.gives c.args.fetch.now.me c.args.fetch.now.name.now c.args.fetch.now.devices.now c.fetch_group.new.source r.blocks in
    err-counts (lacks c.args.draft.now.assembly.target) ⊥ c.from_residual.result stop _ after c.from_residual.ensures.1
    (subst (λ k. StopCounts (lacks c.args.draft.now.assembly.target) ⊥ stop k after) inv.counted
    (subst (λ r. StopCounts (lacks r) ⊥ stop (g.S.FileStore.fault_count c.loop-done.store) after) inv.target c.in_err-fetch_group.ensures.counted))

pub returns-in_err-fetch_group-clause-calls : goal.returns-in_err-fetch_group-clause-calls
returns-in_err-fetch_group-clause-calls g c = called_on _ _ _ _ _ c.loop-done.invariant.calls c.fetch_group.ensures.calls

pub loop-done-init : goal.loop-done-init
loop-done-init g c = record {
  target = refl;
  put = c.requires.none;
  within = omega arith;
  folder = refl;
  sees = sees-itself _;
  held = search rules;
  counted = refl;
  temp = search rules;
  calls = not_called;
}
