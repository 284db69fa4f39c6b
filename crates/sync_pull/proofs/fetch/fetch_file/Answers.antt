use Rattle.std.proofs.Common.{◌≡◌, ap, length, subst, sym, true, ◌∙◌}
use Rattle.file_store.specs.Calls.{HasBadParent}
use Rattle.folder_calls.specs.Shared.{CallerView}
use Rattle.sync_record.specs.Assemblies.{Assembling}
use Rattle.sync_record.specs.Records.{FileRecord, is_live_file}
use Rattle.sync_record.specs.Validity.{is_valid}
use Rattle.sync_pull.specs.Faults.{StopCounts}
use Rattle.sync_pull.specs.Fetching.{ArePut}
use Rattle.sync_pull.specs.Sources.{HasNoSource, Lacks, best_devices}
use Rattle.sync_pull.proofs.FailLemmas.{err-counts}
use Rattle.sync_pull.proofs.SourceLemmas.{devices-read, none-put, put-all, stop-wider}
use Rattle.sync_pull.proofs.TargetLemmas.{not-ok, second}
use Rattle.sync_pull.proofs.PuttingLemmas.{makes_temp-writes, temp-together, temps-write}
use Rattle.file_store.proofs.SequenceLemmas.{called_on}
use Rattle.file_store.specs.Sequences.{called, not_called}
use Rattle.std.proofs.Common.{refl}
use Rattle.folder_core.specs.States.{FolderState}
use Rattle.folder_calls.specs.Histories.{state_after}
use Rattle.sync_pull.proofs.SourceLemmas.{devices_in}
use Rattle.sync_pull.proofs.fetch.fetch_file.Goals as goal

pub returns-in_err-make_temp-clause-temp : goal.returns-in_err-make_temp-clause-temp
returns-in_err-make_temp-clause-temp g c = λ keeps. makes_temp-writes _ _ _ c.args.name.now c.make_temp.result (c.make_temp.ensures.makes keeps)

pub returns-in_err-assembly-clause-temp : goal.returns-in_err-assembly-clause-temp
returns-in_err-assembly-clause-temp g c = λ keeps. makes_temp-writes _ _ _ c.args.name.now c.make_temp.result (c.make_temp.ensures.makes keeps)

pub returns-in_err-best-clause-temp : goal.returns-in_err-best-clause-temp
returns-in_err-best-clause-temp g c = λ keeps. makes_temp-writes _ _ _ c.args.name.now c.make_temp.result (c.make_temp.ensures.makes keeps)

pub returns-in_err-fetch_blocks-clause-temp : goal.returns-in_err-fetch_blocks-clause-temp
returns-in_err-fetch_blocks-clause-temp g c = λ keeps.
    temp-together c.args.name.now _ _ _ (makes_temp-writes _ _ _ c.args.name.now c.make_temp.result (c.make_temp.ensures.makes keeps))
    (temps-write c.args.name.now _ _ (c.fetch_blocks.ensures.temp keeps))

pub returns-in-Ok-clause-temp : goal.returns-in-Ok-clause-temp
returns-in-Ok-clause-temp g c = λ keeps.
    temp-together c.args.name.now _ _ _ (makes_temp-writes _ _ _ c.args.name.now c.make_temp.result (c.make_temp.ensures.makes keeps))
    (temps-write c.args.name.now _ _ (c.fetch_blocks.ensures.temp keeps))

pub returns-clause-temp : goal.returns-clause-temp
returns-clause-temp g c = λ keeps.
    temp-together c.args.name.now _ _ _ (makes_temp-writes _ _ _ c.args.name.now c.make_temp.result (c.make_temp.ensures.makes keeps))
    (temps-write c.args.name.now _ _ (c.fetch_blocks.ensures.temp keeps))

pub returns-in_err-with_capacity-clause-temp : goal.returns-in_err-with_capacity-clause-temp
returns-in_err-with_capacity-clause-temp g c = λ keeps. makes_temp-writes _ _ _ c.args.name.now c.make_temp.result (c.make_temp.ensures.makes keeps)

pub fetch_blocks-requires-clause-none : goal.fetch_blocks-requires-clause-none
fetch_blocks-requires-clause-none g c = λ _ _. subst (ArePut 0) (sym c.in_ok-assembly.ensures.value) (none-put c.args.target)

pub returns-in_err-fetch_blocks-clause-counted : goal.returns-in_err-fetch_blocks-clause-counted
returns-in_err-fetch_blocks-clause-counted g c =
    let n = c.args.name.now in
    let old = g.W.FolderCalls.view c.args.calls.now in
    let point = g.W.FolderCalls.view c.best.new.self in
    let last = g.W.FolderCalls.view c.fetch_blocks.new.calls in
    let source = c.fetch_blocks.new.source in
    let gives = g.B.BlockSource.gives in
    let reads = c.in_ok-best.ensures.reads in
    let me : c.me-me.result ≡ old.opening.me = c.me-me.ensures.me ∙ ap (λ (v : CallerView). v.opening.me) reads.sees.same in
    let devices : c.devices_of-devices.result.now ≡ best_devices point n = c.devices_of-devices.ensures ∙ devices-read _ _ reads.answer_is
    ∙ ap (λ (s : FolderState). devices_in s n) (ap (λ (v : CallerView). state_after v.opening point.seen) (sym reads.sees.same)) in
    let before = g.S.FileStore.fault_count c.args.store.now in
    let after = g.S.FileStore.fault_count c.fetch_blocks.new.store in
    let stop = c.in_err-fetch_blocks.field-0.0 in
    let wanted = HasNoSource gives n source last c.args.target old in
    let parent = g.S.FileStore.keeps ≡ true → HasBadParent (g.S.FileStore.tree c.args.store.now) n in
    err-counts wanted parent c.from_residual-in_err-fetch_blocks.result stop before after c.from_residual-in_err-fetch_blocks.ensures.1
    (subst (λ k. StopCounts wanted parent stop k after) c.in_ok-make_temp.ensures.counted
    (stop-wider (Lacks gives c.me-me.result n c.devices_of-devices.result.now source c.in_ok-assembly.assembly.target.blocks) wanted ⊥ parent
    (λ lacks. record {
      live = second (is_valid c.args.target) (is_live_file c.args.target) c.requires.valid;
      point = point;
      since = reads.sees;
      until = c.fetch_blocks.ensures.sees.longer;
      lacks = subst (λ (a : Assembling). Lacks gives old.opening.me n (best_devices point n) source a.target.blocks) c.in_ok-assembly.ensures.value
          (subst (λ d. Lacks gives d n (best_devices point n) source c.in_ok-assembly.assembly.target.blocks) me
          (subst (λ ds. Lacks gives c.me-me.result n ds source c.in_ok-assembly.assembly.target.blocks) devices lacks));
    })
    (λ no. absurd no) stop (g.S.FileStore.fault_count c.make_temp.new.self) after c.in_err-fetch_blocks.ensures.counted))

-- every block was put, so the assembly is done
pub returns-clause-counted : goal.returns-clause-counted
returns-clause-counted g c =
    let target = c.in_ok-fetch_blocks.ensures.target in
    absurd (not-ok c.done.result _ c.in-Err.is (c.done.ensures.exactly.1
    (put-all c.fetch_blocks.new.draft.assembly (subst (λ (r : FileRecord). ArePut (length r.blocks) c.fetch_blocks.new.draft.assembly) (sym target) c.in_ok-fetch_blocks.ensures.put))))

pub returns-in_err-make_temp-clause-calls : goal.returns-in_err-make_temp-clause-calls
returns-in_err-make_temp-clause-calls g c = called _ _ _ _ not_called refl c.make_temp.ensures.gives

pub returns-in_err-assembly-clause-calls : goal.returns-in_err-assembly-clause-calls
returns-in_err-assembly-clause-calls g c = called _ _ _ _ not_called refl c.make_temp.ensures.gives

pub returns-in_err-best-clause-calls : goal.returns-in_err-best-clause-calls
returns-in_err-best-clause-calls g c = called _ _ _ _ not_called refl c.make_temp.ensures.gives

pub returns-in_err-with_capacity-clause-calls : goal.returns-in_err-with_capacity-clause-calls
returns-in_err-with_capacity-clause-calls g c = called _ _ _ _ not_called refl c.make_temp.ensures.gives

pub returns-in_err-fetch_blocks-clause-calls : goal.returns-in_err-fetch_blocks-clause-calls
returns-in_err-fetch_blocks-clause-calls g c = called_on _ _ _ _ _ (called _ _ _ _ not_called refl c.make_temp.ensures.gives) c.fetch_blocks.ensures.calls

pub returns-in-Ok-clause-calls : goal.returns-in-Ok-clause-calls
returns-in-Ok-clause-calls g c = called_on _ _ _ _ _ (called _ _ _ _ not_called refl c.make_temp.ensures.gives) c.fetch_blocks.ensures.calls

pub returns-clause-calls : goal.returns-clause-calls
returns-clause-calls g c = called_on _ _ _ _ _ (called _ _ _ _ not_called refl c.make_temp.ensures.gives) c.fetch_blocks.ensures.calls
