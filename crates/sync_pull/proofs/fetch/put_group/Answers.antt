use Rattle.file_store.proofs.SequenceLemmas.{called_on}
use Rattle.std.proofs.Common.{◌≡◌, ◌+◌, ◌-◌, ◌<◌, ap, arith, length, subst, sym, take, drop, get_or, ◌∙◌, [], List, ℕ}
use Rattle.std.specs.Prelude.{IfSome, slice_get}
use Rattle.std.proofs.lemmas.List.{get_or_read}
use Rattle.sync_blocks.specs.declared.block.Block.{Block}
use Rattle.sync_record.specs.Assemblies.{Assembling}
use Rattle.sync_record.specs.Records.{FileRecord}
use Rattle.sync_pull.specs.Faults.{StopCounts}
use Rattle.sync_pull.specs.Fetching.{AreFound, ArePut, HoldsBlocks, IsFound}
use Rattle.sync_pull.specs.Sources.{HasNoBytes, Lacks}
use Rattle.sync_pull.proofs.FailLemmas.{err-counts}
use Rattle.sync_pull.proofs.FetchLemmas.{held-next}
use Rattle.sync_pull.proofs.PuttingLemmas.{temps-then}
use Rattle.sync_pull.proofs.SourceLemmas.{found-as, found-here, found-on, lacks-at, of-place, put-next, stop-source}
use Rattle.sync_pull.proofs.fetch.put_group.Goals as goal

abbrev none : Block
none = record { offset = 0; size = 0; hash = [] }

pub slice_bounds-piece-end : goal.slice_bounds-piece-end
slice_bounds-piece-end g c =
    let inv = c.loop-i.invariant in
    let room = c.requires.within in
    let test = c.loop-i-test.true in
    let same = c.blocks-in-loop-i.ensures ∙ ap (λ (r : FileRecord). r.blocks) (c.target.ensures ∙ inv.target) in
    let here = found-here _ c.args.assembly.now.target.blocks c.blocks-in-loop-i.result.now c.args.hashed.now.group.now.bytes.items c.args.hashed.now.group.now.asked.items (c.args.start + c.loop-i.i) c.loop-i.i
    c.loop-i.offset none same (omega arith) (omega arith) inv.bytes inv.found in
    let fits = here.0 in
    omega arith

pub put_block-requires-clause-found : goal.put_block-requires-clause-found
put_block-requires-clause-found g c =
    let inv = c.loop-i.invariant in
    let room = c.requires.within in
    let test = c.loop-i-test.true in
    let same = c.blocks-in-loop-i.ensures ∙ ap (λ (r : FileRecord). r.blocks) (c.target.ensures ∙ inv.target) in
    let here = found-here _ c.args.assembly.now.target.blocks c.blocks-in-loop-i.result.now c.args.hashed.now.group.now.bytes.items c.args.hashed.now.group.now.asked.items (c.args.start + c.loop-i.i) c.loop-i.i
    c.loop-i.offset none same (omega arith) (omega arith) inv.bytes inv.found in
    let place = c.args.start + c.loop-i.i in
    let own = get_or c.blocks-in-loop-i.result.now place none in
    let piece = take ((c.loop-i.offset + own.size) - c.loop-i.offset) (drop c.loop-i.offset c.deref.result.now) in
    let bytes : piece ≡ take own.size (drop c.loop-i.offset c.args.hashed.now.group.now.bytes.items) =
    ap (λ k. take k (drop c.loop-i.offset c.deref.result.now)) (omega arith) ∙ ap (λ l. take own.size (drop c.loop-i.offset l)) c.deref.ensures.value in
    let asked : c.index.result.now ≡ get_or c.args.hashed.now.group.now.asked.items c.loop-i.i 0 = get_or_read c.args.hashed.now.group.now.asked.items c.loop-i.i c.index.result.now (omega arith) c.index.ensures 0 in
    let found : (b : Block) → List ℕ → ℕ → Type 0 = IsFound g.B.BlockSource.gives c.args.fetch.now.me c.args.fetch.now.name.now c.args.fetch.now.devices.now c.loop-i.source in
    subst (λ (a : FileRecord). IfSome (slice_get a.blocks place) (λ b. found b piece c.index.result.now)) (sym inv.target)
    (of-place (λ b. found b piece c.index.result.now) c.args.assembly.now.target.blocks c.blocks-in-loop-i.result.now place none same (omega arith)
    (subst (λ k. found own piece k) (sym asked) (subst (λ l. found own l (get_or c.args.hashed.now.group.now.asked.items c.loop-i.i 0)) (sym bytes) here.1)))

pub returns-in_err-put_block-clause-counted : goal.returns-in_err-put_block-clause-counted
returns-in_err-put_block-clause-counted g c =
    let inv = c.loop-i.invariant in
    let room = c.requires.within in
    let test = c.loop-i-test.true in
    let lacks = Lacks g.B.BlockSource.gives c.args.fetch.now.me c.args.fetch.now.name.now c.args.fetch.now.devices.now c.put_block.new.source c.args.assembly.now.target.blocks in
    let after = g.S.FileStore.fault_count c.put_block.new.store in
    err-counts lacks ⊥ c.from_residual.result c.in_err-put_block.field-0.0 _ after c.from_residual.ensures.1
    (subst (λ k. StopCounts lacks ⊥ c.in_err-put_block.field-0.0 k after) inv.counted
    (stop-source _ lacks ⊥
    (λ h. lacks-at g.B.BlockSource.gives c.args.fetch.now.me c.args.fetch.now.name.now c.args.fetch.now.devices.now c.put_block.new.source c.args.assembly.now.target.blocks (c.args.start + c.loop-i.i) (omega arith)
    (subst (λ (a : FileRecord). IfSome (slice_get a.blocks (c.args.start + c.loop-i.i)) (HasNoBytes g.B.BlockSource.gives c.args.fetch.now.me c.args.fetch.now.name.now c.args.fetch.now.devices.now c.put_block.new.source)) inv.target h))
    c.in_err-put_block.field-0.0 (g.S.FileStore.fault_count c.loop-i.store) after c.in_err-put_block.ensures.counted))

pub loop-i-preserved : goal.loop-i-preserved
loop-i-preserved g c =
    let inv = c.loop-i.invariant in
    let n = c.args.fetch.now.name.now in
    let r = c.args.assembly.now.target in
    let test = c.loop-i-test.true in
    let room = c.requires.within in
    let place = c.args.start + c.loop-i.i in
    let next : place + 1 ≡ c.args.start + (c.loop-i.i + 1) = omega arith in
    let same = c.blocks-in-loop-i.ensures ∙ ap (λ (r : FileRecord). r.blocks) (c.target.ensures ∙ inv.target) in
    let here = found-here (IsFound g.B.BlockSource.gives c.args.fetch.now.me n c.args.fetch.now.devices.now c.loop-i.source) r.blocks c.blocks-in-loop-i.result.now c.args.hashed.now.group.now.bytes.items c.args.hashed.now.group.now.asked.items place c.loop-i.i
    c.loop-i.offset none same (omega arith) (omega arith) inv.bytes inv.found in
    let within : place < length r.blocks = omega arith in
    record {
      target = ap (λ (a : Assembling). a.target) c.in_ok-put_block.ensures.put.1.placed ∙ inv.target;
      within = omega arith;
      bytes = here.0;
      found = subst (λ k. AreFound (IsFound g.B.BlockSource.gives c.args.fetch.now.me n c.args.fetch.now.devices.now c.put_block.new.source) (drop k r.blocks)
          (drop (c.loop-i.offset + (get_or c.blocks-in-loop-i.result.now place none).size) c.args.hashed.now.group.now.bytes.items) (drop (c.loop-i.i + 1) c.args.hashed.now.group.now.asked.items)) next
          (found-as _ _ (found-on g.B.BlockSource.gives n c.args.fetch.now.me c.args.fetch.now.devices.now c.loop-i.source c.put_block.new.source c.in_ok-put_block.ensures.asks) _ _ _ here.2);
      put = subst (λ k. ArePut k c.put_block.new.assembly) next
          (put-next c.loop-i.assembly c.put_block.new.assembly place inv.put (subst (λ (a : FileRecord). place < length a.blocks) (sym inv.target) within) c.in_ok-put_block.ensures.put.1.placed);
      held = λ keeps before.
          subst (λ k. HoldsBlocks (take k r.blocks) n (g.S.FileStore.tree c.put_block.new.store)) next
          (held-next c.tiling_is_tested.ensures.tested c.only_well_formed_files_have_blocks.ensures.whole c.bytes_written_are_read.ensures.appended r c.requires.valid
          place within n c.loop-i.assembly c.put_block.new.assembly _ _ inv.target (inv.held keeps before) (c.in_ok-put_block.ensures.written keeps));
      counted = c.in_ok-put_block.ensures.counted ∙ inv.counted;
      temp = λ keeps. temps-then n _ _ _ (inv.temp keeps) (c.put_block.ensures.temp keeps);
      calls = called_on _ _ _ _ _ inv.calls c.put_block.ensures.calls;
    }

pub returns-clause-held : goal.returns-clause-held
returns-clause-held g c = λ keeps before.
    let test = c.loop-i-test.false in
    let all : c.loop-i.i ≡ length c.args.hashed.now.group.now.asked.items = omega arith in
    subst (λ k. HoldsBlocks (take (c.args.start + k) c.args.assembly.now.target.blocks) c.args.fetch.now.name.now (g.S.FileStore.tree c.loop-i.store)) all
    (c.loop-i.invariant.held keeps before)

pub returns-in_err-put_block-clause-calls : goal.returns-in_err-put_block-clause-calls
returns-in_err-put_block-clause-calls g c = called_on _ _ _ _ _ c.loop-i.invariant.calls c.put_block.ensures.calls
