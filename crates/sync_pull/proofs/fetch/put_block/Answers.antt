use Rattle.std.proofs.Common.{ap, sym, subst, take, ◌∙◌}
use Rattle.std.specs.Prelude.{IfSome, slice_get}
use Rattle.sync_record.specs.Assemblies.{Assembling}
use Rattle.sync_record.specs.Records.{FileRecord}
use Rattle.sync_pull.specs.Fetching.{IsPut}
use Rattle.sync_pull.specs.Sources.{HasNoBytes, not_asked}
use Rattle.sync_pull.proofs.SourceLemmas.{both-at, is-written, matched}
use Rattle.file_store.specs.Sequences.{called, not_called}
use Rattle.std.proofs.Common.{refl}
use Rattle.sync_pull.proofs.fetch.put_block.Goals as goal

pub returns-then-try_hashed-clause-asks : goal.returns-then-try_hashed-clause-asks
returns-then-try_hashed-clause-asks g c = not_asked

pub returns-then-try_hashed-clause-written : goal.returns-then-try_hashed-clause-written
returns-then-try_hashed-clause-written g c = λ keeps.
    is-written c.args.assembly.now.target.blocks c.blocks-2.result.now c.args.index _ c.args.fetch.now.name.now c.args.assembly.now c.try_hashed.new.assembly _ _ c.args.found.now.bytes.now
    (c.blocks-2.ensures ∙ ap (λ (r : FileRecord). r.blocks) c.target.ensures) c.requires.index c.if-try_hashed.ensures (c.in_ok-write_at.ensures.writes keeps).1

pub try_devices-requires-clause-asked : goal.try_devices-requires-clause-asked
try_devices-requires-clause-asked g c =
    let not = c.if-try_hashed.ensures in
    subst (λ (a : Assembling). IfSome (slice_get a.target.blocks c.args.index) (HasNoBytes g.B.BlockSource.gives c.args.fetch.now.me c.args.fetch.now.name.now (take c.args.found.now.asked c.args.fetch.now.devices.now) c.args.source.now)) (sym not.same)
    (both-at c.args.assembly.now.target.blocks c.args.index _ _ c.requires.index c.requires.found not.other)

pub returns-clause-written : goal.returns-clause-written
returns-clause-written g c = λ keeps.
    let own = c.args.assembly.now in
    let new = c.try_devices.new.assembly in
    let put = matched c.in_ok-try_devices.field-0 (IsPut c.args.index c.try_devices.new.bytes.items c.try_hashed.new.assembly new) _ c.if-not-branch.false c.in_ok-try_devices.ensures.put in
    is-written own.target.blocks c.blocks-2.result.now c.args.index _ c.args.fetch.now.name.now own new _ _ c.as_slice.result.now
    (c.blocks-2.ensures ∙ ap (λ (r : FileRecord). r.blocks) c.target.ensures) c.requires.index
    (subst (λ a. IsPut c.args.index c.as_slice.result.now a new) c.if-try_hashed.ensures.same (subst (λ l. IsPut c.args.index l c.try_hashed.new.assembly new) (sym c.as_slice.ensures.value) put))
    (c.in_ok-write_at-2.ensures.writes keeps).1

pub returns-in_err-write_at-clause-calls : goal.returns-in_err-write_at-clause-calls
returns-in_err-write_at-clause-calls g c = called _ _ _ _ not_called refl c.write_at.ensures.gives

pub returns-then-try_hashed-clause-calls : goal.returns-then-try_hashed-clause-calls
returns-then-try_hashed-clause-calls g c = called _ _ _ _ not_called refl c.write_at.ensures.gives

pub returns-in_err-write_at-2-clause-calls : goal.returns-in_err-write_at-2-clause-calls
returns-in_err-write_at-2-clause-calls g c = called _ _ _ _ not_called refl c.write_at-2.ensures.gives

pub returns-clause-calls : goal.returns-clause-calls
returns-clause-calls g c = called _ _ _ _ not_called refl c.write_at-2.ensures.gives
