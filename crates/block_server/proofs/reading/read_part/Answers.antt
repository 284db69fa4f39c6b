use Rattle.std.proofs.Common.{◌≡◌, ◌≢◌, ℕ, List, ◌++◌, take, drop, take_at, ◌≤◌, ◌<◌, ◌-◌, ◌∙◌, rules, sym, ap, subst, length, Err}
use Rattle.std.specs.Prelude.{MatchOption}
use Rattle.file_store.specs.FullReads.{FillsAll}
use Rattle.file_store.specs.declared.refusal.StoreRefusal.TheVariants.{StoreFault}
use Rattle.block_server.specs.PartsGiven.{size_said, failed, not_there, not_said}
use Rattle.block_server.proofs.GivenParts.{part-given}
use Rattle.block_server.proofs.reading.read_part.Goals as goal

pub returns-in-Ok-false-clause-given : goal.returns-in-Ok-false-clause-given
returns-in-Ok-false-clause-given g c =
    let said = c.in-Ok-false.ensures.said in
    let less : size_said said.0 - c.args.part.now.offset < c.args.part.now.size = search rules in
    not_there said.0 _ said.1 less

pub returns-in-Err-clause-given : goal.returns-in-Err-clause-given
returns-in-Err-clause-given g c =
    let fault : c.in-Err.field-0 ≡ StoreFault = search rules in
    not_said _ (rw fault at c.in-Err.ensures.said)

pub returns-in-Ok-clause-given : goal.returns-in-Ok-clause-given
returns-in-Ok-clause-given g c =
    let said = c.in-Ok-true.ensures.said in
    let there : c.args.part.now.size ≤ size_said said.0 - c.args.part.now.offset = search rules in
    let items = c.in_ok-bytes.bytes.items in
    let buffer = c.read_full.new.buffer in
    let zeros = c.deref_mut.ensures.value ∙ c.in_ok-bytes.ensures.items_if_clones_equal (λ y h. h) in
    let kept : length buffer ≡ length items = c.read_full.auto.buffer ∙ ap length c.deref_mut.ensures.value in
    let long : c.in_ok-bytes.bytes.len ≡ length items = search rules in
    let back : take c.in_ok-bytes.bytes.len (buffer ++ drop (length buffer) items) ≡ buffer = take_at buffer (drop (length buffer) items) c.in_ok-bytes.bytes.len (kept ∙ sym long) in
    let size_is : length items ≡ c.args.part.now.size = search rules in
    part-given g.S.FileStore.gives c.args.part.now.name c.args.part.now.offset c.args.part.now.size c.args.store.now c.has_part.new.store c.read_full.new.store
    c.all_read.result said.0 c.deref_mut.result.now buffer c.in-Ok.count said.1 there zeros c.in-Ok.ensures.given (kept ∙ size_is) c.in-Ok.ensures.bound
    (subst (λ (b : List ℕ). MatchOption c.all_read.result (c.in-Ok.count ≢ length b) (λ read. (c.in-Ok.count ≡ length b) × (read ≡ b))) back c.all_read.ensures)

pub returns-clause-given : goal.returns-clause-given
returns-clause-given g c =
    let said = c.in-Ok-true.ensures.said in
    let there : c.args.part.now.size ≤ size_said said.0 - c.args.part.now.offset = search rules in
    let fault : c.in-Err-read_full.field-0 ≡ StoreFault = search rules in
    failed said.0 c.has_part.new.store _ c.read_full.new.buffer said.1 there
    (subst (λ b. FillsAll g.S.FileStore.gives c.args.part.now.name c.args.part.now.offset c.has_part.new.store b (Err StoreFault) c.read_full.new.store c.read_full.new.buffer)
    (c.deref_mut.ensures.value ∙ c.in_ok-bytes.ensures.items_if_clones_equal (λ y h. h)) (rw fault at c.in-Err-read_full.ensures.given))
