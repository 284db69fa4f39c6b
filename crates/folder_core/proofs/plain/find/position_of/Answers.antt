use Rattle.std.proofs.Common.{◌≡◌, sym, subst, ◌∙◌}
use Rattle.std.specs.Prelude.{Contains}
use Rattle.folder_core.specs.PlainReads.{place, places_from}
use Rattle.folder_core.proofs.PlainPlaces.{none_more, place_here}
use Rattle.folder_core.proofs.ListTests.{contains_in, in_contains, In}
use Rattle.folder_core.proofs.plain.find.position_of.Goals as goal

pub returns-in_err-name-clause-none : goal.returns-in_err-name-clause-none
returns-in_err-name-clause-none c = λ none.
    let es = c.args.entries.now in
    let e = c.entry-item.result in
    let there = place_here c.args.device c.args.hash.now es e c.in-Some.block.now (contains_in es e (c.loop-entry.entry-index, c.loop-entry-test.true, sym c.entry-item.is)) c.in-Some.ensures in
    absurd (subst (In (place e.record c.in-Some.block.now)) none there)

pub returns-in-Some-clause-found : goal.returns-in-Some-clause-found
returns-in-Some-clause-found c =
    let es = c.args.entries.now in
    let e = c.entry-item.result in
    let b = c.in-Some.block.now in
    let there = place_here c.args.device c.args.hash.now es e b (contains_in es e (c.loop-entry.entry-index, c.loop-entry-test.true, sym c.entry-item.is)) c.in-Some.ensures in
    let named : place e.record b ≡ record { name = c.in_ok-name.name; offset = b.offset; size = b.size } =
    (λ i. record { name = sym (c.in_ok-name.ensures ∙ c.name.ensures) i; offset = b.offset; size = b.size }) in
    subst (Contains (places_from c.args.device c.args.hash.now es)) named (in_contains _ _ there)

pub loop-entry-preserved : goal.loop-entry-preserved
loop-entry-preserved c = none_more c.args.device c.args.hash.now c.args.entries.now c.loop-entry.entry-index c.entry-item.result c.loop-entry-test.true c.entry-item.is c.loop-entry.invariant c.in_default.ensures
