use Rattle.std.proofs.Common.{rules, ◌≡◌, true, false}
use Rattle.file_store.specs.Maps.{found_at}
use Rattle.file_store.specs.Trees.{is_file}
use Rattle.file_store.proofs.BetweenLemmas.{IsLast, looking_finds, looking_goes_on}
use Rattle.file_store.proofs.missing.has_bad_parent.Goals as goal

pub returns-in-Some-File-clause-bad : goal.returns-in-Some-File-clause-bad
returns-in-Some-File-clause-bad c =
    let p = c.in-Some.parent.now in
    let last : IsLast p c.loop-parent.rest.now = c.in-Some.ensures.parents in
    let there : is_file (found_at c.args.names.now p) ≡ true = search rules in
    λ t. (p, looking_finds (found_at c.args.names.now) c.args.name.now c.loop-parent.rest.now c.loop-parent.invariant.1 p last, there)

pub loop-parent-preserved : goal.loop-parent-preserved
loop-parent-preserved c =
    let p = c.in-Some.parent.now in
    let last : IsLast p c.loop-parent.rest.now = c.in-Some.ensures.parents in
    let none : is_file (found_at c.args.names.now p) ≡ false = search rules in
    (search rules, looking_goes_on (found_at c.args.names.now) c.args.name.now c.loop-parent.rest.now c.loop-parent.invariant.1 p last none)
