use Rattle.std.proofs.Common.{◌≡◌, ◌-◌, ◌<◌, arith, length, min, take}
use Rattle.std.proofs.lemmas.List.{length-take}
use Rattle.sync_pull.proofs.OldCopyLemmas.{none-taken, taken-below}
use Rattle.sync_pull.proofs.laws.the_greatest_copies_are_kept.Goals as goal

pub returns-clause-few : goal.returns-clause-few
returns-clause-few c = λ most copies some.
    let taken : length (take (length copies - (most - 1)) copies) ≡ min (length copies - (most - 1)) (length copies) = length-take (length copies - (most - 1)) copies in
    omega arith

pub returns-clause-no_fewer : goal.returns-clause-no_fewer
returns-clause-no_fewer c = λ most copies some removed.
    let taken : length (take (length copies - (most - 1)) copies) ≡ min (length copies - (most - 1)) (length copies) = length-take (length copies - (most - 1)) copies in
    let many : 0 < length (take (length copies - (most - 1)) copies) = none-taken (take (length copies - (most - 1)) copies) removed in
    omega arith

pub returns-clause-greatest : goal.returns-clause-greatest
returns-clause-greatest c = λ most copies removed kept up has within apart. taken-below (length copies - (most - 1)) copies removed kept up has within apart
