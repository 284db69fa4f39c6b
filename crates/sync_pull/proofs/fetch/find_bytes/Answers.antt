use Rattle.std.proofs.Common.{inr}
use Rattle.sync_pull.specs.Sources.{nobody, not_asked}
use Rattle.sync_pull.proofs.fetch.find_bytes.Goals as goal

pub returns-then-block-eq0-clause-asks : goal.returns-then-block-eq0-clause-asks
returns-then-block-eq0-clause-asks g c = not_asked

pub returns-then-branch-clause-asks : goal.returns-then-branch-clause-asks
returns-then-branch-clause-asks g c = not_asked

pub returns-then-branch-clause-finds : goal.returns-then-branch-clause-finds
returns-then-branch-clause-finds g c = (c.in_ok-read_place.ensures.whole c.if-branch.true, λ wrong. inr (nobody c.args.source.now))
