use Rattle.std.proofs.Common.{map, ap, ◌∙◌, arith}
use Rattle.std.specs.FinMap.{put}
use Rattle.folder_core.specs.Announced.{key, key_cmp}
use Rattle.folder_core.specs.Plain.{filed}
use Rattle.folder_core.proofs.PlainFinish.{finish-fits, finish-number, finish-plain, finish-step, finish-stray}
use Rattle.folder_core.proofs.plain.PlainFolderFolderCore.finish.Goals as goal

pub returns-in_default : goal.returns-in_default
returns-in_default c = rw (← c.self.view_is) (rw (← c.commit.view_is) (finish-stray c.self.inside.me c.self.inside.entries.items _ c.self.inside.last c.self.inside.pulls.items c.take_ready.new.pulls.items c.self.invariant c.commit.inside.info c.in_default.ensures.0 c.in_default.ensures.1))

pub with_sequence-requires : goal.with_sequence-requires
with_sequence-requires c = finish-number c.self.inside.me c.self.inside.entries.items _ c.self.inside.last c.self.inside.pulls.items c.take_ready.new.pulls.items c.self.invariant c.commit.inside.info c.in-Some.ready c.in-Some.ensures.0 c.in-Some.ensures.1

pub put-requires-clause-fits : goal.put-requires-clause-fits
put-requires-clause-fits c = let fits = finish-fits c.self.inside.me c.self.inside.entries.items _ c.self.inside.last c.self.inside.pulls.items c.take_ready.new.pulls.items c.self.invariant c.commit.inside.info c.in-Some.ready c.in-Some.ensures.0 c.in-Some.ensures.1 in omega arith

pub invariant_of-self-2 : goal.invariant_of-self-2
invariant_of-self-2 c =
    let placed = c.put.ensures.placed ∙ ap (λ r. put key_cmp (key r.name c.self.inside.me) r (map filed c.self.inside.entries.items)) c.with_sequence.ensures in
    finish-plain c.self.inside.me c.self.inside.entries.items _ c.self.inside.last c.self.inside.pulls.items c.take_ready.new.pulls.items c.self.invariant c.commit.inside.info c.in-Some.ready c.in-Some.ensures.0 c.in-Some.ensures.1 c.put.new.entries.items placed _ (let more = c.put.ensures.len in omega arith) c.put.ensures.capacity

pub returns : goal.returns
returns c =
    let placed = c.put.ensures.placed ∙ ap (λ r. put key_cmp (key r.name c.self.inside.me) r (map filed c.self.inside.entries.items)) c.with_sequence.ensures in
    rw (← c.self.view_is) (rw (← c.commit.view_is) (finish-step c.self.inside.me c.self.inside.entries.items _ c.self.inside.last c.self.inside.pulls.items c.take_ready.new.pulls.items c.self.invariant c.commit.inside.info c.in-Some.ready c.in-Some.ensures.0 c.in-Some.ensures.1 c.put.new.entries.items placed))
