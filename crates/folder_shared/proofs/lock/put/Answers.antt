use Rattle.folder_shared.proofs.lock.put.Goals as goal

pub send_as-requires-clause-rule : goal.send_as-requires-clause-rule
send_as-requires-clause-rule g c = let h = c.loop.invariant in rw (h.1, h.2, h.3) c.requires.rule
