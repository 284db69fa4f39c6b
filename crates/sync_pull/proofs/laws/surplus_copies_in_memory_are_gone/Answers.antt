use Rattle.std.proofs.Common.{inl, inr}
use Rattle.sync_pull.proofs.OldCopyLemmas.{gone-in-memory, kept-at}
use Rattle.sync_pull.proofs.laws.surplus_copies_in_memory_are_gone.Goals as goal

pub returns : goal.returns
returns c most n copy old new (inl h) = inl h
returns c most n copy old new (inr h) = inr (h.0, h.1, λ q has. gone-in-memory most n copy old new h.0 h.1 h.2 q has, λ q apart. kept-at _ _ old new h.2 q apart)
