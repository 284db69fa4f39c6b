use Rattle.file_store.specs.Sequences.{Since}
use Rattle.sync_scan.proofs.GoneLemmas.{gone-apart, gone-told, other-told}
use Rattle.sync_scan.proofs.laws.deletions_are_told.Goals as goal

pub returns-clause-missing : goal.returns-clause-missing
returns-clause-missing g c first n local told = gone-told (Since g.S.FileStore.gives first) n local told

pub returns-clause-other : goal.returns-clause-other
returns-clause-other g c first n local look leads = other-told (Since g.S.FileStore.gives first) n local look leads

pub returns-clause-unread : goal.returns-clause-unread
returns-clause-unread g c unread d n view has below found = gone-apart g.L.AnyLook.may unread d n view has below found
