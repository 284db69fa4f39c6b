use Rattle.std.proofs.Common.{rules}
use Rattle.file_store.proofs.mem.MemStoreFileStore.list.Goals as goal

pub returns-in_err-list-clause-gives : goal.returns-in_err-list-clause-gives
returns-in_err-list-clause-gives c = (search rules, λ h. c.in_err-list.ensures.failed)
