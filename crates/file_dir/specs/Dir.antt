-- What contracts see of a store in a folder of a disk (own rule).
use Rattle.std.specs.Prelude.{ℕ}
use Rattle.file_dir.specs.declared.store.DirStore.{DirStore}

-- how many faults it has returned
abbrev pub dir_faults : {R F D : Type 0} → DirStore R F D → ℕ
dir_faults s = s.faults
