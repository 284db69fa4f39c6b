-- How `bepd new` ends badly (own rule).
use Rattle.std.specs.Prelude.{ℕ, List, ◌++◌, codes}
use Rattle.std.specs.declared.io.ErrorKind.{ErrorKind}
use Rattle.std.specs.declared.io.ErrorKind.TheVariants as io
use Rattle.bepd_new.specs.declared.failure.NewFailure.{NewFailure}
use Rattle.bepd_new.specs.declared.failure.NewFailure.TheVariants.{Exists, File, OutOfMemory, ReadOrWrite, Refused}

-- the exit status
abbrev pub new_failure_status : NewFailure → ℕ
new_failure_status (Refused about) = 1
new_failure_status OutOfMemory = 4
new_failure_status (Exists name) = 5
new_failure_status (File about) = 5
new_failure_status ReadOrWrite = 5

-- what is told on standard error, without its last line feed
abbrev pub new_failure_text : NewFailure → List ℕ
new_failure_text (Refused about) = codes "fault " ++ about
new_failure_text OutOfMemory = codes "fault 33 OutOfMemory"
new_failure_text (Exists name) = codes "fault " ++ (name ++ codes " is there already")
new_failure_text (File about) = codes "fault read or write\n" ++ about
new_failure_text ReadOrWrite = codes "fault read or write"

-- an error of a file or of the output
abbrev pub io_failure : ErrorKind → NewFailure
io_failure io.OutOfMemory = OutOfMemory
io_failure _ = ReadOrWrite
