-- Who may read, write and run a file (POSIX.1, the file permission bits of a mode).
use Rattle.std.specs.Prelude.{ℕ, ◌/◌, Option, Some, None, bit_and, bit_or}
use Rattle.file_dir.specs.declared.found.Found.{Found}
use Rattle.file_dir.specs.declared.found.Found.TheVariants.{Nothing, Directory, File, Link, Special}
use Rattle.file_dir.specs.declared.habits.Habits.{Habits}

-- what a file leaves to the one that replaces it: the permission bits, without those that let it run as another user
abbrev pub permissions_of : ℕ → ℕ
permissions_of mode = bit_and mode 0o777

-- a temporary file has the permissions of the file that it is to replace, and its owner may read and write it
abbrev pub temporary_permissions : ℕ → ℕ
temporary_permissions mode = bit_or (permissions_of mode) 0o600

-- a directory may be searched by whom it may be read by
abbrev pub directory_permissions : ℕ → ℕ
directory_permissions mode = bit_or (permissions_of mode) (bit_and mode 0o444 / 4)

-- what the folder's habits say of files
abbrev pub permissions_made : Option ℕ → Option ℕ
permissions_made None = None
permissions_made (Some mode) = Some (permissions_of mode)

-- what is put at a file's name has that file's permissions, and what is put elsewhere those that the folder's habits say, if any
abbrev pub permissions_at : Found → Habits → Option ℕ
permissions_at (File old) habits = Some (permissions_of old.mode)
permissions_at Nothing habits = permissions_made habits.mode
permissions_at (Directory id) habits = permissions_made habits.mode
permissions_at Link habits = permissions_made habits.mode
permissions_at Special habits = permissions_made habits.mode

-- those of a directory that is made, if the folder's habits say any
abbrev pub directory_made : Option ℕ → Option ℕ
directory_made None = None
directory_made (Some mode) = Some (directory_permissions mode)

abbrev pub directory_of : Habits → Option ℕ
directory_of habits = directory_made habits.mode
