-- What `bepd best` prints for a stream (own rule).
use Rattle.std.specs.Prelude.{ℕ, ◌≤◌, false, List, ◌++◌, length, flat_map, Option}
use Rattle.std.specs.FinMap.{entries}
use Rattle.bep_frames.specs.declared.frame.Frame.{Frame}
use Rattle.bep_frames.specs.Stream.{stream}
use Rattle.folder_core.specs.Announced.{bests}
use Rattle.folder_core.specs.States.{FolderState}
use Rattle.std.specs.Io.KnownBytes.{Appends}
use Rattle.bepd.specs.declared.ending.Ending.{Ending}
use Rattle.bepd.specs.declared.ending.Ending.TheVariants.{Failed}
use Rattle.bepd.specs.Endings.{IsEndOf, StopsAtFault, WritesFront, max_input_bytes}
use Rattle.bepd.specs.Received.{folder_after, skipped_count}
use Rattle.bepd.specs.Lines.{best_line, skipped_line}

-- a line for each name that has a best, in byte order
abbrev pub best_lines : FolderState → List ℕ
best_lines s = flat_map (λ best. best_line best.1) (bests (entries s.announced))

abbrev pub listing_of : List ℕ → List Frame → List ℕ
listing_of folder frames = best_lines (folder_after folder frames) ++ skipped_line (skipped_count folder frames)

-- the listing of a folder after the frames of a stream without Hello, up to its end or its first fault
abbrev pub listing : List ℕ → List ℕ → List ℕ
listing folder bytes = listing_of folder (stream false bytes).frames

-- what is written of the bytes that were read: their listing, where they end so; after a failure at most a front of it
abbrev pub Answers : List ℕ → List ℕ → Ending → Option (List ℕ) → Option (List ℕ) → Type 0
Answers folder bytes (Failed failure) old new = WritesFront failure (listing folder bytes) old new
Answers folder bytes ending old new = (length bytes ≤ max_input_bytes) × IsEndOf (stream false bytes).end ending × StopsAtFault bytes ending × Appends old new (listing folder bytes)
