-- Which frames of a journal follow a state (own rule).
use Rattle.std.specs.Prelude.{ℕ, List, [], ◌∷◌, bytes_eq, Option, Some, None, if◌then◌else◌}
use Rattle.node_journal.specs.declared.frame.Frame.{Frame}
use Rattle.node_journal.specs.declared.reading.Journal.{Journal}

-- the value there is, or the other
abbrev pub or_else : Option (List Frame) → Option (List Frame) → Option (List Frame)
or_else None other = other
or_else (Some fs) other = Some fs

-- those behind the last frame with this mark
abbrev pub behind_mark : List ℕ → List Frame → Option (List Frame)
behind_mark digest [] = None
behind_mark digest (f ∷ fs) = or_else (behind_mark digest fs) (if bytes_eq f.mark digest then Some fs else None)

-- those that follow the state with this digest; none where the journal doesn't know the state
abbrev pub frames_behind : List ℕ → Journal → Option (List Frame)
frames_behind digest j =
    or_else (behind_mark digest j.kept.frames) (if bytes_eq j.header.state_digest digest then Some j.kept.frames else None)
