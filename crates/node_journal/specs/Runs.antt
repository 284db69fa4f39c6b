-- What is read where frames were read already.
use Rattle.std.specs.Prelude.{◌==◌, List, [], ◌∷◌, ◌++◌, length, take, if◌then◌else◌}
use Rattle.node_journal.specs.declared.frame.Frame.{Frame}
use Rattle.node_journal.specs.declared.kept.KeptFrames.{KeptFrames}
use Rattle.node_journal.specs.declared.run.Run.{Run}
use Rattle.node_journal.specs.Reading.{torn}

-- these frames, and then what is read from there on
abbrev pub joined_to : Run → KeptFrames → List Frame → KeptFrames
joined_to run k [] = record {
  frames = take run.count run.frames.items;
  len = run.len;
  end = if run.count == length run.frames.items then k.end else torn k.end;
}
joined_to run k (g ∷ gs) = record { frames = run.frames.items ++ g ∷ gs; len = k.len; end = k.end }

abbrev pub joined : Run → KeptFrames → KeptFrames
joined run k = joined_to run k k.frames
