-- How `bepd pair` ends (own rule).
use Rattle.std.specs.Prelude.{Result, Ok, Err}
use Rattle.bepd_pair.specs.declared.playing.PairFailure.{PairFailure}
use Rattle.bepd_pair.specs.declared.playing.PairFailure.TheVariants as pair
use Rattle.bepd.specs.declared.ending.Ending.{Ending}
use Rattle.bepd.specs.declared.ending.Ending.TheVariants.{Done, Failed}
use Rattle.bepd.specs.declared.ending.Failure.TheVariants.{OutOfMemory, Read, Write}

-- the ending of a program whose peers ended so
abbrev pub played_ending : Result (Unit {0}) PairFailure → Ending
played_ending (Ok done) = Done
played_ending (Err pair.OutOfMemory) = Failed OutOfMemory
played_ending (Err pair.Read) = Failed Read
played_ending (Err pair.Write) = Failed Write
