-- What a run does that lists nothing.
use Rattle.std.proofs.Common.{ℕ, List, [], Option, Some, None, Err, inl, IfSome}
use Rattle.std.proofs.KnownBytes.{Appends-nil}
use Rattle.std.proofs.Common.{refl}
use Rattle.bepd.specs.declared.ending.Ending.TheVariants.{Failed}
use Rattle.bepd.specs.declared.ending.Failure.TheVariants.{OutOfMemory}
use Rattle.bepd.specs.declared.run.Outcome.{Outcome}
use Rattle.bepd.specs.Counts.{Input, Output}
use Rattle.bepd.specs.Listing.{listing}
use Rattle.bepd.proofs.Counting.{reads_nothing}
use Rattle.bepd.specs.Runs.{Ends, Lists, Plays, TellsRun, streams}
use Rattle.bepd_pair.specs.declared.playing.PairFailure.TheVariants as pair
use Rattle.bepd_run.specs.declared.failure.RunFailure.TheVariants as node

each : {A : Type 0} (o : Option A) (P : A → Type 0) → ((x : A) → P x) → IfSome o P
each None P h = tt
each (Some x) P h = h x

-- memory ran out before anything was read
pub lists_nothing : (folder : List ℕ) (outcome : Outcome) (input : Input) (output : Output) (old new : Option (List ℕ)) → Ends (Failed OutOfMemory) outcome old new
    → Lists folder outcome (streams input output old) (streams input output new)
lists_nothing folder outcome input output old new ends = record {
  ending = Failed OutOfMemory;
  bytes = [];
  reads = reads_nothing input;
  failed_read = refl;
  failed_write = refl;
  answers = ([], listing folder [], refl, Appends-nil output.bytes);
  known = each input.left _ (λ _ listed. absurd listed);
  ends = ends;
}

-- and before any command was done
pub plays_nothing : (outcome : Outcome) (input : Input) (output : Output) (old new : Option (List ℕ)) → Ends (Failed OutOfMemory) outcome old new
    → Plays outcome (streams input output old) (streams input output new)
plays_nothing outcome input output old new ends = record {
  played = Err pair.OutOfMemory;
  plays = inl (refl, refl, refl);
  ends = ends;
}

-- and before any node began
pub tells_nothing : (outcome : Outcome) (input : Input) (output : Output) (old new : Option (List ℕ)) → Ends (Failed OutOfMemory) outcome old new
    → TellsRun outcome (streams input output old) (streams input output new)
tells_nothing outcome input output old new ends = (Err node.OutOfMemory, old, (ends.status, ends.line))
