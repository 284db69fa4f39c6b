-- What a folder is doing, by what was told of it last (own rule).
use Rattle.std.specs.Prelude.{ℕ, ◌+◌, ◌-◌, ◌/◌, ◌==◌, max, Bool, true, false, if◌then◌else◌, Option, Some, None}
use Rattle.node_context.specs.Tallies.{up_to}
use Rattle.node_context.specs.declared.doing.Doing.{Doing}
use Rattle.node_context.specs.declared.doing.Round.{Round}
use Rattle.node_context.specs.declared.doing.Standing.TheVariants as at
use Rattle.node_context.specs.declared.event.PullEvent.{PullEvent}
use Rattle.node_context.specs.declared.event.PullEvent.TheVariants as pull
use Rattle.node_context.specs.declared.event.ScanEvent.{ScanEvent}
use Rattle.node_context.specs.declared.event.ScanEvent.TheVariants as scan

-- nothing was told of it: it is there, and nothing goes on
abbrev pub idle : Doing
idle = record {
  standing = at.There;
  scan = None;
  scanned = None;
  looked = None;
  round = None;
  needed = 0;
  pulled = 0;
  came = 0;
  has_no_room = false;
}

-- what came in a round, by the seconds that it has taken, of which there is one at least
abbrev pub rate_in : ℕ → ℕ → Option Round → ℕ
rate_in now came None = 0
rate_in now came (Some round) = (came - round.came) / max (now - round.begun) 1

abbrev pub rate_of : ℕ → Doing → ℕ
rate_of now d = rate_in now d.came d.round

-- a scan of all names is over: if it came to its end, it did so at this second
abbrev pub scan_over : Bool → ℕ → Doing → Doing
scan_over true now d = record d { scan = None; scanned = Some now }
scan_over false now d = record d { scan = None }

-- what happened to its files says where it is, and how far a scan of all names is
abbrev pub after_scan : ScanEvent → ℕ → Doing → Doing
after_scan (scan.At at of bytes) now d = record d { scan = Some (record { at = at; of = of }) }
after_scan (scan.Over is_whole) now d = scan_over is_whole now d
after_scan scan.Looked now d = record d { looked = Some now }
after_scan (scan.Away path) now d = record d { standing = at.Away }
after_scan scan.InUse now d = record d { standing = at.InUse }
after_scan scan.Back now d = record d { standing = at.There }
after_scan (scan.Held path count) now d = record d { standing = at.Held }
after_scan (scan.Keeping path count) now d = d
after_scan (scan.Recorded name) now d = d
after_scan (scan.Scanned sum) now d = d
after_scan (scan.Ended sum) now d = d
after_scan (scan.Skipped name why) now d = d
after_scan (scan.Emptied count days) now d = d

-- a round that begins
abbrev pub round_at : ℕ → Doing → Round
round_at now d = record { begun = now; came = d.came }

-- a round of pulls is over, and so many names are needed: where none is, what was pulled is counted anew, and nothing lacks room
abbrev pub pull_over : ℕ → Doing → Doing
pull_over needed d =
    if needed == 0 then record d { round = None; needed = 0; pulled = 0; came = 0; has_no_room = false } else record d { round = None; needed = needed }

-- what happened to what other devices have says whether it is pulled, and how much was
abbrev pub after_pull : PullEvent → ℕ → Doing → Doing
after_pull (pull.Begun needed) now d = record d { round = Some (round_at now d); needed = needed }
after_pull (pull.Over needed) now d = pull_over needed d
after_pull (pull.Pulled name change) now d = record d { pulled = up_to (d.pulled + 1); has_no_room = false }
after_pull (pull.At needed) now d = record d { needed = needed }
after_pull (pull.Came bytes) now d = record d { came = up_to (d.came + bytes) }
after_pull pull.NoRoom now d = record d { has_no_room = true }
after_pull (pull.Received device sequence) now d = d
after_pull (pull.Kept name) now d = d
after_pull (pull.Failed name why said) now d = d
after_pull (pull.Refused name why) now d = d
after_pull (pull.Unsupported name) now d = d
after_pull pull.HistoryFull now d = d
