-- What a reader counts (own rule).
use Rattle.std.specs.Prelude.{ℕ, ◌+◌, ◌-◌, ◌^◌, min}
use Rattle.peer_reader.specs.declared.counts.ReaderCounts.{ReaderCounts}

-- up to the greatest number of 64 bits
abbrev pub capped : ℕ → ℕ
capped n = min n (2 ^ 64 - 1)

abbrev pub no_counts : ReaderCounts
no_counts = record { changes = 0; skipped = 0; unshared = 0 }

abbrev pub one_change : ReaderCounts → ReaderCounts
one_change c = record c { changes = capped (c.changes + 1) }

abbrev pub with_skipped : ℕ → ReaderCounts → ReaderCounts
with_skipped n c = record c { skipped = capped (c.skipped + n) }

abbrev pub one_unshared : ReaderCounts → ReaderCounts
one_unshared c = record c { unshared = capped (c.unshared + 1) }
