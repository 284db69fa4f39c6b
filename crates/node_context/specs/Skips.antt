-- Why a name is left out, of which a listing or a scan of the name says so (own rule).
use Rattle.std.specs.Prelude.{◌≡◌, ◌⊎◌, Option, Some, None}
use Rattle.file_dir.specs.declared.skipped.SkipReason.{SkipReason}
use Rattle.file_dir.specs.declared.skipped.SkipReason.TheVariants.{TooLong}
use Rattle.node_context.specs.declared.event.SkipWhy.{SkipWhy}
use Rattle.node_context.specs.declared.event.SkipWhy.TheVariants.{Listing, Unfit}

-- a scan of a name says why it is left out, or that it isn't; but of what isn't fit a listing says more, and of a name that is too long it alone says so
abbrev pub why_after : SkipWhy → Option SkipWhy → Option SkipWhy
why_after (Listing reason) (Some Unfit) = Some (Listing reason)
why_after (Listing TooLong) None = Some (Listing TooLong)
why_after why found = found

-- where a reason was told, another one is no news that is the same, or says what it is that isn't fit
abbrev pub IsToldBy : SkipWhy → SkipWhy → Type 0
IsToldBy why told = (why ≡ told) ⊎ ((told ≡ Unfit) × (reason : SkipReason) × (why ≡ Listing reason))
