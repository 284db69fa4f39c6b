-- A history that goes on, and a scan of a name of several.
use Rattle.std.proofs.Common.{◌≡◌, ℕ, [], ◌∷◌, ◌++◌, Bool, true, false, Option, refl, sym, ap, subst, ◌∙◌, append-nil}
use Rattle.std.specs.Prelude.{IfErr, IfOk, MatchBool, Result, Ok, Err, option_map}
use Rattle.sync_version.specs.Versions.{Vector}
use Rattle.sync_record.specs.Records.{FileRecord, Name}
use Rattle.folder_core.specs.Steps.{is_accepted}
use Rattle.folder_core.specs.declared.answer.Answer.{Answer}
use Rattle.folder_core.specs.declared.change.Change.{Change}
use Rattle.folder_core.specs.declared.change.Change.TheVariants.{ScanFound, ScanGone}
use Rattle.folder_calls.specs.Calls.{scan_value}
use Rattle.folder_calls.specs.Shared.{CallerView, Gets, Makes, Declines, Sees, own_entry, seeing}
use Rattle.file_store.specs.declared.refusal.StoreRefusal.{StoreRefusal}
use Rattle.file_store.specs.declared.refusal.StoreRefusal.TheVariants.{OutOfMemory}
use Rattle.sync_scan.specs.AllNames.{ScansOne}
use Rattle.sync_scan.specs.Scans.{AsksFor, GoesOn, Scans, ScansSince}
use Rattle.sync_scan.specs.declared.scanned.Look.{Look}
use Rattle.sync_scan.specs.declared.scanned.Look.TheVariants as look
use Rattle.sync_scan.specs.declared.scanned.Scanned.{Scanned}
use Rattle.sync_scan.specs.declared.scanned.Scanned.TheVariants as scanned
use Rattle.sync_scan.specs.Ahead.{Knows}
use Rattle.sync_scan.specs.Told.{Fails, Giving, no_memory}
use Rattle.sync_scan.proofs.ScanLemmas.{prefix-on, sees-itself}

pub goes-itself : (v : CallerView) → GoesOn v v
goes-itself v = record { longer = ([], append-nil v.seen); same = refl }

pub sees-goes : (a b : CallerView) → Sees a b → GoesOn a b
sees-goes a b sees = record { longer = sees.longer; same = sees.same }

pub goes-then : (a b c : CallerView) → GoesOn a b → GoesOn b c → GoesOn a c
goes-then a b c first second = record {
  longer = prefix-on a.seen b.seen c.seen first.longer second.longer;
  same = second.same ∙ ap (λ (v : CallerView). seeing v c.seen) first.same;
}

makes-goes : (a c : CallerView) (change : Change) (answer : Answer) → Makes a c change answer → GoesOn a c
makes-goes a c change answer makes =
    let point = makes.point in
    let entry = own_entry a change answer ∷ [] in
    let seen : c.seen ≡ point.seen ++ entry = ap (λ (v : CallerView). v.seen) makes.appended in
    goes-then a point c (sees-goes a point makes.sees) (record {
      longer = (entry, sym seen);
      same = makes.appended ∙ ap (seeing point) (sym seen);
    })

pub gets-goes : (a c : CallerView) (change : Change) (answer : Answer) → Gets a change answer c → GoesOn a c
gets-goes a c change answer gets = by (is_accepted answer) gets.answered
  where
    by : (b : Bool) → MatchBool b (Makes a c change answer) (Declines a c change answer) → GoesOn a c
    by true makes = makes-goes a c change answer makes
    by false declines = sees-goes a c declines.sees

asked-goes : (a c : CallerView) (n : Name) (v : Option Vector) (moment : ℕ) (l : Look) (r : Scanned) → AsksFor a n v moment l r c → GoesOn a c
asked-goes a c n v moment (look.Found f) (scanned.Answered x) gets = gets-goes a c (ScanFound n v f moment) (scan_value x) gets
asked-goes a c n v moment look.Gone (scanned.Answered x) gets = gets-goes a c (ScanGone n v moment) (scan_value x) gets
asked-goes a c n v moment look.Skipped scanned.Skipped same = subst (GoesOn a) (sym same) (goes-itself a)
asked-goes a c n v moment look.Changing scanned.Changing same = subst (GoesOn a) (sym same) (goes-itself a)
asked-goes a c n v moment (look.Found f) scanned.Skipped never = absurd never
asked-goes a c n v moment (look.Found f) scanned.Changing never = absurd never
asked-goes a c n v moment look.Gone scanned.Skipped never = absurd never
asked-goes a c n v moment look.Gone scanned.Changing never = absurd never
asked-goes a c n v moment look.Skipped (scanned.Answered x) never = absurd never
asked-goes a c n v moment look.Skipped scanned.Changing never = absurd never
asked-goes a c n v moment look.Changing (scanned.Answered x) never = absurd never
asked-goes a c n v moment look.Changing scanned.Skipped never = absurd never

-- the scan of one name goes on
pub one-goes : (first old new : CallerView) (n : Name) (moment : ℕ) (may : CallerView → Look → Type 0) (fails : StoreRefusal → Type 0) (r : Result Scanned StoreRefusal)
    → ScansOne first old n moment may fails r new → GoesOn old new
one-goes first old new n moment may fails (Ok s) scans =
    goes-then old scans.point new (sees-goes old scans.point scans.sees) (asked-goes scans.point new n _ moment scans.found s scans.asks)
one-goes first old new n moment may fails (Err e) scans = sees-goes old new scans.0

-- the scan of a name alone is one of several
pub alone : (first old new : CallerView) (n : Name) (moment : ℕ) (may : CallerView → Look → Type 0) (s : Scanned)
    → GoesOn first old → Scans old n moment may s new → ScansSince first old n moment may s new
alone first old new n moment may s goes scans = record {
  read = scans.read;
  since = goes-then first old scans.read goes (sees-goes old scans.read scans.sees);
  found = scans.found;
  may_be = scans.may_be;
  point = scans.read;
  until = goes-itself scans.read;
  sees = scans.sees;
  asks = scans.asks;
}

-- so is what it came to
pub one-alone : (first old new : CallerView) (n : Name) (moment : ℕ) (may : CallerView → Look → Type 0) (fails : StoreRefusal → Type 0) (r : Result Scanned StoreRefusal)
    → GoesOn first old → IfOk r (λ s. Scans old n moment may s new) → IfErr r (λ _. Sees old new) → IfErr r fails → ScansOne first old n moment may fails r new
one-alone first old new n moment may fails (Ok s) goes scans sees failed = alone first old new n moment may s goes scans
one-alone first old new n moment may fails (Err e) goes scans sees failed = (sees, failed)

-- out of memory
pub one-memory : {S : Type 0} (gives : Giving S) (first old new : CallerView) (n : Name) (moment : ℕ) (may : CallerView → Look → Type 0) (r : Result Scanned StoreRefusal)
    → r ≡ Err OutOfMemory → new ≡ old → ScansOne first old n moment may (Fails gives n) r new
one-memory gives first old new n moment may r is same =
    subst (λ x. ScansOne first old n moment may (Fails gives n) x new) (sym is) (subst (Sees old) (sym same) (sees-itself old), no_memory)

-- the change of a name that was seen ahead of it
pub since-asked : (first old new : CallerView) (n : Name) (moment : ℕ) (may : CallerView → Look → Type 0) (known : Option FileRecord) (found asked : Look) (version : Option Vector) (result : Scanned)
    → Knows first old n may known found → asked ≡ found → version ≡ option_map (λ x. x.version) known → AsksFor old n version moment asked result new → ScansSince first old n moment may result new
since-asked first old new n moment may known found asked version result knows is over asks = record {
  read = knows.read;
  since = knows.since;
  found = found;
  may_be = knows.may_be;
  point = old;
  until = knows.until;
  sees = sees-itself old;
  asks = subst (λ v. AsksFor old n v moment found result new) (over ∙ ap (option_map (λ x. x.version)) knows.is) (subst (λ l. AsksFor old n version moment l result new) is asks);
}
