-- The scan of a name, put together from its read, its look and its change.
use Rattle.std.proofs.Common.{◌≡◌, ℕ, List, [], ◌++◌, Option, Some, refl, sym, ap, subst, ◌∙◌, append-nil, append_assoc}
use Rattle.std.specs.Prelude.{option_map}
use mathlib.Core.List.{IsPrefix}
use Rattle.sync_version.specs.Versions.{Vector}
use Rattle.sync_record.specs.Records.{FileRecord, Name}
use Rattle.folder_core.specs.Reads.{Local}
use Rattle.folder_core.specs.States.{local}
use Rattle.folder_core.specs.declared.answer.Answer.{Answer}
use Rattle.folder_core.specs.declared.change.Change.{Change}
use Rattle.folder_calls.specs.declared.at.At.{At}
use Rattle.folder_calls.specs.declared.entry.Entry.{Entry}
use Rattle.folder_calls.specs.Histories.{own_entries, state_after}
use Rattle.folder_calls.specs.Shared.{CallerView, ChangesAt, Gets, ReadsAt, Sees, now, seeing}
use Rattle.sync_scan.specs.Scans.{AsksFor, Scans}
use Rattle.sync_scan.specs.declared.scanned.Look.{Look}
use Rattle.sync_scan.specs.declared.scanned.Scanned.{Scanned}

pub sees-itself : (v : CallerView) → Sees v v
sees-itself v = record { longer = ([], append-nil v.seen); own = refl; same = refl }

pub prefix-on : (xs ys zs : List Entry) → IsPrefix xs ys → IsPrefix ys zs → IsPrefix xs zs
prefix-on xs ys zs first second = (first.0 ++ second.0, sym (append_assoc xs first.0 second.0) ∙ ap (λ l. l ++ second.0) first.1 ∙ second.1)

pub sees-on : (a b c : CallerView) → Sees a b → Sees b c → Sees a c
sees-on a b c first second = record {
  longer = prefix-on a.seen b.seen c.seen first.longer second.longer;
  own = subst (λ p. own_entries p c.seen ≡ own_entries p b.seen) (ap (λ (v : CallerView). v.pass) first.same) second.own ∙ first.own;
  same = second.same ∙ ap (λ (v : CallerView). seeing v c.seen) first.same;
}

pub sees-kept : (a b c : CallerView) → Sees a b → c ≡ b → Sees a c
sees-kept a b c sees kept = subst (Sees a) (sym kept) sees

pub gets : (old new : CallerView) (c : Change) (reply : At Answer) (a : Answer) → ChangesAt old c (Some reply) new → reply.value ≡ a → Gets old c a new
gets old new c reply a changes is = subst (λ b. Gets old c b new) is (record { point = refl; legal = changes.legal; answered = changes.answered })

module _ (old read : CallerView) (n : Name) (r : At (Option FileRecord)) (reads : ReadsAt old (Local n) (Some r) read) where
  -- what was read is the local record at the point that was seen
  pub read-local : r.value ≡ local (now read) n
  read-local =
      let opening : read.opening ≡ old.opening = ap (λ (v : CallerView). v.opening) reads.sees.same in
      reads.answer_is ∙ ap (λ s. local (state_after s read.seen) n) (sym opening)

  -- the change is over its version
  pub scans : (new : CallerView) (moment : ℕ) (may : CallerView → Look → Type 0) (look : Look) (result : Scanned) (version : Option Vector)
      → version ≡ option_map (λ x. x.version) r.value → may read look → AsksFor read n version moment look result new → Scans old n moment may result new
  scans new moment may look result version is may_be asks = record {
    read = read;
    sees = reads.sees;
    found = look;
    may_be = may_be;
    asks = subst (λ v. AsksFor read n v moment look result new) (is ∙ ap (option_map (λ x. x.version)) read-local) asks;
  }
