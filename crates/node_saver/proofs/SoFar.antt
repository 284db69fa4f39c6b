-- What was appended so far.
use Rattle.std.proofs.Common.{◌≡◌, ℕ, List, [], ◌∷◌, ◌++◌, refl, sym, ap, ◌∙◌, append_assoc, append-nil, subst}
use Rattle.std.specs.Prelude.{None, Some}
use Rattle.std.specs.List.{AllByRecursion}
use Rattle.std.proofs.lemmas.List.Sums.{fold-append}
use mathlib.Core.List.{IsPrefix}
use Rattle.folder_calls.specs.Histories.{own_entries}
use Rattle.folder_calls.specs.Shared.{CallerView, Sees}
use Rattle.folder_calls.specs.declared.entry.Entry.{Entry}
use Rattle.index_sender.specs.Overlay.{GoesOn, KeepsUp, RecordMap, lay, overlay}
use Rattle.index_sender.specs.Pages.{Progress, records_of}
use Rattle.index_sender.specs.declared.page.Page.{Page}
use Rattle.index_sender.specs.declared.page.Page.TheVariants.{Index, IndexUpdate, Nothing}
use Rattle.node_journal.specs.declared.frame.Frame.{Frame}
use Rattle.node_saver.specs.Saving.{AreGiven, IsReadAgain, Saves, records_in, told}
use Rattle.node_saver.specs.declared.frames.SavedFolder.{SavedFolder}
use Rattle.sync_record.specs.Records.{Name, FileRecord}

-- these pages, after any that kept up with the folder before
abbrev pub GoOn : List Page → Progress → CallerView → Progress → CallerView → Type 0
GoOn pages old first new last =
    (start : ℕ) (told : List Page) (point : CallerView) → GoesOn point first → KeepsUp start told old point
    → (mid : CallerView) × GoesOn mid last × KeepsUp start (told ++ pages) new mid

pub record SavesSoFar {J : Type 0} (appends : J → Frame → J → Type 0) (f : SavedFolder) (old new : Progress) (before after : CallerView) (first last : J) : Type 0 where
  pub pages : List Page
  pub saves : Saves appends f first pages last
  pub given : AreGiven before old pages after new
  pub again : AllByRecursion IsReadAgain (records_in pages)
  pub on : GoOn pages old before new after

pub goes-itself : (v : CallerView) → GoesOn v v
goes-itself v = record { opening = refl; seen = ([], append-nil v.seen) }

nothing-laid : (pages : List Page) (n : Name) → overlay (pages ++ Nothing ∷ []) n ≡ overlay pages n
nothing-laid pages n = ap (λ (m : RecordMap). m n) (fold-append lay (λ q. None) pages (Nothing ∷ []))

-- what holds with a page that is none holds without it
pub keeps-without : (start : ℕ) (pages : List Page) (p : Progress) (v : CallerView) → KeepsUp start (pages ++ Nothing ∷ []) p v → KeepsUp start pages p v
keeps-without start pages p v k = record {
  all = λ n r here above below. sym (nothing-laid pages n) ∙ k.all n r here above below;
  only = λ n r e. k.only n r (nothing-laid pages n ∙ e);
  from = k.from;
  given = k.given;
  owed = k.owed;
}

pub told-none : (page : Page) → told page ≡ None → page ≡ Nothing
told-none (Index rs) e = cc
told-none (IndexUpdate rs) e = cc
told-none Nothing e = refl

pub told-some : (page : Page) (rs : List FileRecord) → told page ≡ Some rs → rs ≡ records_of page
told-some (Index qs) rs e = cc
told-some (IndexUpdate qs) rs e = cc
told-some Nothing rs e = cc

-- ---- what a caller sees

-- a caller that sees the history go on is at a later point of the folder
pub sees-on : (before after : CallerView) → Sees before after → GoesOn before after
sees-on before after s = record { opening = sym (ap (λ (v : CallerView). v.opening) s.same); seen = s.longer }

pub longer : (a b c : List Entry) → IsPrefix a b → IsPrefix b c → IsPrefix a c
longer a b c x y = (x.0 ++ y.0, sym (append_assoc a x.0 y.0) ∙ ap (λ l. l ++ y.0) x.1 ∙ y.1)

pub sees_together : (a b c : CallerView) → Sees a b → Sees b c → Sees a c
sees_together a b c x y =
    let pass : b.pass ≡ a.pass = ap (λ (v : CallerView). v.pass) x.same in
    record {
      longer = longer a.seen b.seen c.seen x.longer y.longer;
      own = subst (λ p. own_entries p c.seen ≡ own_entries p b.seen) pass y.own ∙ x.own;
      same = y.same ∙ ap (λ (v : CallerView). record v { seen = c.seen }) x.same;
    }
