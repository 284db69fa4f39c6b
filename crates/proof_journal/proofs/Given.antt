-- What pages are that a sender gave, one after the other, behind others.
use Rattle.std.proofs.Common.{◌≡◌, ℕ, false, List, [], ◌∷◌, ◌++◌, refl, sym, subst, ◌∙◌, append_assoc, append-nil}
use Rattle.std.specs.List.{AllByRecursion}
use Rattle.folder_calls.specs.Shared.{CallerView, IsLegalView, now}
use Rattle.index_sender.specs.Overlay.{GoesOn, KeepsUp}
use Rattle.index_sender.specs.Pages.{Gives, Progress, records_of}
use Rattle.index_sender.specs.declared.page.Page.{Page}
use Rattle.index_sender.specs.declared.page.Page.TheVariants.{Nothing}
use Rattle.index_sender.proofs.PageRecords.{Rise}
use Rattle.node_saver.specs.Saving.{AreGiven, IsReadAgain, none_given, one_given, records_in}
use Rattle.node_saver.proofs.Records.{again-push, records-push}
use Rattle.node_saver.proofs.SoFar.{goes-itself, keeps-without, longer}
use Rattle.proof_journal.specs.Appended.{AreUpdates, IsSending, IsUpdate}
use Rattle.proof_journal.proofs.LastRecords.{all-front, all-rest}

-- ---- points of a folder

pub goes-far : (a b c : CallerView) → GoesOn a b → GoesOn b c → GoesOn a c
goes-far a b c x y = record { opening = x.opening ∙ y.opening; seen = longer a.seen b.seen c.seen x.seen y.seen }

pub given-goes : (first : CallerView) (old : Progress) (pages : List Page) (last : CallerView) (new : Progress) → AreGiven first old pages last new → GoesOn first last
given-goes first old pages last new none_given = goes-itself first
given-goes first old pages last new (one_given front page before after mid end given goes legal gives) =
    goes-far first before after (given-goes first old front before mid given) goes

some-page : (pages : List Page) (page : Page) → [] ≡ pages ++ page ∷ [] → ⊥
some-page [] page e = cc
some-page (p ∷ pages) page e = cc

last-legal : (first : CallerView) (old : Progress) (all : List Page) (last : CallerView) (new : Progress) → AreGiven first old all last new
    → (pages : List Page) (page : Page) → all ≡ pages ++ page ∷ [] → IsLegalView last
last-legal first old all last new none_given pages page is = absurd (some-page pages page is)
last-legal first old all last new (one_given front p before after mid end given goes legal gives) pages page is = legal

-- the last page was given of a folder
pub given-legal : (first : CallerView) (old : Progress) (pages : List Page) (page : Page) (last : CallerView) (new : Progress) → AreGiven first old (pages ++ page ∷ []) last new
    → IsLegalView last
given-legal first old pages page last new given = last-legal first old (pages ++ page ∷ []) last new given pages page refl

-- ---- with the next page

front-again : (pages : List Page) (page : Page) → AllByRecursion IsReadAgain (records_in (pages ++ page ∷ [])) → AllByRecursion IsReadAgain (records_in pages)
front-again pages page again = all-front IsReadAgain (records_in pages) (records_of page) (subst (AllByRecursion IsReadAgain) (records-push pages page) again)

updates-without : (pages : List Page) → AreUpdates (pages ++ Nothing ∷ []) → AreUpdates pages
updates-without pages are =
    let same : records_in (pages ++ Nothing ∷ []) ≡ records_in pages = records-push pages Nothing ∙ append-nil (records_in pages) in
    record {
      updates = all-front IsUpdate pages (Nothing ∷ []) are.updates;
      rise = subst Rise same are.rise;
      again = subst (AllByRecursion IsReadAgain) same are.again;
    }

module _ (start : ℕ)
    (keeps_up : (pages : List Page) (old new : Progress) (page : Page) (before after : CallerView) → KeepsUp start pages old before → GoesOn before after → IsLegalView after →
    Gives (now after) old page new → KeepsUp start (pages ++ page ∷ []) new after)
    (are_updates : (pages : List Page) (old new : Progress) (page : Page) (before after : CallerView) → IsSending start pages old before → IsLegalView after → Gives (now after) old page new → AllByRecursion IsReadAgain (records_of page) → AreUpdates (pages ++ page ∷ []) × (new.owes_index ≡ false))
    (told : List Page) (old : Progress) (point first : CallerView) (were : IsSending start told old point) (goes_first : GoesOn point first) where
  abbrev SoFar : List Page → CallerView → Progress → Type 0
  SoFar pages last new = (mid : CallerView) × GoesOn mid last × IsSending start (told ++ pages) new mid

  next : (pages : List Page) (page : Page) (before after : CallerView) (mid new : Progress) → SoFar pages before mid → GoesOn before after → IsLegalView after
      → Gives (now after) mid page new → AllByRecursion IsReadAgain (records_in (pages ++ page ∷ [])) → IsSending start (told ++ (pages ++ page ∷ [])) new after
  next pages page before after mid new so goes legal gives again =
      let on : GoesOn so.0 after = goes-far so.0 before after so.1 goes in
      let of_page : AllByRecursion IsReadAgain (records_of page) =
      all-rest IsReadAgain (records_in pages) (records_of page) (subst (AllByRecursion IsReadAgain) (records-push pages page) again) in
      let are = are_updates (told ++ pages) mid new page so.0 after so.2 legal gives of_page in
      let keeps = keeps_up (told ++ pages) mid new page so.0 after so.2.keeps on legal gives in
      let joined : (told ++ pages) ++ page ∷ [] ≡ told ++ (pages ++ page ∷ []) = append_assoc told pages (page ∷ []) in
      record {
        updates = subst AreUpdates joined are.0;
        keeps = subst (λ ps. KeepsUp start ps new after) joined keeps;
        owes = are.1;
      }

  so-far : (pages : List Page) (last : CallerView) (new : Progress) → AreGiven first old pages last new → AllByRecursion IsReadAgain (records_in pages) → SoFar pages last new
  so-far pages last new none_given again = (point, goes_first, subst (λ ps. IsSending start ps old point) (sym (append-nil told)) were)
  so-far pages last new (one_given front page before after mid end given goes legal gives) again = (
    after,
    goes-itself after,
    next front page before after mid end (so-far front before mid given (front-again front page again)) goes legal gives again,
  )

  at-last : (all : List Page) (last : CallerView) (new : Progress) → AreGiven first old all last new → (pages : List Page) (page : Page) → all ≡ pages ++ page ∷ []
      → AllByRecursion IsReadAgain (records_in all) → IsSending start (told ++ all) new last
  at-last all last new none_given pages page is again = absurd (some-page pages page is)
  at-last all last new (one_given front p before after mid end given goes legal gives) pages page is again =
      next front p before after mid end (so-far front before mid given (front-again front p again)) goes legal gives again

  -- until nothing is left
  pub given-all : (pages : List Page) (last : CallerView) (new : Progress) → AreGiven first old (pages ++ Nothing ∷ []) last new → AllByRecursion IsReadAgain (records_in pages)
      → IsSending start (told ++ pages) new last
  given-all pages last new given again =
      let so = at-last (pages ++ Nothing ∷ []) last new given pages Nothing refl (again-push pages Nothing again tt) in
      let parted : told ++ (pages ++ Nothing ∷ []) ≡ (told ++ pages) ++ Nothing ∷ [] = sym (append_assoc told pages (Nothing ∷ [])) in
      record {
        updates = updates-without (told ++ pages) (subst AreUpdates parted so.updates);
        keeps = keeps-without start (told ++ pages) new last (subst (λ ps. KeepsUp start ps new last) parted so.keeps);
        owes = so.owes;
      }
