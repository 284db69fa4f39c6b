-- Frames of pages that are parted, and to which more are appended.
use Rattle.std.proofs.Common.{◌≡◌, ℕ, List, [], ◌∷◌, ◌++◌, refl, sym, ap, subst, ◌∙◌, append_assoc, append-nil}
use Rattle.std.specs.Prelude.{◌≢◌, false, bytes_eq, cond, filter}
use Rattle.std.specs.List.{AllByRecursion}
use Rattle.std.proofs.lemmas.Bool.{false_from_ne_true}
use Rattle.folder_core.proofs.ListTests.{same_bytes}
use Rattle.index_sender.specs.Pages.{records_of}
use Rattle.index_sender.specs.declared.page.Page.{Page}
use Rattle.node_journal.specs.declared.frame.Frame.{Frame}
use Rattle.node_journal.specs.declared.part.Part.{Part}
use Rattle.node_saver.specs.Frames.{records_frame}
use Rattle.node_saver.specs.Saving.{Saves, none as none_saved, one_more}
use Rattle.node_saver.specs.declared.frames.SavedFolder.{SavedFolder}
use Rattle.node_saver.proofs.Records.{push-all}
use Rattle.proof_journal.specs.Appended.{HavePages, TellsNone, no_page, one_page, other}

-- the first frames have the first pages
pub first-pages : (f : SavedFolder) (pages : List Page) (all : List Frame) → HavePages f pages all → (frames lost : List Frame) → all ≡ frames ++ lost
    → (front : List Page) × (rest : List Page) × (pages ≡ front ++ rest) × HavePages f front frames
first-pages f pages all have [] lost is = ([], pages, refl, no_page)
first-pages f pages all no_page (x ∷ xs) lost is = cc
first-pages f pages all (one_page page before behind have) (x ∷ xs) lost is =
    let here : records_frame f (records_of page) ≡ x = cc in
    let there : behind ≡ xs ++ lost = cc in
    let parted = first-pages f before behind have xs lost there in
    (page ∷ parted.0, parted.1, ap (λ ps. page ∷ ps) parted.2, subst (λ frame. HavePages f (page ∷ parted.0) (frame ∷ xs)) here (one_page page parted.0 xs parted.3))
first-pages f pages all (other frame before behind none have) (x ∷ xs) lost is =
    let here : frame ≡ x = cc in
    let there : behind ≡ xs ++ lost = cc in
    let parted = first-pages f before behind have xs lost there in
    (parted.0, parted.1, parted.2, other x parted.0 xs (subst (TellsNone f.id) here none) parted.3)

-- one more page
pub page-behind : (f : SavedFolder) (page : Page) (pages : List Page) (frames : List Frame) → HavePages f pages frames
    → HavePages f (pages ++ page ∷ []) (frames ++ records_frame f (records_of page) ∷ [])
page-behind f page pages frames no_page = one_page page [] [] no_page
page-behind f page pages frames (one_page p before behind have) = one_page p _ _ (page-behind f page before behind have)
page-behind f page pages frames (other frame before behind none have) = other frame _ _ none (page-behind f page before behind have)

-- one more frame that tells nothing
pub none-behind : (f : SavedFolder) (frame : Frame) → TellsNone f.id frame → (pages : List Page) (frames : List Frame) → HavePages f pages frames
    → HavePages f pages (frames ++ frame ∷ [])
none-behind f frame tells pages frames no_page = other frame [] [] tells no_page
none-behind f frame tells pages frames (one_page p before behind have) = one_page p _ _ (none-behind f frame tells before behind have)
none-behind f frame tells pages frames (other x before behind none have) = other x _ _ none (none-behind f frame tells before behind have)

-- frames behind others
pub joined-have : (f : SavedFolder) (told : List Page) (front : List Frame) (pages : List Page) (frames : List Frame) → HavePages f told front → HavePages f pages frames
    → HavePages f (told ++ pages) (front ++ frames)
joined-have f told front pages frames no_page have = have
joined-have f told front pages frames (one_page p before behind had) have = one_page p _ _ (joined-have f before behind pages frames had have)
joined-have f told front pages frames (other x before behind none had) have = other x _ _ none (joined-have f before behind pages frames had have)

module _ {J : Type 0} (appends : J → Frame → J → Type 0) (frames_of : J → List Frame)
    (grows : (old new : J) (frame : Frame) → appends old frame new → frames_of new ≡ frames_of old ++ frame ∷ [])
    (f : SavedFolder) (first : J) where
  -- behind the frames of others
  pub saved-have : (told : List Page) → HavePages f told (frames_of first) → (pages : List Page) (last : J) → Saves appends f first pages last → HavePages f (told ++ pages) (frames_of last)
  saved-have told had pages last none_saved = subst (λ ps. HavePages f ps (frames_of first)) (sym (append-nil told)) had
  saved-have told had pages last (one_more before page mid end saves more) =
      subst (λ ps. HavePages f ps (frames_of end)) (append_assoc told before (page ∷ []))
      (subst (HavePages f ((told ++ before) ++ page ∷ [])) (sym (grows mid end (records_frame f (records_of page)) more))
      (page-behind f page (told ++ before) (frames_of mid) (saved-have told had before mid saves)))

  -- the frames that were appended
  pub saved-body : (pages : List Page) (last : J) → Saves appends f first pages last
      → (body : List Frame) × (frames_of last ≡ frames_of first ++ body) × HavePages f pages body × AllByRecursion (λ g. g.is_whole ≡ false) body
  saved-body pages last none_saved = ([], sym (append-nil (frames_of first)), no_page, tt)
  saved-body pages last (one_more before page mid end saves more) =
      let front = saved-body before mid saves in
      let frame : Frame = records_frame f (records_of page) in (
        front.0 ++ frame ∷ [],
        grows mid end frame more ∙ ap (λ l. l ++ frame ∷ []) front.1 ∙ append_assoc (frames_of first) front.0 (frame ∷ []),
        page-behind f page before front.0 front.2,
        push-all (λ (g : Frame). g.is_whole ≡ false) front.0 (frame ∷ []) front.3 (refl, tt),
      )

-- a part of another folder is not among those of this one
pub no-part : (p : Part) (id : List ℕ) → p.id ≢ id → filter (λ (q : Part). bytes_eq q.id id) (p ∷ []) ≡ []
no-part p id apart = ap (λ b. cond b (p ∷ []) []) (false_from_ne_true (bytes_eq p.id id) (λ t. apart (same_bytes p.id id t)))
