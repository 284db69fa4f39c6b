-- What pages that become changes leave of a device.
use Rattle.std.proofs.Common.{Result, Ok, Err, OnOk, ◌≡◌, ◌≢◌, ℕ, ◌<◌, ◌≤◌, nat_lt, Bool, true, false, List, [], ◌∷◌, ◌++◌, Option, Some, None, refl, sym, ap, subst, ◌∙◌, arith, ◌⊎◌, inl, inr, fold, ℤ, append-nil}
use Rattle.std.specs.Prelude.{filter, if◌then◌else◌}
use Rattle.std.specs.FinMap.{get}
use Rattle.std.specs.List.{AllByRecursion}
use Rattle.std.specs.Option.{option_or}
use Rattle.std.proofs.lemmas.Bool.{ltb-true, lt-ltb}
use Rattle.std.proofs.lemmas.List.Sums.{fold-append}
use Rattle.sync_record.specs.Devices.{Identity}
use Rattle.sync_record.specs.Records.{FileRecord, Name}
use Rattle.folder_core.specs.Announced.{key, last_of}
use Rattle.folder_core.specs.States.{FolderState, IsFolder, local}
use Rattle.folder_core.specs.Steps.{is_accepted, step}
use Rattle.folder_core.specs.declared.answer.Answer.{Answer}
use Rattle.folder_core.specs.declared.answer.Answer.TheVariants.{Applied}
use Rattle.folder_core.specs.declared.change.Change.{Change}
use Rattle.folder_core.specs.declared.change.Change.TheVariants.{IndexFull, IndexMore}
use Rattle.folder_calls.specs.Adds.{Adds, Asked, Asks}
use Rattle.folder_calls.specs.Shared.{CallerView, ChangesAt, Gets, now}
use Rattle.folder_calls.specs.declared.at.At.{At}
use Rattle.index_sender.specs.Overlay.{GoesOn, KeepsUp, RecordMap, lay, overlay}
use Rattle.index_sender.specs.Pages.{Gives, Progress, page_of, sending_from}
use Rattle.index_sender.specs.declared.page.Page.{Page}
use Rattle.index_sender.specs.declared.page.Page.TheVariants.{Index, IndexUpdate, Nothing}
use Rattle.proof_layers.specs.Alone.{IsAlone}
use Rattle.proof_layers.specs.Told.{BeginsAs, IsIndexFirst, IsUpdate, Sends, SendsSoFar, above, after_index, changes_of, told_by}
use Rattle.proof_layers.proofs.AloneLemmas.{AnswerLaws, alone-back, alone-front, goes-asks, goes-gets, made-alone}

-- ---- one more page

pub changes-more : (d : Identity) (pages : List Page) (p : Page) → changes_of d (pages ++ p ∷ []) ≡ changes_of d pages ++ changes_of d (p ∷ [])
changes-more d [] p = refl
changes-more d (Index rs ∷ pages) p = ap (λ l. (IndexFull d rs, Applied) ∷ l) (changes-more d pages p)
changes-more d (IndexUpdate rs ∷ pages) p = ap (λ l. (IndexMore d rs, Applied) ∷ l) (changes-more d pages p)
changes-more d (Nothing ∷ pages) p = changes-more d pages p

first-more : (pages : List Page) (p : Page) → IsIndexFirst pages → IsIndexFirst (pages ++ p ∷ [])
first-more [] p h = absurd h
first-more (Index rs ∷ pages) p h = tt
first-more (IndexUpdate rs ∷ pages) p h = absurd h
first-more (Nothing ∷ pages) p h = absurd h

updates-more : (pages : List Page) (p : Page) → AllByRecursion IsUpdate pages → IsUpdate p → AllByRecursion IsUpdate (pages ++ p ∷ [])
updates-more [] p h u = (u, tt)
updates-more (q ∷ pages) p h u = (h.0, updates-more pages p h.1 u)

-- the next page is the Index exactly if that is still to come
begins-more : (start : Option ℤ) (owes : Bool) (pages : List Page) (rs : List FileRecord) → BeginsAs start owes pages → BeginsAs start false (pages ++ page_of owes rs ∷ [])
begins-more None true pages rs h = subst (λ ps. IsIndexFirst (ps ++ Index rs ∷ [])) (sym h) tt
begins-more None false pages rs h = first-more pages (page_of false rs) h
begins-more (Some start) true pages rs h = absurd (never h.0)
  where
    never : true ≡ false → ⊥
    never e = cc
begins-more (Some start) false pages [] h = (refl, updates-more pages Nothing h.1 tt)
begins-more (Some start) false pages (r ∷ rs) h = (refl, updates-more pages (IndexUpdate (r ∷ rs)) h.1 tt)

-- changes go together
abbrev pub GoTogether : Type 0
GoTogether = (xs ys : List Asked) (one two three : CallerView) → Asks one xs two → Asks two ys three → Asks one (xs ++ ys) three

pub sends-more : GoTogether → (d : Identity) (start : Option ℤ) (old new : Progress) (page : Page) (from later first mid last : CallerView)
    → SendsSoFar d start old from first mid → Gives (now later) old page new
    → ((pages : List Page) → KeepsUp (sending_from start).cursor pages old from → KeepsUp (sending_from start).cursor (pages ++ page ∷ []) new later)
    → Asks mid (changes_of d (page ∷ [])) last → SendsSoFar d start new later first last
sends-more together d start old new page from later first mid last h gives keeps asks = record {
  pages = h.pages ++ page ∷ [];
  begins = subst (λ (n : Progress). BeginsAs start n.owes_index (h.pages ++ page ∷ [])) (sym gives.new_is)
      (subst (λ p. BeginsAs start false (h.pages ++ p ∷ [])) (sym gives.page_is) (begins-more start old.owes_index h.pages gives.records h.begins));
  keeps = keeps h.pages h.keeps;
  asks = subst (λ l. Asks first l last) (sym (changes-more d h.pages page)) (together (changes_of d h.pages) (changes_of d (page ∷ [])) first mid last h.asks asks);
}

-- ---- nothing is left

overlay-nothing : (pages : List Page) (n : Name) → overlay (pages ++ Nothing ∷ []) n ≡ overlay pages n
overlay-nothing pages n = ap (λ (m : RecordMap). m n) (fold-append lay (λ q. None) pages (Nothing ∷ []))

-- what the laws of pages say
pub record PageLaws : Type 0 where
  pub end : (s : FolderState) (old new : Progress) (n : Name) (r : FileRecord) → IsFolder s → Gives s old Nothing new → local s n ≡ Some r → r.sequence ≤ new.cursor
  pub whole : (start : ℕ) (pages : List Page) (old new : Progress) (v : CallerView) (n : Name) (r : FileRecord) → IsFolder (now v)
      → KeepsUp start pages new v → Gives (now v) old Nothing new → local (now v) n ≡ Some r → start < r.sequence → overlay pages n ≡ Some r

inside : (q r : FileRecord) → Some q ≡ Some r → q ≡ r
inside q r e = cc

module _ (laws : PageLaws) (start : ℕ) (pages : List Page) (old new : Progress) (v : CallerView) (folder : IsFolder (now v))
    (keeps : KeepsUp start pages new v) (gives : Gives (now v) old Nothing new) (n : Name) where
  -- what the pages have is local, and above the start
  only : (r : FileRecord) → overlay pages n ≡ Some r → (start < r.sequence) × (local (now v) n ≡ Some r)
  only r e = (o.0, by o.2)
    where
      o : (start < r.sequence) × (r.sequence ≤ new.cursor) × ((local (now v) n ≡ Some r) ⊎ ((q : FileRecord) × (local (now v) n ≡ Some q) × (new.cursor < q.sequence)))
      o = keeps.only n r e

      by : (local (now v) n ≡ Some r) ⊎ ((q : FileRecord) × (local (now v) n ≡ Some q) × (new.cursor < q.sequence)) → local (now v) n ≡ Some r
      by (inl here) = here
      by (inr x) =
          let le : x.0.sequence ≤ new.cursor = laws.end (now v) old new n x.0 folder gives x.1 in
          let lt : new.cursor < x.0.sequence = x.2 in
          absurd (omega arith)

  some-above : (r : FileRecord) → overlay pages n ≡ Some r → overlay pages n ≡ above start (local (now v) n)
  some-above r e =
      let o = only r e in
      let t : nat_lt start r.sequence ≡ true = lt-ltb start r.sequence o.0 in
      e ∙ sym (ap (above start) o.1 ∙ ap (λ b. if b then Some r else None) t)

  none-above : overlay pages n ≡ None → overlay pages n ≡ above start (local (now v) n)
  none-above e = e ∙ sym (by (local (now v) n) refl)
    where
      by : (o : Option FileRecord) → local (now v) n ≡ o → above start o ≡ None
      by None here = refl
      by (Some r) here = elim (nat_lt start r.sequence) as (λ b. nat_lt start r.sequence ≡ b → (if b then Some r else None) ≡ None) [
        | true ↦ λ t. let f = sym e ∙ laws.whole start pages old new v n r folder keeps gives here (ltb-true start r.sequence t) in absurd (never f)
        | false ↦ λ t. refl
      ] refl
        where
          never : None ≡ Some r → ⊥
          never f = cc

  pub have-above : overlay pages n ≡ above start (local (now v) n)
  have-above = by (overlay pages n) refl
    where
      by : (o : Option FileRecord) → overlay pages n ≡ o → overlay pages n ≡ above start (local (now v) n)
      by None e = none-above e
      by (Some r) e = some-above r e

-- all was sent
pub sends-all : PageLaws → (d : Identity) (start : Option ℤ) (new : Progress) (old : Progress) (from later first last : CallerView) → IsFolder (now later)
    → SendsSoFar d start old from first last → Gives (now later) old Nothing new
    → ((pages : List Page) → KeepsUp (sending_from start).cursor pages old from → KeepsUp (sending_from start).cursor (pages ++ Nothing ∷ []) new later)
    → Sends d start later first last
sends-all laws d start new old from later first last folder h gives keeps = record {
  pages = h.pages;
  begins = by old.owes_index h.begins (gives.page_is);
  have = λ n. sym (overlay-nothing h.pages n) ∙ have-above laws (sending_from start).cursor (h.pages ++ Nothing ∷ []) old new later folder (keeps h.pages h.keeps) gives n;
  asks = h.asks;
}
  where
    by : (owes : Bool) → BeginsAs start owes h.pages → Nothing ≡ page_of owes gives.records → BeginsAs start false h.pages
    by true b e = absurd (never e)
      where
        never : Nothing ≡ Index gives.records → ⊥
        never x = cc
    by false b e = b

-- ---- what the other folder then has

-- what the laws of indexes say
pub record IndexLaws : Type 0 where
  pub index : (t : FolderState) (d : Identity) (records : List FileRecord) (n : Name) →
      get (step t (IndexFull d records)).1.announced (key n d) ≡ lay (λ m. get t.announced (key m d)) (Index records) n
  pub update : (t : FolderState) (d : Identity) (records : List FileRecord) (n : Name) →
      get (step t (IndexMore d records)).1.announced (key n d) ≡ lay (λ m. get t.announced (key m d)) (IndexUpdate records) n
  pub full_others : (s : FolderState) (d e : Identity) (records : List FileRecord) (n : Name) → d ≢ e →
      get (step s (IndexFull d records)).1.announced (key n e) ≡ get s.announced (key n e)
  pub more_others : (s : FolderState) (d e : Identity) (records : List FileRecord) (n : Name) → d ≢ e →
      get (step s (IndexMore d records)).1.announced (key n e) ≡ get s.announced (key n e)

module _ (answers : AnswerLaws) (laws : IndexLaws) (d : Identity) where
  -- the device's records are the pages, laid over what was there
  told-laid : (pages : List Page) (old new : CallerView) → Asks old (changes_of d pages) new → IsAlone old new
      → told_by d (now new) ≡ fold lay (told_by d (now old)) pages
  told-laid [] old new e alone = ap (λ v. told_by d (now v)) e
  told-laid (Index rs ∷ pages) old new x alone =
      let gone = goes-gets answers old x.0 (IndexFull d rs) Applied x.1 in
      let rest = goes-asks answers x.0 new (changes_of d pages) x.2 in
      let made = made-alone answers old x.0 (IndexFull d rs) Applied x.1 refl (alone-front old x.0 new gone rest alone) in
      let one : told_by d (now x.0) ≡ lay (told_by d (now old)) (Index rs) = λ i n. (ap (λ s. told_by d s n) (sym made.state) ∙ laws.index (now old) d rs n) i in
      told-laid pages x.0 new x.2 (alone-back old x.0 new gone rest alone) ∙ ap (λ (m : RecordMap). fold lay m pages) one
  told-laid (IndexUpdate rs ∷ pages) old new x alone =
      let gone = goes-gets answers old x.0 (IndexMore d rs) Applied x.1 in
      let rest = goes-asks answers x.0 new (changes_of d pages) x.2 in
      let made = made-alone answers old x.0 (IndexMore d rs) Applied x.1 refl (alone-front old x.0 new gone rest alone) in
      let one : told_by d (now x.0) ≡ lay (told_by d (now old)) (IndexUpdate rs) = λ i n. (ap (λ s. told_by d s n) (sym made.state) ∙ laws.update (now old) d rs n) i in
      told-laid pages x.0 new x.2 (alone-back old x.0 new gone rest alone) ∙ ap (λ (m : RecordMap). fold lay m pages) one
  told-laid (Nothing ∷ pages) old new x alone = told-laid pages old new x alone

  -- other devices' records are as before
  pub others-kept : (e : Identity) → d ≢ e → (n : Name) (pages : List Page) (old new : CallerView) → Asks old (changes_of d pages) new → IsAlone old new
      → told_by e (now new) n ≡ told_by e (now old) n
  others-kept e apart n [] old new x alone = ap (λ v. told_by e (now v) n) x
  others-kept e apart n (Index rs ∷ pages) old new x alone =
      let gone = goes-gets answers old x.0 (IndexFull d rs) Applied x.1 in
      let rest = goes-asks answers x.0 new (changes_of d pages) x.2 in
      let made = made-alone answers old x.0 (IndexFull d rs) Applied x.1 refl (alone-front old x.0 new gone rest alone) in
      others-kept e apart n pages x.0 new x.2 (alone-back old x.0 new gone rest alone)
      ∙ ap (λ s. told_by e s n) (sym made.state) ∙ laws.full_others (now old) d e rs n apart
  others-kept e apart n (IndexUpdate rs ∷ pages) old new x alone =
      let gone = goes-gets answers old x.0 (IndexMore d rs) Applied x.1 in
      let rest = goes-asks answers x.0 new (changes_of d pages) x.2 in
      let made = made-alone answers old x.0 (IndexMore d rs) Applied x.1 refl (alone-front old x.0 new gone rest alone) in
      others-kept e apart n pages x.0 new x.2 (alone-back old x.0 new gone rest alone)
      ∙ ap (λ s. told_by e s n) (sym made.state) ∙ laws.more_others (now old) d e rs n apart
  others-kept e apart n (Nothing ∷ pages) old new x alone = others-kept e apart n pages old new x alone

  -- over an Index it does not matter what was there
  over-index : (below : RecordMap) (pages : List Page) → IsIndexFirst pages → fold lay below pages ≡ overlay pages
  over-index below [] h = absurd h
  over-index below (Index rs ∷ pages) h = refl
  over-index below (IndexUpdate rs ∷ pages) h = absurd h
  over-index below (Nothing ∷ pages) h = absurd h

  or-or : (a b c : Option FileRecord) → option_or a (option_or b c) ≡ option_or (option_or a b) c
  or-or None b c = refl
  or-or (Some r) b c = refl

  -- under updates what was there shows where they have nothing
  under-updates : (below upper : RecordMap) (pages : List Page) → AllByRecursion IsUpdate pages
      → fold lay (λ n. option_or (upper n) (below n)) pages ≡ (λ n. option_or (fold lay upper pages n) (below n))
  under-updates below upper [] h = refl
  under-updates below upper (Index rs ∷ pages) h = absurd h.0
  under-updates below upper (IndexUpdate rs ∷ pages) h =
      let one : lay (λ n. option_or (upper n) (below n)) (IndexUpdate rs) ≡ (λ n. option_or (lay upper (IndexUpdate rs) n) (below n))
      = λ i n. or-or (last_of n rs) (upper n) (below n) i in
      ap (λ (m : RecordMap). fold lay m pages) one ∙ under-updates below (lay upper (IndexUpdate rs)) pages h.1
  under-updates below upper (Nothing ∷ pages) h = under-updates below upper pages h.1

  above-all : (s : FolderState) → IsFolder s → (n : Name) → above 0 (local s n) ≡ local s n
  above-all s folder n = by (local s n) refl
    where
      by : (o : Option FileRecord) → local s n ≡ o → above 0 o ≡ o
      by None here = refl
      by (Some r) here =
          let t : nat_lt 0 r.sequence ≡ true = lt-ltb 0 r.sequence (folder.numbered.in_range n r here).0 in
          ap (λ b. if b then Some r else None) t

  pub told-after : (start : Option ℤ) (from old new : CallerView) → IsFolder (now from) → Sends d start from old new → IsAlone old new
      → (n : Name) → told_by d (now new) n ≡ after_index start (local (now from)) (told_by d (now old)) n
  told-after None from old new folder h alone n =
      let laid = told-laid h.pages old new h.asks alone in
      ap (λ (m : RecordMap). m n) (laid ∙ over-index (told_by d (now old)) h.pages h.begins) ∙ h.have n ∙ above-all (now from) folder n
  told-after (Some start) from old new folder h alone n =
      let laid = told-laid h.pages old new h.asks alone in
      ap (λ (m : RecordMap). m n) (laid ∙ under-updates (told_by d (now old)) (λ q. None) h.pages h.begins.1) ∙ ap (λ o. option_or o (told_by d (now old) n)) (h.have n)

-- ---- one call

abbrev pub IsGot : Type 0
IsGot = (old new : CallerView) (c : Change) (reply : At Answer) → ChangesAt old c (Some reply) new → Gets old c reply.value new

-- one change was asked for, with this answer
pub asked-one : IsGot → (old new : CallerView) (c : Change) (reply : At Answer) (a : Answer) → ChangesAt old c (Some reply) new → reply.value ≡ a
    → Asks old ((c, a) ∷ []) new
asked-one got old new c reply a h e = (new, subst (λ x. Gets old c x new) e (got old new c reply h), refl)

-- before the first page
pub sends-none : (d : Identity) (start : Option ℤ) (progress : Progress) (from old : CallerView) → progress ≡ sending_from start
    → KeepsUp (sending_from start).cursor [] (sending_from start) from → SendsSoFar d start progress from old old
sends-none d start progress from old is keeps = record {
  pages = [];
  begins = subst (λ (p : Progress). BeginsAs start p.owes_index []) (sym is) (by start);
  keeps = subst (λ p. KeepsUp (sending_from start).cursor [] p from) (sym is) keeps;
  asks = refl;
}
  where
    by : (start : Option ℤ) → BeginsAs start (sending_from start).owes_index []
    by None = refl
    by (Some k) = (refl, tt)

abbrev pub AddEntries : Type 0
AddEntries = (asked : List Asked) (old new : CallerView) → Asks old asked new → Adds old (filter (λ m. is_accepted m.1) asked) new

-- who asks is the same caller
pub asks-opening : AddEntries → (old new : CallerView) (asked : List Asked) → Asks old asked new → new.opening ≡ old.opening
asks-opening adds old new asked asks = ap (λ (v : CallerView). v.opening) (adds asked old new asks).same

pub same-point : (v : CallerView) → GoesOn v v
same-point v = record { opening = refl; seen = ([], append-nil v.seen) }

pub on_ok_both : {X E P Q R : Type 0} (r : Result X E) → (P → Q → R) → OnOk r P → OnOk r Q → OnOk r R
on_ok_both (Ok x) f p q = f p q
on_ok_both (Err e) f p q = tt
