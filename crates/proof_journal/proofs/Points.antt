-- What is recovered of the first pages, and of all.
use Rattle.std.proofs.Common.{◌≡◌, ◌<◌, ◌≤◌, Bool, true, false, List, [], ◌++◌, refl, sym, ap, subst, ◌∙◌, arith, append-nil, ◌⊎◌, inl, inr}
use Rattle.std.specs.Prelude.{Contains, fold, max, nat_le, Option, None, Some}
use Rattle.std.specs.List.{AllByRecursion}
use Rattle.std.specs.Option.{option_or}
use Rattle.std.proofs.lemmas.Bool.{leb-true, leb-false}
use Rattle.std.proofs.lemmas.Grind.{flat_map-append}
use Rattle.std.proofs.lemmas.List.Elements.{Contains-append_left}
use Rattle.std.proofs.lemmas.Option.{none-some}
use Rattle.folder_calls.specs.Shared.{CallerView, now}
use Rattle.folder_core.specs.Announced.{last_of}
use Rattle.folder_core.specs.States.{FolderState, local}
use Rattle.index_sender.specs.Overlay.{KeepsUp, overlay}
use Rattle.index_sender.specs.Pages.{Progress, records_of}
use Rattle.index_sender.specs.declared.page.Page.{Page}
use Rattle.index_sender.proofs.KeepingUp.{LocalGoesOn}
use Rattle.index_sender.proofs.PageRecords.{Rise, last-in}
use Rattle.node_journal.specs.declared.frame.Frame.{Frame}
use Rattle.node_saver.specs.Saving.{HasAll, IsReadAgain, records_in}
use Rattle.node_saver.specs.declared.frames.SavedFolder.{SavedFolder}
use Rattle.sync_record.specs.Records.{Name, FileRecord}
use Rattle.proof_journal.specs.Appended.{AreUpdates, HavePages}
use Rattle.proof_journal.specs.Own.{IsEarlierOwn, IsRecoveredBy, SameOwn}
use Rattle.proof_journal.proofs.Frames.{told-lasts, told-records}
use Rattle.proof_journal.proofs.LastRecords.{all-front, given, last-append, lasts_in, overlay-is, rise-apart, rise-left, top-above, top-reached}
use Rattle.proof_journal.proofs.LastSequences.{HasLast}

-- the first of the pages were appended, and recovered over what was stored
pub record IsCut (f : SavedFolder) (s t : FolderState) (v : CallerView) (front rest : List Page) (progress : Progress) (frames : List Frame) : Type 0 where
  pub same : SameOwn s v.opening
  pub goes : LocalGoesOn v.opening (now v)
  pub later : v.opening.last ≤ (now v).last
  pub keeps : KeepsUp s.last (front ++ rest) progress v
  pub updates : AreUpdates (front ++ rest)
  pub have : HavePages f front frames
  pub is : IsRecoveredBy f.id frames s t

module _ (f : SavedFolder) (s t : FolderState) (v : CallerView) (front rest : List Page) (progress : Progress) (frames : List Frame) (cut : IsCut f s t v front rest progress frames) where
  abbrev first : List FileRecord
  first = records_in front

  abbrev behind : List FileRecord
  behind = records_in rest

  joined : records_in (front ++ rest) ≡ first ++ behind
  joined = flat_map-append records_of front rest

  rise : Rise (first ++ behind)
  rise = subst Rise joined cut.updates.rise

  laid : (n : Name) → overlay (front ++ rest) n ≡ last_of n (first ++ behind)
  laid n = overlay-is n (front ++ rest) cut.updates.updates ∙ ap (last_of n) joined

  parted : (n : Name) → overlay (front ++ rest) n ≡ option_or (last_of n behind) (last_of n first)
  parted n = laid n ∙ last-append n first behind

  own : (n : Name) → local t n ≡ option_or (last_of n first) (local s n)
  own n =
      let again : AllByRecursion IsReadAgain first = all-front IsReadAgain first behind (subst (AllByRecursion IsReadAgain) joined cut.updates.again) in
      cut.is.own n ∙ ap (λ l. option_or (last_of n l) (local s n)) (told-records f front frames cut.have again)

  last : t.last ≡ fold max s.last (lasts_in front)
  last = cut.is.last ∙ told-lasts f front frames cut.have s.last

  reached : (t.last ≡ s.last) ⊎ ((r : FileRecord) × Contains first r × (r.sequence ≡ t.last))
  reached = subst (λ k. (k ≡ s.last) ⊎ ((r : FileRecord) × Contains first r × (r.sequence ≡ k))) (sym last) (top-reached s.last front (rise-left first behind rise))

  pub above : (s.last ≤ t.last) × ((r : FileRecord) → Contains first r → r.sequence ≤ t.last)
  above = subst (λ k. (s.last ≤ k) × ((r : FileRecord) → Contains first r → r.sequence ≤ k)) (sym last) (top-above s.last front (rise-left first behind rise))

  -- all that is recovered was given
  within : t.last ≤ progress.cursor
  within = by reached
    where
      by : (t.last ≡ s.last) ⊎ ((r : FileRecord) × Contains first r × (r.sequence ≡ t.last)) → t.last ≤ progress.cursor
      by (inl e) = let from : s.last ≤ progress.cursor = cut.keeps.from in omega arith
      by (inr x) =
          let i : Contains (records_in (front ++ rest)) x.0 = subst (λ rs. Contains rs x.0) (sym joined) (Contains-append_left first behind x.0 x.1) in
          let le : x.0.sequence ≤ progress.cursor = given s.last (front ++ rest) progress v cut.keeps cut.updates x.0 i in
          let at : x.0.sequence ≡ t.last = x.2 in
          omega arith

  -- what is not is above it
  beyond : (r : FileRecord) → Contains behind r → s.last < r.sequence → t.last < r.sequence
  beyond r i more = by reached
    where
      by : (t.last ≡ s.last) ⊎ ((q : FileRecord) × Contains first q × (q.sequence ≡ t.last)) → t.last < r.sequence
      by (inl e) = omega arith
      by (inr x) = let lt : x.0.sequence < r.sequence = rise-apart first behind rise x.0 r x.1 i in let at : x.0.sequence ≡ t.last = x.2 in omega arith

  abbrev Earlier : Name → Type 0
  Earlier n = (local t n ≡ local (now v) n) ⊎ ((r : FileRecord) × (local (now v) n ≡ Some r) × (t.last < r.sequence))

  -- one that is still to come
  to-come : (n : Name) (r : FileRecord) → local (now v) n ≡ Some r → progress.cursor < r.sequence → Earlier n
  to-come n r here more = inr (r, here, (let le = within in omega arith))

  in-rest : (n : Name) (r : FileRecord) → last_of n behind ≡ Some r → Earlier n
  in-rest n r is = by (cut.keeps.only n r (parted n ∙ ap (λ o. option_or o (last_of n first)) is))
    where
      by : (s.last < r.sequence) × (r.sequence ≤ progress.cursor) × ((local (now v) n ≡ Some r) ⊎ ((q : FileRecord) × (local (now v) n ≡ Some q) × (progress.cursor < q.sequence))) → Earlier n
      by (more, le, inl here) = inr (r, here, beyond r (last-in n behind r is).0 more)
      by (more, le, inr x) = to-come n x.0 x.1 x.2

  in-front : (n : Name) (r : FileRecord) → last_of n behind ≡ None → last_of n first ≡ Some r → Earlier n
  in-front n r none is = by (cut.keeps.only n r (parted n ∙ ap (λ o. option_or o (last_of n first)) none ∙ is)).2
    where
      by : (local (now v) n ≡ Some r) ⊎ ((q : FileRecord) × (local (now v) n ≡ Some q) × (progress.cursor < q.sequence)) → Earlier n
      by (inl here) = inl (own n ∙ ap (λ o. option_or o (local s n)) is ∙ sym here)
      by (inr x) = to-come n x.0 x.1 x.2

  in-none : (n : Name) → last_of n behind ≡ None → last_of n first ≡ None → Earlier n
  in-none n none is = by (cut.goes n)
    where
      come : (r : FileRecord) → local (now v) n ≡ Some r → s.last < r.sequence → (b : Bool) → nat_le r.sequence progress.cursor ≡ b → Earlier n
      come r here more true test =
          absurd (none-some r (sym (parted n ∙ ap (λ o. option_or o (last_of n first)) none ∙ is) ∙ cut.keeps.all n r here more (leb-true r.sequence progress.cursor test)))
      come r here more false test = to-come n r here (leb-false r.sequence progress.cursor test)

      by : (local (now v) n ≡ local v.opening n) ⊎ ((r : FileRecord) × (local (now v) n ≡ Some r) × (v.opening.last < r.sequence)) → Earlier n
      by (inl stays) = inl (own n ∙ ap (λ o. option_or o (local s n)) is ∙ cut.same.records n ∙ sym stays)
      by (inr x) = come x.0 x.1 (let lt : v.opening.last < x.0.sequence = x.2 in let e : s.last ≡ v.opening.last = cut.same.last in omega arith) (nat_le x.0.sequence progress.cursor) refl

  earlier-records : (n : Name) → Earlier n
  earlier-records n = by (last_of n behind) refl (last_of n first) refl
    where
      by : (o : Option FileRecord) → last_of n behind ≡ o → (p : Option FileRecord) → last_of n first ≡ p → Earlier n
      by (Some r) is p of_first = in-rest n r is
      by None none (Some r) is = in-front n r none is
      by None none None is = in-none n none is

  earlier-last : t.last ≤ (now v).last
  earlier-last = by cut.keeps.given
    where
      by : (progress.cursor ≡ s.last) ⊎ (progress.cursor ≤ (now v).last) → t.last ≤ (now v).last
      by (inl e) = let le = within in let same : s.last ≡ v.opening.last = cut.same.last in let more = cut.later in omega arith
      by (inr given) = let le = within in omega arith

  pub earlier : IsEarlierOwn t (now v)
  earlier = record { records = earlier-records; last = earlier-last }

-- all pages were appended
module _ (f : SavedFolder) (s t : FolderState) (v : CallerView) (pages : List Page) (progress : Progress) (frames : List Frame) (cut : IsCut f s t v pages [] progress frames)
    (all : HasAll (now v) progress.cursor) (has : HasLast v.opening.last (now v)) where
  point : IsEarlierOwn t (now v)
  point = earlier f s t v pages [] progress frames cut

  none-later : (n : Name) (r : FileRecord) → local (now v) n ≡ Some r → t.last < r.sequence → ⊥
  none-later n r here more =
      let over = above f s t v pages [] progress frames cut in
      let start : s.last ≤ t.last = over.0 in
      let e : overlay (pages ++ []) n ≡ Some r = cut.keeps.all n r here (omega arith) (all n r here) in
      let told : last_of n (records_in pages) ≡ Some r = sym (overlay-is n (pages ++ []) cut.updates.updates ∙ ap (λ ps. last_of n (records_in ps)) (append-nil pages)) ∙ e in
      let le : r.sequence ≤ t.last = over.1 r (last-in n (records_in pages) r told).0 in
      omega arith

  same-records : (n : Name) → local t n ≡ local (now v) n
  same-records n = by (point.records n)
    where
      by : (local t n ≡ local (now v) n) ⊎ ((r : FileRecord) × (local (now v) n ≡ Some r) × (t.last < r.sequence)) → local t n ≡ local (now v) n
      by (inl e) = e
      by (inr x) = absurd (none-later n x.0 x.1 x.2)

  up-to : HasLast v.opening.last (now v) → (now v).last ≤ t.last
  up-to (inl e) =
      let start : s.last ≤ t.last = (above f s t v pages [] progress frames cut).0 in
      let same : s.last ≡ v.opening.last = cut.same.last in
      omega arith
  up-to (inr x) = by (nat_le (now v).last t.last) refl
    where
      by : (b : Bool) → nat_le (now v).last t.last ≡ b → (now v).last ≤ t.last
      by true test = leb-true (now v).last t.last test
      by false test =
          let lt : t.last < (now v).last = leb-false (now v).last t.last test in
          let at : x.1.sequence ≡ (now v).last = x.3 in
          absurd (none-later x.0 x.1 x.2 (omega arith))

  pub same-own : SameOwn t (now v)
  same-own = record {
    records = same-records;
    last = (let le : t.last ≤ (now v).last = point.last in let ge : (now v).last ≤ t.last = up-to has in omega arith);
  }
