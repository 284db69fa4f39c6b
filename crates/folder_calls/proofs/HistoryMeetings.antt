-- What callers know after they met, and when their folder is closed.
use Rattle.std.proofs.Common.{◌≡◌, ℕ, zero, suc, ◌+◌, ◌≤◌, ◌<◌, List, [], ◌∷◌, ◌++◌, length, refl, sym, ap, subst, ◌∙◌, arith, ◌⊎◌, inl, inr}
use Rattle.std.specs.Prelude.{Contains, slice_index_or}
use Rattle.std.specs.FinMap.{len}
use Rattle.std.proofs.lemmas.List.{append-nil, append_cancel_left}
use mathlib.Core.List.{IsPrefix}
use Rattle.folder_core.specs.States.{FolderState, IsFolder}
use Rattle.folder_calls.specs.declared.entry.Entry.{Entry}
use Rattle.folder_calls.specs.Histories.{IsLegal, own_entries, state_after}
use Rattle.folder_calls.specs.Shared.{Closes, IsLegalView, Meets, Sees, CallerView, seeing}
use Rattle.folder_calls.proofs.HistoryEntries.{legal-folder}
use Rattle.folder_calls.proofs.HistoryFronts.{legal-more, own-divided}

-- a view that sees what another had seen
view-of : (one other : CallerView) → one.opening ≡ other.opening → one.limit ≡ other.limit → IsLegalView one → IsLegalView other → IsLegalView (seeing one other.seen)
view-of one other opening limit mine theirs = record {
  opening = mine.opening;
  no_pull = mine.no_pull;
  passes = mine.passes + theirs.passes;
  given = (mine.given.0, let g = mine.given.1 in omega arith);
  legal = subst (λ s. IsLegal (mine.passes + theirs.passes) s other.seen) (sym opening) (legal-more theirs.passes (mine.passes + theirs.passes) other.opening other.seen (omega arith) theirs.legal);
  room = subst (λ s. length other.seen + len (state_after s other.seen).pulls ≤ one.limit) (sym opening) (subst (λ n. length other.seen + len (state_after other.opening other.seen).pulls ≤ n) (sym limit) theirs.room);
}

module _ (one other one' other' : CallerView) (m : Meets one other one' other') where
  abbrev Longer : Type 0
  Longer =
      (IsPrefix one.seen other.seen × (one' ≡ seeing one other.seen) × (other' ≡ other))
      ⊎ (IsPrefix other.seen one.seen × (one' ≡ one) × (other' ≡ seeing other one.seen))

  pub meet-longer : Longer
  meet-longer = by m.known
    where
      by : (one'.seen ≡ one.seen) ⊎ (one'.seen ≡ other.seen) → Longer
      by (inl e) = inr (
        subst (IsPrefix other.seen) (sym m.same ∙ e) m.other_sees.longer,
        m.one_sees.same ∙ ap (seeing one) e,
        m.other_sees.same ∙ ap (seeing other) (sym m.same ∙ e),
      )
      by (inr e) = inl (
        subst (IsPrefix one.seen) e m.one_sees.longer,
        m.one_sees.same ∙ ap (seeing one) e,
        m.other_sees.same ∙ ap (seeing other) (sym m.same ∙ e),
      )

  pub meet-own : (own_entries one.pass one'.seen ≡ own_entries one.pass one.seen) × (own_entries other.pass other'.seen ≡ own_entries other.pass other.seen)
  meet-own = (m.one_sees.own, m.other_sees.own)

  pub meet-legal : one.opening ≡ other.opening → one.limit ≡ other.limit → IsLegalView one → IsLegalView other → IsLegalView one' × IsLegalView other'
  meet-legal opening limit mine theirs = by meet-longer
    where
      by : Longer → IsLegalView one' × IsLegalView other'
      by (inl l) = (subst IsLegalView (sym l.1) (view-of one other opening limit mine theirs), subst IsLegalView (sym l.2) theirs)
      by (inr l) = (subst IsLegalView (sym l.1) mine, subst IsLegalView (sym l.2) (view-of other one (sym opening) (sym limit) theirs mine))

stays : (v : CallerView) → Sees v v
stays v = record { longer = ([], append-nil v.seen); own = refl; same = refl }

pub may-meet : (one other : CallerView) → IsPrefix one.seen other.seen → own_entries one.pass other.seen ≡ own_entries one.pass one.seen
    → Meets one other (seeing one other.seen) other × Meets other one other (seeing one other.seen)
may-meet one other longer own =
    let saw : Sees one (seeing one other.seen) = record { longer = longer; own = own; same = refl } in (
      record { one_sees = saw; other_sees = stays other; same = refl; known = inr refl },
      record { one_sees = stays other; other_sees = saw; same = refl; known = inl refl },
    )

-- ---- closing

module _ (opening : FolderState) (limit passes : ℕ) (callers : List CallerView) (end : FolderState) (c : Closes opening limit passes callers end) where
  pub close-follows : (v : CallerView) → Contains callers v → (rest : List Entry) × (end ≡ state_after v.opening (v.seen ++ rest)) × (own_entries v.pass rest ≡ [])
  close-follows v one =
      let k = c.each v one in
      let p = k.2.longer in (
        p.0,
        c.state_is ∙ ap (λ s. state_after s c.history) (sym k.0) ∙ ap (state_after v.opening) (sym p.1),
        append_cancel_left (own_entries v.pass v.seen) (own_entries v.pass p.0) []
            (sym (own-divided v.pass v.seen p.0) ∙ ap (own_entries v.pass) p.1 ∙ k.2.own ∙ sym (append-nil (own_entries v.pass v.seen))),
      )

  pub close-folder : IsFolder opening → IsFolder end × (len end.pulls ≤ limit)
  close-folder folder = (subst IsFolder (sym c.state_is) (legal-folder passes opening c.history folder c.legal), let r = c.room in omega arith)

pub close-all : (opening : FolderState) (limit : ℕ) (callers : List CallerView) (end : FolderState) → Closes opening limit (length callers) callers end
    → (v : CallerView) × Contains callers v × (end ≡ state_after v.opening v.seen)
close-all opening limit callers end c =
    let w = c.whole refl in
    (w.0, w.1, c.state_is ∙ ap (λ s. state_after s c.history) (sym (c.each w.0 w.1).0) ∙ ap (state_after w.0.opening) (sym w.2))

only-one : (v u : CallerView) → Contains (v ∷ []) u → u ≡ v
only-one v u there = by there.0 there.1 there.2
  where
    by : (k : ℕ) → k < 1 → slice_index_or (v ∷ []) k u ≡ u → u ≡ v
    by zero first is = sym is
    by (suc k) first is = absurd (omega arith)

pub close-only : (opening : FolderState) (limit : ℕ) (v : CallerView) (end : FolderState) → Closes opening limit 1 (v ∷ []) end → end ≡ state_after v.opening v.seen
close-only opening limit v end c =
    let w = c.whole refl in
    let same = only-one v w.0 w.1 in
    c.state_is ∙ ap (λ s. state_after s c.history) (sym (c.each w.0 w.1).0) ∙ ap (state_after w.0.opening) (sym w.2) ∙ ap (λ (u : CallerView). state_after u.opening u.seen) same

pub may-close : (passes : ℕ) (v : CallerView) (es : List Entry) → IsPrefix v.seen es → own_entries v.pass es ≡ own_entries v.pass v.seen
    → IsLegal passes v.opening es → length es + len (state_after v.opening es).pulls ≤ v.limit → (1 < passes) ⊎ (es ≡ v.seen)
    → Closes v.opening v.limit passes (v ∷ []) (state_after v.opening es)
may-close passes v es longer own legal room enough = record {
  history = es;
  legal = legal;
  room = room;
  state_is = refl;
  each = λ u there. subst (λ u. (u.opening ≡ v.opening) × (u.limit ≡ v.limit) × Sees u (seeing u es)) (sym (only-one v u there)) (refl, refl, record { longer = longer; own = own; same = refl });
  whole = λ many. (v, (0, omega arith, refl), by many enough);
}
  where
    by : 1 ≡ passes → (1 < passes) ⊎ (es ≡ v.seen) → v.seen ≡ es
    by many (inl more) = absurd (omega arith)
    by many (inr all) = sym all
