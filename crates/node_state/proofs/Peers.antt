-- Peers that are written one by one: those of which no number is kept are left out.
use Rattle.std.proofs.Common.{◌≡◌, ℕ, ◌+◌, ◌<◌, true, false, List, [], ◌∷◌, ◌++◌, length, get_or, take, map, refl, sym, ap, subst, ◌∙◌}
use Rattle.std.specs.List.{AllByRecursion}
use Rattle.std.specs.Prelude.{cond, filter, not}
use Rattle.std.proofs.lemmas.Bool.{eq-eqb, ne_eqb}
use Rattle.std.proofs.lemmas.List.{take_more, append-nil}
use Rattle.std.proofs.lemmas.Grind.{flat_map-append}
use Rattle.bep_wire.specs.Written.{bytes_field}
use Rattle.bep_messages.specs.Forms.{form, list_form, Fits, IsShort}
use Rattle.bep_messages.specs.Tables.{Values}
use Rattle.bep_messages.specs.Writing.{Writing, Adds}
use Rattle.bep_messages.proofs.Written.{◌then◌}
use Rattle.node_state.specs.declared.kept.PeerIndex.{PeerIndex}
use Rattle.node_state.specs.Peers.{is_kept, pair}
use Rattle.node_state.specs.Tables.{peer_table}
use Rattle.node_state.specs.Written.{peer_values}

pub kept-true : (p : PeerIndex) → (p.index_id ≡ 0 → ⊥) → is_kept (pair p) ≡ true
kept-true p other = ap not (ne_eqb p.index_id 0 other)

pub kept-false : (p : PeerIndex) → p.index_id ≡ 0 → is_kept (pair p) ≡ false
kept-false p same = ap not (eq-eqb p.index_id 0 same)

-- what is written of peers
abbrev pub written_of : List PeerIndex → List (Values peer_table)
written_of ps = map peer_values (filter is_kept (map pair ps))

one : PeerIndex → List (Values peer_table)
one p = cond (is_kept (pair p)) (peer_values (pair p) ∷ []) []

written-push : (ps : List PeerIndex) (p : PeerIndex) → written_of (ps ++ p ∷ []) ≡ written_of ps ++ one p
unfolding one
written-push [] p = elim (is_kept (pair p)) as (λ b. map peer_values (cond b (pair p ∷ []) []) ≡ cond b (peer_values (pair p) ∷ []) []) [ true ↦ refl | false ↦ refl ]
written-push (q ∷ ps) p =
    elim (is_kept (pair q)) as (λ b. map peer_values (cond b (pair q ∷ filter is_kept (map pair (ps ++ p ∷ []))) (filter is_kept (map pair (ps ++ p ∷ []))))
    ≡ map peer_values (cond b (pair q ∷ filter is_kept (map pair ps)) (filter is_kept (map pair ps))) ++ one p) [
      | true ↦ ap (λ (vs : List (Values peer_table)). peer_values (pair q) ∷ vs) (written-push ps p)
      | false ↦ written-push ps p
    ]

written-next : (ps : List PeerIndex) (i : ℕ) (p : PeerIndex) → i < length ps → p ≡ get_or ps i p → written_of (take (i + 1) ps) ≡ written_of (take i ps) ++ one p
written-next ps i p lt is = ap written_of (take_more ps i p lt ∙ ap (λ (q : PeerIndex). take i ps ++ q ∷ []) (sym is)) ∙ written-push (take i ps) p

kept-next : (ps : List PeerIndex) (i : ℕ) (p : PeerIndex) → i < length ps → p ≡ get_or ps i p → is_kept (pair p) ≡ true → written_of (take (i + 1) ps) ≡ written_of (take i ps) ++ peer_values (pair p) ∷ []
unfolding one
kept-next ps i p lt is kept = written-next ps i p lt is ∙ ap (λ b. written_of (take i ps) ++ cond b (peer_values (pair p) ∷ []) []) kept

pub skip-next : (ps : List PeerIndex) (i : ℕ) (p : PeerIndex) → i < length ps → p ≡ get_or ps i p → is_kept (pair p) ≡ false → written_of (take (i + 1) ps) ≡ written_of (take i ps)
unfolding one
skip-next ps i p lt is kept = written-next ps i p lt is ∙ ap (λ b. written_of (take i ps) ++ cond b (peer_values (pair p) ∷ []) []) kept ∙ append-nil (written_of (take i ps))

form-push : (vs : List (Values peer_table)) (v : Values peer_table) → list_form 5 (form peer_table) (vs ++ v ∷ []) ≡ list_form 5 (form peer_table) vs ++ bytes_field 5 (form peer_table v)
unfolding list_form
form-push vs v = flat_map-append (λ y. bytes_field 5 (form peer_table y)) vs (v ∷ []) ∙ ap (λ (l : List ℕ). list_form 5 (form peer_table) vs ++ l) (append-nil (bytes_field 5 (form peer_table v)))

abbrev IsFit : Values peer_table → Type 0
IsFit v = Fits peer_table v × IsShort (form peer_table v)

all-push : (vs : List (Values peer_table)) (v : Values peer_table) → AllByRecursion IsFit vs → IsFit v → AllByRecursion IsFit (vs ++ v ∷ [])
all-push [] v all here = (here, tt)
all-push (w ∷ vs) v all here = (all.0, all-push vs v all.1 here)

module _ (ps : List PeerIndex) (i : ℕ) (p : PeerIndex) (lt : i < length ps) (is : p ≡ get_or ps i p) where
  pub peer-more : {first so_far now : Writing} → is_kept (pair p) ≡ true → Adds first (list_form 5 (form peer_table) (written_of (take i ps))) so_far
      → Adds so_far (bytes_field 5 (form peer_table (peer_values (pair p)))) now → Adds first (list_form 5 (form peer_table) (written_of (take (i + 1) ps))) now
  peer-more {first} {so_far} {now} kept before after =
      subst (λ vs. Adds first vs now) (sym (ap (list_form 5 (form peer_table)) (kept-next ps i p lt is kept) ∙ form-push (written_of (take i ps)) (peer_values (pair p)))) (before then after)

  pub peer-skipped : {first now : Writing} → is_kept (pair p) ≡ false → Adds first (list_form 5 (form peer_table) (written_of (take i ps))) now → Adds first (list_form 5 (form peer_table) (written_of (take (i + 1) ps))) now
  peer-skipped {first} {now} kept before = subst (λ vs. Adds first (list_form 5 (form peer_table) vs) now) (sym (skip-next ps i p lt is kept)) before

  pub fit-more : is_kept (pair p) ≡ true → AllByRecursion IsFit (written_of (take i ps)) → IsFit (peer_values (pair p)) → AllByRecursion IsFit (written_of (take (i + 1) ps))
  fit-more kept all here = subst (AllByRecursion IsFit) (sym (kept-next ps i p lt is kept)) (all-push (written_of (take i ps)) (peer_values (pair p)) all here)

  pub fit-skipped : is_kept (pair p) ≡ false → AllByRecursion IsFit (written_of (take i ps)) → AllByRecursion IsFit (written_of (take (i + 1) ps))
  fit-skipped kept all = subst (AllByRecursion IsFit) (sym (skip-next ps i p lt is kept)) all
