-- Names that are chosen one after another.
use Rattle.std.proofs.Common.{◌≡◌, ◌∙◌, ◌++◌, ◌∷◌, ◌+◌, ◌<◌, ◌≤◌, ℕ, suc, Bool, List, [], Option, add-one, append_assoc, ap, drop, drop-cons, drop_of_length-le, get_or, length, refl, subst, sym}
use Rattle.std.proofs.lemmas.List.{append-nil}
use Rattle.folder_calls.specs.Shared.{CallerView}
use Rattle.node_need.specs.declared.retries.Retry.{Retry}
use Rattle.node_need.specs.declared.wanted.Wanted.{Wanted}
use Rattle.sync_record.specs.Devices.{Identity}
use Rattle.node_need.specs.Retries.{Name}
use Rattle.node_need.specs.Orders.{Chooses, ChoosesAll, listed}

-- after what was tried so far, what is tried of the names that are left makes what is tried of all
pub record GoesOn (up : List Identity) (is_later : Bool) (all : List Name) (v : CallerView) (r : Name → Option Retry) (left : List Name) (so_far : List Wanted) (now : CallerView) (kept : Name → Option Retry) : Type 0 where
  pub by : (ws : List Wanted) (new : CallerView) (last : Name → Option Retry) → ChoosesAll up is_later now kept left ws new last → ChoosesAll up is_later v r all (so_far ++ ws) new last

module _ (up : List Identity) (is_later : Bool) (all : List Name) (v : CallerView) (r : Name → Option Retry) where
  pub goes_begin : (so_far : List Wanted) → so_far ≡ [] → GoesOn up is_later all v r all so_far v r
  goes_begin so_far e = record { by = λ ws new last h. subst (λ (xs : List Wanted). ChoosesAll up is_later v r all (xs ++ ws) new last) (sym e) h }

  pub goes_next : (i : ℕ) (n : Name) → i < length all → n ≡ get_or all i n → (so_far : List Wanted) (now : CallerView) (kept : Name → Option Retry)
      → GoesOn up is_later all v r (drop i all) so_far now kept
      → (one : Option Wanted) (point : CallerView) (before : Name → Option Retry) → Chooses up is_later now kept n one point before
      → (more : List Wanted) → more ≡ so_far ++ listed one
      → GoesOn up is_later all v r (drop (i + 1) all) more point before
  goes_next i n lt is so_far now kept on one point before c more m = record {
    by = λ ws new last h.
        let step : drop i all ≡ n ∷ drop (i + 1) all = rw add-one (drop-cons all i n lt ∙ ap (λ (x : Name). x ∷ drop (suc i) all) (sym is)) in
        let joined : so_far ++ (listed one ++ ws) ≡ more ++ ws = sym (append_assoc so_far (listed one) ws) ∙ ap (λ (xs : List Wanted). xs ++ ws) (sym m) in
        subst (λ (xs : List Wanted). ChoosesAll up is_later v r all xs new last) joined
        (on.by (listed one ++ ws) new last (subst (λ (ns : List Name). ChoosesAll up is_later now kept ns (listed one ++ ws) new last) (sym step) (one, point, before, c, (ws, refl, h))));
  }

  pub goes_end : (i : ℕ) → length all ≤ i → (so_far : List Wanted) (now : CallerView) (kept : Name → Option Retry)
      → GoesOn up is_later all v r (drop i all) so_far now kept → ChoosesAll up is_later v r all so_far now kept
  goes_end i le so_far now kept on =
      subst (λ (xs : List Wanted). ChoosesAll up is_later v r all xs now kept) (append-nil so_far)
      (on.by [] now kept (subst (λ (ns : List Name). ChoosesAll up is_later now kept ns [] now kept) (sym (drop_of_length-le all le)) (refl, refl, refl)))
