-- How many commits are open.
use Rattle.std.proofs.Common.{◌≡◌, ℕ, ◌+◌, ◌≤◌, Bool, true, false, List, [], ◌∷◌, refl, sym, ap, ◌∙◌, arith}
use Rattle.std.specs.Prelude.{cond, not, count_by, length, Some, None}
use Rattle.std.specs.Ordering.{eq_by_cmp}
use Rattle.std.specs.declared.cmp.Ordering.{Ordering}
use Rattle.std.specs.declared.cmp.Ordering.TheVariants.{Less, Equal, Greater}
use Rattle.std.specs.FinMap.{find, put, get, get-entries, insert, remove, entries, entries-insert}
use Rattle.std.specs.FinMap.Entries.{where_key, by_order}
use Rattle.std.proofs.lemmas.List.Sums.{sum_by-cons}
use Rattle.sync_record.specs.Devices.{bytes_cmp}
use Rattle.sync_record.specs.Records.{Name}
use Rattle.folder_core.specs.States.{FolderState, Pull, is_committing, open_commits}
use Rattle.folder_core.proofs.Orders.{bytes_total, exact_names, entries-remove}
use Rattle.folder_core.proofs.ListTests.{inside}

-- counts of entries by their values
abbrev one : {X : Type 0} → (X → Bool) → X → ℕ
one f x = cond (f x) 1 0

module _ {K X : Type 0} (f : X → Bool) where
  abbrev counted : List (K × X) → ℕ
  counted es = count_by (λ e. f e.1) es

  counted-cons : (e : K × X) (es : List (K × X)) → counted (e ∷ es) ≡ one f e.1 + counted es
  counted-cons e es = sum_by-cons (λ (x : K × X). cond (f x.1) 1 0) e es

module _ {K X : Type 0} (R : K → K → Ordering) (f : X → Bool) where
  -- an entry that is put adds itself at most
  counted-put : (k : K) (v : X) (es : List (K × X)) → counted f (put R k v es) ≤ counted f es + one f v
  counted-put k v [] = let e = counted-cons f (k, v) [] in omega arith
  counted-put k v (e ∷ es) =
      elim (R k e.0) as (λ r. counted f (by_order r ((k, v) ∷ e ∷ es) ((e.0, v) ∷ es) (e ∷ put R k v es)) ≤ counted f (e ∷ es) + one f v) [
        | Less ↦ let a = counted-cons f (k, v) (e ∷ es) in omega arith
        | Equal ↦ let a = counted-cons f (e.0, v) es in let b = counted-cons f e es in omega arith
        | Greater ↦ let a = counted-cons f e (put R k v es) in let b = counted-cons f e es in let c = counted-put k v es in omega arith
      ]

  -- entries that are left out don't add
  counted-where : (p : K → Bool) (es : List (K × X)) → counted f (where_key R p es) ≤ counted f es
  counted-where p [] = omega arith
  counted-where p (e ∷ es) =
      let b = counted-cons f e es in
      let c = counted-where p es in
      elim (p e.0) as (λ t. counted f (cond t (e ∷ where_key R p es) (where_key R p es)) ≤ counted f (e ∷ es)) [
        | true ↦ let a = counted-cons f e (where_key R p es) in omega arith
        | false ↦ omega arith
      ]

  -- one that counts and is left out counts no more
  counted-without : (k : K) (v : X) (es : List (K × X)) → find R k es ≡ Some v → f v ≡ true → counted f (where_key R (λ x. not (eq_by_cmp R k x)) es) + 1 ≤ counted f es
  counted-without k v [] found counts = let e : None ≡ Some v = found in cc
  counted-without k v (e ∷ es) found counts =
      let b = counted-cons f e es in
      elim (eq_by_cmp R k e.0) as (λ t. cond t (Some e.1) (find R k es) ≡ Some v → counted f (cond (not t) (e ∷ where_key R (λ x. not (eq_by_cmp R k x)) es) (where_key R (λ x. not (eq_by_cmp R k x)) es)) + 1 ≤ counted f (e ∷ es)) [
        | true ↦ λ is.
            let here : one f e.1 ≡ 1 = ap (λ x. cond x 1 0) (ap f (inside e.1 v is) ∙ counts) in
            let c = counted-where (λ x. not (eq_by_cmp R k x)) es in
            omega arith
        | false ↦ λ is.
            let a = counted-cons f e (where_key R (λ x. not (eq_by_cmp R k x)) es) in
            let c = counted-without k v es is counts in
            omega arith
      ] found

-- how many commits are open after a pull was put, or taken away
pub commits-put : (s : FolderState) (n : Name) (p : Pull) → open_commits (record s { pulls = insert s.pulls n p }) ≤ open_commits s + cond (is_committing p) 1 0
commits-put s n p =
    let e : open_commits (record s { pulls = insert s.pulls n p }) ≡ counted is_committing (put bytes_cmp n p (entries s.pulls)) = ap (counted is_committing) (entries-insert bytes_total s.pulls n p) in
    let c = counted-put bytes_cmp is_committing n p (entries s.pulls) in
    omega arith

pub commits-remove : (s : FolderState) (n : Name) → open_commits (record s { pulls = remove s.pulls n }) ≤ open_commits s
commits-remove s n =
    let e : open_commits (record s { pulls = remove s.pulls n }) ≡ counted is_committing (where_key bytes_cmp (λ x. not (eq_by_cmp bytes_cmp n x)) (entries s.pulls)) = ap (counted is_committing) (entries-remove bytes_total exact_names s.pulls n) in
    let c = counted-where bytes_cmp is_committing (λ x. not (eq_by_cmp bytes_cmp n x)) (entries s.pulls) in
    omega arith

pub commits-finish : (s : FolderState) (n : Name) (p : Pull) → get s.pulls n ≡ Some p → is_committing p ≡ true → open_commits (record s { pulls = remove s.pulls n }) + 1 ≤ open_commits s
commits-finish s n p g c =
    let e : open_commits (record s { pulls = remove s.pulls n }) ≡ counted is_committing (where_key bytes_cmp (λ x. not (eq_by_cmp bytes_cmp n x)) (entries s.pulls)) = ap (counted is_committing) (entries-remove bytes_total exact_names s.pulls n) in
    let d = counted-without bytes_cmp is_committing n p (entries s.pulls) (sym (get-entries s.pulls n) ∙ g) c in
    omega arith

pub none_counted : (es : List (Name × Pull)) → length es ≡ 0 → counted is_committing es ≡ 0
none_counted [] e = refl
none_counted (x ∷ es) e = absurd (omega arith)
