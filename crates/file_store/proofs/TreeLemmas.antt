-- Trees stay trees.
use Rattle.std.proofs.Common.{◌≡◌, ℕ, Bool, true, false, cond, inl, inr, List, [], refl, sym, ap, subst, ◌∙◌, Some, None, Option}
use Rattle.std.specs.Prelude.{bytes_eq, IsSome, is_some}
use Rattle.std.proofs.lemmas.Bool.{both_ways, cases_Bool, false≢true}
use Rattle.file_store.specs.declared.node.Node.{Node}
use Rattle.file_store.specs.declared.node.Node.TheVariants.{Directory, File}
use Rattle.file_store.specs.Maps.{put_at}
use Rattle.file_store.specs.Names.{Name, is_parent}
use Rattle.file_store.specs.Trees.{AreGrounded, IsTree, tree_of, is_file, is_directory, modified_at, node_modified, or_directory, with_parents}
use Rattle.file_store.proofs.BetweenLemmas.{same_name, parent_trans}
use Rattle.file_store.proofs.PutLemmas.{put_elsewhere}

-- no parent of the name is a file
abbrev pub IsFree : (Name → Option Node) → Name → Type 0
IsFree F n = (p : Name) → is_parent p n ≡ true → is_file (F p) ≡ false

module _ (F : Name → Option Node) where
  made_parent : (n p : Name) → IsFree F n → is_parent p n ≡ true → with_parents n F p ≡ Some Directory
  made_parent n p free e = ap (λ b. cond b (or_directory (F p)) (F p)) e ∙ go (F p) (free p e)
    where
      go : (o : Option Node) → is_file o ≡ false → or_directory o ≡ Some Directory
      go None h = refl
      go (Some Directory) h = refl
      go (Some (File b m)) h = absurd (both_ways true h refl)

  kept_parent : (n p : Name) → F p ≡ Some Directory → with_parents n F p ≡ Some Directory
  kept_parent n p is = go (is_parent p n) (F p) is
    where
      go : (b : Bool) (o : Option Node) → o ≡ Some Directory → cond b (or_directory o) o ≡ Some Directory
      go true o e = ap or_directory e
      go false o e = e

  module _ {X : Type 0} (f : Name → Option X) where
    pub grounded_put : (n : Name) (x : Option X) → AreGrounded F f → ((p : Name) → is_parent p n ≡ true → F p ≡ Some Directory) → AreGrounded F (put_at n x f)
    grounded_put n x g at p q h some = elim (cases_Bool (bytes_eq n q)) [
      | inl e ↦ at p (subst (λ m. is_parent p m ≡ true) (sym (same_name n q e)) h)
      | inr e ↦ g p q h (subst IsSome (put_elsewhere n x f q e) some)
    ]

    pub grounded_less : (n : Name) → AreGrounded F f → AreGrounded F (put_at n None f)
    grounded_less n g p q h some = elim (cases_Bool (bytes_eq n q)) [
      | inl e ↦ absurd (false≢true (subst IsSome (ap (λ b. cond b None (f q)) e) some))
      | inr e ↦ g p q h (subst IsSome (put_elsewhere n None f q e) some)
    ]

  -- a directory stays where what changes is none
  base_value : (n p : Name) (x : Option Node) → is_directory (F n) ≡ false → F p ≡ Some Directory → put_at n x F p ≡ Some Directory
  base_value n p x no' is = elim (cases_Bool (bytes_eq n p)) [
    | inl e ↦ absurd (both_ways true (sym (ap is_directory is) ∙ ap (λ m. is_directory (F m)) (sym (same_name n p e)) ∙ no') refl)
    | inr e ↦ put_elsewhere n x F p e ∙ is
  ]

  pub grounded_base : {X : Type 0} (f : Name → Option X) (n : Name) (x : Option Node) → is_directory (F n) ≡ false → AreGrounded F f → AreGrounded (put_at n x F) f
  grounded_base f n x no' g p q h some = base_value n p x no' (g p q h some)

  pub grounded_parents : (n : Name) → IsFree F n → AreGrounded F F → AreGrounded (with_parents n F) (with_parents n F)
  grounded_parents n free g p q h some = elim (cases_Bool (is_parent q n)) [
    | inl e ↦ made_parent n p free (parent_trans p q n h e)
    | inr e ↦ kept_parent n p (g p q h (subst IsSome (ap (λ b. cond b (or_directory (F q)) (F q)) e) some))
  ]

  -- with another node at a name that is no directory, and whose parents are directories
  placed : (n : Name) (x : Option Node) → is_directory (F n) ≡ false → ((p : Name) → is_parent p n ≡ true → F p ≡ Some Directory) → AreGrounded F F → AreGrounded (put_at n x F) (put_at n x F)
  placed n x no' at g p q h some = elim (cases_Bool (bytes_eq n q)) [
    | inl e ↦ base_value n p x no' (at p (subst (λ m. is_parent p m ≡ true) (sym (same_name n q e)) h))
    | inr e ↦ base_value n p x no' (g p q h (subst IsSome (put_elsewhere n x F q e) some))
  ]

  taken : (n : Name) → is_directory (F n) ≡ false → AreGrounded F F → AreGrounded (put_at n None F) (put_at n None F)
  taken n no' g p q h some = elim (cases_Bool (bytes_eq n q)) [
    | inl e ↦ absurd (false≢true (subst IsSome (ap (λ b. cond b None (F q)) e) some))
    | inr e ↦ base_value n p None no' (g p q h (subst IsSome (put_elsewhere n None F q e) some))
  ]

  file_is_none : (o : Option Node) → is_file o ≡ true → is_directory o ≡ false
  file_is_none None h = refl
  file_is_none (Some Directory) h = absurd (false≢true h)
  file_is_none (Some (File b m)) h = refl

  module _ (S : Name → Option (List ℕ)) (k : IsTree (tree_of F S)) (n : Name) where
    pub temp_made_tree : IsFree F n → IsTree (tree_of (with_parents n F) (put_at n (Some []) S))
    temp_made_tree free = record {
      names = grounded_parents n free k.names;
      temps = λ p q h some. elim (cases_Bool (bytes_eq n q)) [
        | inl e ↦ made_parent n p free (subst (λ m. is_parent p m ≡ true) (sym (same_name n q e)) h)
        | inr e ↦ kept_parent n p (k.temps p q h (subst IsSome (put_elsewhere n (Some []) S q e) some))
      ];
    }

    pub temp_written_tree : (w : List ℕ) → IsSome (S n) → IsTree (tree_of F (put_at n (Some w) S))
    temp_written_tree w there = record { names = k.names; temps = grounded_put S n (Some w) k.temps (λ p h. k.temps p n h there) }

    pub temp_dropped_tree : IsTree (tree_of F (put_at n None S))
    temp_dropped_tree = record { names = k.names; temps = grounded_less S n k.temps }

    pub committed_tree : (x : Option Node) → IsSome (S n) → is_directory (F n) ≡ false → IsTree (tree_of (put_at n x F) (put_at n None S))
    committed_tree x there no' = record {
      names = placed n x no' (λ p h. k.temps p n h there) k.names;
      temps = λ p q h some. elim (cases_Bool (bytes_eq n q)) [
        | inl e ↦ absurd (false≢true (subst IsSome (ap (λ b. cond b None (S q)) e) some))
        | inr e ↦ base_value n p x no' (k.temps p q h (subst IsSome (put_elsewhere n None S q e) some))
      ];
    }

    pub removed_tree : is_file (F n) ≡ true → IsTree (tree_of (put_at n None F) S)
    removed_tree file = record {
      names = taken n (file_is_none (F n) file) k.names;
      temps = grounded_base S n None (file_is_none (F n) file) k.temps;
    }

    pub modified_tree : (moment : ℕ) → IsTree (tree_of (modified_at n moment F) S)
    modified_tree moment = record { names = λ p q h some. still p (k.names p q h (was q some)); temps = λ p q h some. still p (k.temps p q h some) }
      where
        still_is : (b : Bool) (o : Option Node) → o ≡ Some Directory → cond b (node_modified moment o) o ≡ Some Directory
        still_is true o e = ap (node_modified moment) e
        still_is false o e = e

        still : (p : Name) → F p ≡ Some Directory → modified_at n moment F p ≡ Some Directory
        still p e = still_is (bytes_eq n p) (F p) e

        was_some : (b : Bool) (o : Option Node) → IsSome (cond b (node_modified moment o) o) → IsSome o
        was_some true None h = h
        was_some true (Some Directory) h = h
        was_some true (Some (File b m)) h = h
        was_some false o h = h

        was : (q : Name) → IsSome (modified_at n moment F q) → IsSome (F q)
        was q some = was_some (bytes_eq n q) (F q) some

    pub dir_made_tree : IsFree F n → F n ≡ None → IsTree (tree_of (put_at n (Some Directory) (with_parents n F)) S)
    dir_made_tree free none = record {
      names = λ p q h some. elim (cases_Bool (bytes_eq n q)) [
        | inl e ↦ over p (made_parent n p free (subst (λ m. is_parent p m ≡ true) (sym (same_name n q e)) h))
        | inr e ↦ over p (grounded_parents n free k.names p q h (subst IsSome (put_elsewhere n (Some Directory) (with_parents n F) q e) some))
      ];
      temps = λ p q h some. over p (kept_parent n p (k.temps p q h some));
    }
      where
        over : (p : Name) → with_parents n F p ≡ Some Directory → put_at n (Some Directory) (with_parents n F) p ≡ Some Directory
        over p is = elim (bytes_eq n p) as (λ b. cond b (Some Directory) (with_parents n F p) ≡ Some Directory) [ true ↦ refl | false ↦ is ]

    -- a directory in which nothing is
    pub dir_removed_tree : ((q : Name) → is_parent n q ≡ true → F q ≡ None) → ((q : Name) → is_parent n q ≡ true → S q ≡ None) → IsTree (tree_of (put_at n None F) S)
    dir_removed_tree none no_temp = record {
      names = λ p q h some.
          let some' = in_less q some in
          stays p (k.names p q h some') (λ e. false≢true (subst IsSome (none q (subst (λ m. is_parent m q ≡ true) (sym (same_name n p e)) h)) some'));
      temps = λ p q h some.
          stays p (k.temps p q h some) (λ e. false≢true (subst IsSome (no_temp q (subst (λ m. is_parent m q ≡ true) (sym (same_name n p e)) h)) some));
    }
      where
        in_less : (q : Name) → IsSome (put_at n None F q) → IsSome (F q)
        in_less q some = elim (cases_Bool (bytes_eq n q)) [
          | inl e ↦ absurd (false≢true (subst IsSome (ap (λ b. cond b None (F q)) e) some))
          | inr e ↦ subst IsSome (put_elsewhere n None F q e) some
        ]

        stays : (p : Name) → F p ≡ Some Directory → (bytes_eq n p ≡ true → ⊥) → put_at n None F p ≡ Some Directory
        stays p is apart = elim (cases_Bool (bytes_eq n p)) [
          | inl e ↦ absurd (apart e)
          | inr e ↦ put_elsewhere n None F p e ∙ is
        ]

    pub renamed_tree : (to : Name) → is_file (F n) ≡ true → F to ≡ None → ((p : Name) → is_parent p to ≡ true → F p ≡ Some Directory)
        → IsTree (tree_of (put_at to (F n) (put_at n None F)) S)
    renamed_tree to file free at = record {
      names = λ p q h some. elim (cases_Bool (bytes_eq to q)) [
        | inl e ↦ over p (at p (subst (λ m. is_parent p m ≡ true) (sym (same_name to q e)) h))
        | inr e ↦ over p (k.names p q h (in_less q (subst IsSome (put_elsewhere to (F n) (put_at n None F) q e) some)))
      ];
      temps = λ p q h some. over p (k.temps p q h some);
    }
      where
        in_less : (q : Name) → IsSome (put_at n None F q) → IsSome (F q)
        in_less q some = elim (cases_Bool (bytes_eq n q)) [
          | inl e ↦ absurd (false≢true (subst IsSome (ap (λ b. cond b None (F q)) e) some))
          | inr e ↦ subst IsSome (put_elsewhere n None F q e) some
        ]

        over : (p : Name) → F p ≡ Some Directory → put_at to (F n) (put_at n None F) p ≡ Some Directory
        over p is =
            let first = base_value n p None (file_is_none (F n) file) is in
            elim (cases_Bool (bytes_eq to p)) [
              | inl e ↦ absurd (false≢true (sym (ap is_some free) ∙ ap (λ m. is_some (F m)) (same_name to p e) ∙ ap is_some is))
              | inr e ↦ put_elsewhere to (F n) (put_at n None F) p e ∙ first
            ]
