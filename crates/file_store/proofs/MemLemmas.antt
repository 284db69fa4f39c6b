-- The maps of a store in memory after a change, and what it answers.
use Rattle.std.proofs.Common.{◌≡◌, ℕ, ◌⊎◌, true, false, inl, inr, List, [], refl, sym, ap, subst, ◌∙◌, Some, None, Option, Result, Ok, Err}
use Rattle.std.specs.Prelude.{IsSome, IsNone, is_some, MatchResult, MatchOption, unwrap_or}
use Rattle.std.proofs.lemmas.Bool.{both_ways, false≢true}
use Rattle.file_store.specs.declared.node.Node.{Node}
use Rattle.file_store.specs.declared.node.Node.TheVariants.{Directory}
use Rattle.file_store.specs.declared.refusal.StoreRefusal.{StoreRefusal}
use Rattle.file_store.specs.declared.refusal.StoreRefusal.TheVariants.{StoreFault, OutOfMemory}
use Rattle.file_store.specs.Calls.{Answers, HasBadParent, IsAllowed, MakeTempRefused, WriteRefused, CommitRefused, RenameRefused}
use Rattle.file_store.specs.Contents.{overwritten}
use Rattle.file_store.specs.Maps.{put_at}
use Rattle.file_store.specs.Names.{Name, is_parent}
use Rattle.file_store.specs.Trees.{Tree, IsTree, is_directory, is_file, tree_of}
use Rattle.file_store.proofs.TreeLemmas.{temp_written_tree}

pub same_tree : (F F' : Name → Option Node) (S S' : Name → Option (List ℕ)) → F' ≡ F → S' ≡ S → tree_of F' S' ≡ tree_of F S
same_tree F F' S S' e d = λ t. tree_of (e t) (d t)

pub still_tree : (F F' : Name → Option Node) (S S' : Name → Option (List ℕ)) → F' ≡ F → S' ≡ S → IsTree (tree_of F S) → IsTree (tree_of F' S')
still_tree F F' S S' e d k = subst IsTree (sym (same_tree F F' S S' e d)) k

-- after a change of both maps, or none
pub changed_tree : {Y : Type 0} (r : Result (Unit {0}) Y) (F F1 F' : Name → Option Node) (S S1 S' : Name → Option (List ℕ)) → MatchResult r (λ _. F' ≡ F1) (λ _. F' ≡ F) → MatchResult r (λ _. S' ≡ S1) (λ _. S' ≡ S)
    → IsTree (tree_of F1 S1) → IsTree (tree_of F S) → IsTree (tree_of F' S')
changed_tree (Ok u) F F1 F' S S1 S' e d k l = still_tree F1 F' S1 S' e d k
changed_tree (Err x) F F1 F' S S1 S' e d k l = still_tree F F' S S' e d l

-- of the names alone
pub renewed_tree : {Y : Type 0} (r : Result (Unit {0}) Y) (F F1 F' : Name → Option Node) (S : Name → Option (List ℕ)) → MatchResult r (λ _. F' ≡ F1) (λ _. F' ≡ F)
    → IsTree (tree_of F1 S) → IsTree (tree_of F S) → IsTree (tree_of F' S)
renewed_tree (Ok u) F F1 F' S e k l = still_tree F1 F' S S e refl k
renewed_tree (Err x) F F1 F' S e k l = still_tree F F' S S e refl l

-- of a temporary file that may be there
pub written_tree : {Y : Type 0} (r : Option (Result (Unit {0}) Y)) (F : Name → Option Node) (S S' : Name → Option (List ℕ)) (n : Name) (offset : ℕ) (piece : List ℕ)
    → MatchOption r (S n ≡ None) (λ _. IsSome (S n))
    → MatchOption r (S' ≡ S) (λ w. MatchResult w (λ _. S' ≡ put_at n (Some (overwritten (unwrap_or (S n) []) offset piece)) S) (λ _. S' ≡ S))
    → IsTree (tree_of F S) → IsTree (tree_of F S')
written_tree None F S S' n offset piece there e k = still_tree F F S S' refl e k
written_tree (Some (Ok u)) F S S' n offset piece there e k =
    still_tree F F (put_at n (Some (overwritten (unwrap_or (S n) []) offset piece)) S) S' refl e (temp_written_tree F S k n (overwritten (unwrap_or (S n) []) offset piece) there)
written_tree (Some (Err x)) F S S' n offset piece there e k = still_tree F F S S' refl e k

-- a call that ran out of memory
pub ran_out : (fails partly : Type 0) (refused : StoreRefusal → Type 0) (old done new : Tree) (r : Result (Unit {0}) StoreRefusal) → r ≡ Err OutOfMemory → refused OutOfMemory → new ≡ old
    → Answers fails partly refused old done r new
ran_out fails partly refused old done new r is may same = subst (λ a. Answers fails partly refused old done a new) (sym is) (inl (may, same))

pub not_none : {X : Type 0} (o : Option X) → IsSome o → IsNone o → ⊥
not_none None h k = false≢true h
not_none (Some x) h k = both_ways true k h

pub none_is : {X : Type 0} (o : Option X) → o ≡ None → IsNone o
none_is o e = ap is_some e

pub rename_allowed : (t : Tree) (from to : Name) → is_file (t.names from) ≡ true → t.names to ≡ None → ((p : Name) → is_parent p to ≡ true → t.names p ≡ Some Directory) → IsAllowed (RenameRefused t from to)
rename_allowed t from to file none there = record {
  fault = λ h. elim h.1 [
    | inl no' ↦ both_ways true (sym file ∙ no') refl
    | inr (inl some) ↦ not_none (t.names to) some (none_is _ none)
    | inr (inr missing) ↦ not_none (t.names missing.0) (ap is_some (there missing.0 missing.1)) missing.2
  ];
  empty = λ h. h;
  parents = λ h. both_ways true (sym h.2 ∙ ap is_file (there h.0 h.1)) refl;
}

-- what does not fit a rename
pub rename_faults : (t : Tree) (from to : Name) → ((p : Name) → is_parent p to ≡ true → is_file (t.names p) ≡ false)
    → (is_file (t.names from) ≡ false) ⊎ IsSome (t.names to) ⊎ ((p : Name) × (is_parent p to ≡ true) × (t.names p ≡ None)) → RenameRefused t from to StoreFault
rename_faults t from to free h = (
  λ bad. both_ways true (sym bad.2 ∙ free bad.0 bad.1) refl,
  elim h [ inl a ↦ inl a | inr (inl b) ↦ inr (inl b) | inr (inr m) ↦ inr (inr (m.0, m.1, none_is _ m.2)) ],
)

no_bad_parent : (t : Tree) (n : Name) → ((p : Name) → is_parent p n ≡ true → is_file (t.names p) ≡ false) → ¬ (HasBadParent t n)
no_bad_parent t n free bad = both_ways true (sym bad.2 ∙ free bad.0 bad.1) refl

pub make_temp_allowed : (t : Tree) (n : Name) → ((p : Name) → is_parent p n ≡ true → is_file (t.names p) ≡ false) → IsAllowed (MakeTempRefused t n)
make_temp_allowed t n free = record { fault = λ h. h; empty = λ h. h; parents = no_bad_parent t n free }

pub write_allowed : (t : Tree) (n : Name) → IsSome (t.temps n) → IsAllowed (WriteRefused t n)
write_allowed t n there = record { fault = not_none (t.temps n) there; empty = λ h. h; parents = λ h. h }

pub commit_allowed : (t : Tree) (n : Name) → IsSome (t.temps n) → is_directory (t.names n) ≡ false → IsAllowed (CommitRefused t n)
commit_allowed t n there no' = record {
  fault = λ h. elim h [ inl none ↦ not_none (t.temps n) there none | inr dir ↦ false≢true (sym no' ∙ dir) ];
  empty = λ h. h;
  parents = λ h. h;
}
