-- Maps that are changed at one name after another.
use Rattle.std.proofs.Common.{◌≡◌, ℕ, Bool, true, false, cond, inl, inr, List, [], ◌∷◌, ◌++◌, refl, sym, ap, subst, ◌∙◌, Some, None, Option, Result, Ok, Err}
use Rattle.std.specs.Prelude.{bytes_eq, nat_eq, ◌&&◌, ◌||◌, IsSome, is_some, unwrap_or, MatchResult}
use Rattle.std.proofs.lemmas.Bool.{cases_Bool, false≢true, false_from_ne_true}
use Rattle.file_store.specs.declared.node.Node.{Node}
use Rattle.file_store.specs.declared.node.Node.TheVariants.{Directory}
use Rattle.file_store.specs.Contents.{overwritten}
use Rattle.file_store.specs.Maps.{put_at}
use Rattle.file_store.specs.Names.{Name, is_parent}
use Rattle.file_store.specs.Trees.{modified_at, node_modified, or_directory, with_parents}
use Rattle.file_store.proofs.BetweenLemmas.{same_bytes, same_name}
use Rattle.file_store.proofs.ParentLemmas.{parent_push, turned}

cond_twice : {X : Type 0} (b : Bool) (x y z : X) → cond b x (cond b y z) ≡ cond b x z
cond_twice true x y z = refl
cond_twice false x y z = refl

module _ {X : Type 0} (n : Name) where
  pub put_here : (x : Option X) (f : Name → Option X) → put_at n x f n ≡ x
  put_here x f = ap (λ b. cond b x (f n)) (same_bytes n)

  pub put_elsewhere : (x : Option X) (f : Name → Option X) (q : Name) → bytes_eq n q ≡ false → put_at n x f q ≡ f q
  put_elsewhere x f q e = ap (λ b. cond b x (f q)) e

  pub put_twice : (x y : Option X) (f : Name → Option X) → put_at n x (put_at n y f) ≡ put_at n x f
  put_twice x y f = λ t q. cond_twice (bytes_eq n q) x y (f q) t

  pub put_same : (x : Option X) (f : Name → Option X) → f n ≡ x → put_at n x f ≡ f
  put_same x f h = λ t q. at_each q t
    where
      at_each : (q : Name) → put_at n x f q ≡ f q
      at_each q = elim (cases_Bool (bytes_eq n q)) [
        | inl e ↦ ap (λ b. cond b x (f q)) e ∙ sym h ∙ ap f (same_name n q e)
        | inr e ↦ put_elsewhere x f q e
      ]

  -- what was put where nothing was, and is taken out
  pub put_undone : (f g h : Name → Option X) (y : Option X) → f n ≡ None → g ≡ put_at n y f → h ≡ put_at n None g → h ≡ f
  put_undone f g h y none e k = k ∙ ap (λ m. put_at n None m) e ∙ put_twice None y f ∙ put_same None f none

  pub replaced : (g h : Name → Option X) (v : X) → h ≡ cond (is_some (g n)) (put_at n (Some v) g) g → is_some (g n) ≡ true → h ≡ put_at n (Some v) g
  replaced g h v e there = e ∙ ap (λ b. cond b (put_at n (Some v) g) g) there

  -- a value that was put, and then another
  pub put_again : (f g h : Name → Option X) (y v : X) → g ≡ put_at n (Some y) f → h ≡ cond (is_some (g n)) (put_at n (Some v) g) g → h ≡ put_at n (Some v) f
  put_again f g h y v e k =
      replaced g h v k (ap is_some (ap (λ m. m n) e ∙ put_here (Some y) f)) ∙ ap (λ m. put_at n (Some v) m) e ∙ put_twice (Some v) (Some y) f

module _ {X : Type 0} (from to : Name) (f : Name → Option X) (free : f to ≡ None) (there : IsSome (f from)) where
  pub moved_apart : bytes_eq from to ≡ false
  moved_apart = false_from_ne_true _ (λ e. false≢true (sym (ap is_some free) ∙ subst (λ m. IsSome (f m)) (same_name from to e) there))

  turned_apart : bytes_eq to from ≡ false
  turned_apart = turned to from ∙ moved_apart

  swapped : (a b : Bool) (x y z : Option X) → cond a x (cond b None (cond a y z)) ≡ cond a x (cond b None z)
  swapped true b x y z = refl
  swapped false b x y z = refl

  -- nothing is lost on the way
  pub still_there : (g : Name → Option X) (y : X) → g ≡ put_at to (Some y) f → g from ≡ f from
  still_there g y e = ap (λ m. m from) e ∙ put_elsewhere to (Some y) f from turned_apart

  pub put_moved : (g h k : Name → Option X) (y v : X) → g ≡ put_at to (Some y) f → Some v ≡ g from → h ≡ put_at from None g
      → k ≡ cond (is_some (h to)) (put_at to (Some v) h) h → k ≡ put_at to (f from) (put_at from None f)
  put_moved g h k y v e is taken put =
      let h' = taken ∙ ap (λ m. put_at from None m) e in
      let some : is_some (h to) ≡ true = ap (λ m. is_some (m to)) h' ∙ ap is_some (put_elsewhere from None (put_at to (Some y) f) to moved_apart) ∙ ap is_some (put_here to (Some y) f) in
      replaced to h k v put some ∙ ap (λ m. put_at to (Some v) m) h' ∙ ap (λ o. put_at to o (put_at from None (put_at to (Some y) f))) (is ∙ still_there g y e)
      ∙ (λ t q. swapped (bytes_eq to q) (bytes_eq from q) (f from) (Some y) (f q) t)

-- the parents of a name with a slash after it are the name and its parents
pub made_dir : (n below : Name) (f : Name → Option Node) → below ≡ n ++ 47 ∷ [] → f n ≡ None → with_parents below f ≡ put_at n (Some Directory) (with_parents n f)
made_dir n below f is none = λ t q. at_each q t
  where
    go : (a b c : Bool) (o : Option Node) → c ≡ (a || (b && true)) → (b ≡ true → o ≡ None) → cond c (or_directory o) o ≡ cond b (Some Directory) (cond a (or_directory o) o)
    go a true c o e h = ap (λ m. cond c (or_directory m) m) (h refl) ∙ ap (λ m. cond m (Some Directory) None) (e ∙ yes' a)
      where
        yes' : (a : Bool) → (a || true) ≡ true
        yes' true = refl
        yes' false = refl
    go a false c o e h = ap (λ m. cond m (or_directory o) o) (e ∙ no' a)
      where
        no' : (a : Bool) → (a || false) ≡ a
        no' true = refl
        no' false = refl

    at_each : (q : Name) → with_parents below f q ≡ put_at n (Some Directory) (with_parents n f) q
    at_each q = go (is_parent q n) (bytes_eq n q) (is_parent q below) (f q)
        (ap (is_parent q) is ∙ parent_push q n 47 ∙ ap (λ b. is_parent q n || (b && nat_eq 47 47)) (turned q n))
        (λ e. ap f (sym (same_name n q e)) ∙ none)

pub made_dir_or_not : {Y : Type 0} (n below : Name) (f h : Name → Option Node) (r : Result (Unit {0}) Y) → below ≡ n ++ 47 ∷ [] → f n ≡ None
    → MatchResult r (λ _. h ≡ with_parents below f) (λ _. h ≡ f) → MatchResult r (λ _. h ≡ put_at n (Some Directory) (with_parents n f)) (λ _. h ≡ f)
made_dir_or_not n below f h (Ok u) is none e = e ∙ made_dir n below f is none
made_dir_or_not n below f h (Err x) is none e = e

-- a content that is written in its place
pub put_written : {Y : Type 0} (n : Name) (f h : Name → Option (List ℕ)) (old w piece : List ℕ) (offset : ℕ) (r : Result (Unit {0}) Y) → MatchResult r (λ _. w ≡ overwritten old offset piece) (λ _. w ≡ old)
    → h ≡ put_at n (Some w) f → f n ≡ Some old
    → MatchResult r (λ _. h ≡ put_at n (Some (overwritten (unwrap_or (f n) []) offset piece)) f) (λ _. h ≡ f)
put_written n f h old w piece offset (Ok u) is put there =
    put ∙ ap (λ m. put_at n (Some m) f) (is ∙ ap (λ o. overwritten (unwrap_or o []) offset piece) (sym there))
put_written n f h old w piece offset (Err e) is put there =
    put ∙ ap (λ m. put_at n (Some m) f) is ∙ put_same n (Some old) f there

-- a node that is changed in its place
pub put_modified : (n : Name) (moment : ℕ) (f h : Name → Option Node) (old new : Node) → Some new ≡ node_modified moment (Some old) → h ≡ put_at n (Some new) f → f n ≡ Some old
    → h ≡ modified_at n moment f
put_modified n moment f h old new is put there = put ∙ (λ t q. at_each q t)
  where
    there_at : (q : Name) → bytes_eq n q ≡ true → Some new ≡ node_modified moment (f q)
    there_at q e = is ∙ sym (ap (node_modified moment) there) ∙ ap (λ m. node_modified moment (f m)) (same_name n q e)

    at_each : (q : Name) → put_at n (Some new) f q ≡ modified_at n moment f q
    at_each q = elim (cases_Bool (bytes_eq n q)) [
      | inl e ↦ ap (λ b. cond b (Some new) (f q)) e ∙ there_at q e ∙ sym (ap (λ b. cond b (node_modified moment (f q)) (f q)) e)
      | inr e ↦ ap (λ b. cond b (Some new) (f q)) e ∙ sym (ap (λ b. cond b (node_modified moment (f q)) (f q)) e)
    ]
