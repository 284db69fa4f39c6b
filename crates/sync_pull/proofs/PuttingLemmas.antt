-- What each call of a store changes, and what it puts in place.
use Rattle.std.proofs.Common.{◌≡◌, ℕ, Bool, true, false, cond, inl, inr, [], ◌∷◌, ◌&&◌, Option, Some, None, Result, Ok, Err, refl, sym, ap, subst, ◌∙◌}
use Rattle.std.specs.Prelude.{bytes_eq, ◌==◌, unwrap_or}
use Rattle.std.proofs.lemmas.Slice.Eq.{bytes_eq-Decides}
use Rattle.file_store.specs.declared.node.Node.{Node}
use Rattle.file_store.specs.declared.node.Node.TheVariants.{Directory, File}
use Rattle.file_store.specs.declared.refusal.StoreRefusal.{StoreRefusal}
use Rattle.file_store.specs.Calls.{Answers, IsWhole, Commits, CommitRefused, MakesDir, MakesSome, MakeDirRefused, MakesTemp, MakeTempRefused, ChangesTempAndParents, Removes, RemoveRefused, RemovesDir, RemoveDirRefused, ChangesTemp, committed, dir_made, removed, temp_made}
use Rattle.file_store.specs.Maps.{put_at}
use Rattle.file_store.specs.Names.{Name, is_parent}
use Rattle.file_store.specs.Trees.{Tree, or_directory, with_parents}
use Rattle.sync_pull.specs.Putting.{ChangesNameAlone, IsGone, IsKeptOrMade, WritesTempAlone}

pub here : {X : Type 0} (n : Name) (x : Option X) (f : Name → Option X) → put_at n x f n ≡ x
here n x f = ap (λ b. cond b x (f n)) ((bytes_eq-Decides n n).1 refl)

pub elsewhere : {X : Type 0} (n : Name) (x : Option X) (f : Name → Option X) (q : Name) → bytes_eq n q ≡ false → put_at n x f q ≡ f q
elsewhere n x f q e = ap (λ b. cond b x (f q)) e

-- ---- nothing else changes

pub alone-itself : (n : Name) (t : Tree) → ChangesNameAlone n t t
alone-itself n t = record { names = λ q e. inl refl; temps = λ q e. refl }

pub some-none : (x : Node) → Some x ≡ None → ⊥
some-none x e = cc

pub kept-then : (n q : Name) (a b c : Option Node) → IsKeptOrMade n q a b → IsKeptOrMade n q b c → IsKeptOrMade n q a c
kept-then n q a b c (inl e) (inl f) = inl (f ∙ e)
kept-then n q a b c (inl e) (inr f) = inr (f.0, sym e ∙ f.1, f.2)
kept-then n q a b c (inr e) (inl f) = inr (e.0, e.1, f ∙ e.2)
kept-then n q a b c (inr e) (inr f) = absurd (some-none Directory (sym e.2 ∙ f.1))

pub alone-together : (n : Name) (a b c : Tree) → ChangesNameAlone n a b → ChangesNameAlone n b c → ChangesNameAlone n a c
alone-together n a b c x y = record {
  names = λ q e. kept-then n q (a.names q) (b.names q) (c.names q) (x.names q e) (y.names q e);
  temps = λ q e. y.temps q e ∙ x.temps q e;
}

pub temp-itself : (n : Name) (t : Tree) → WritesTempAlone n t t
temp-itself n t = record { alone = alone-itself n t; name = refl }

pub temp-together : (n : Name) (a b c : Tree) → WritesTempAlone n a b → WritesTempAlone n b c → WritesTempAlone n a c
temp-together n a b c x y = record { alone = alone-together n a b c x.alone y.alone; name = y.name ∙ x.name }

module _ (fails partly : Type 0) (refused : StoreRefusal → Type 0) (old done new : Tree) (P : Tree → Type 0) (o : P old) (d : P done) where
  answers-keep : (partly → P new) → (r : Result (Unit {0}) StoreRefusal) → Answers fails partly refused old done r new → P new
  answers-keep p (Ok u) h = subst P (sym h.1) d
  answers-keep p (Err x) (inl h) = subst P (sym h.1) o
  answers-keep p (Err x) (inr h) = p h.2

  whole-keeps : IsWhole refused old done new → P new
  whole-keeps (inl e) = subst P (sym e) o
  whole-keeps (inr e) = subst P (sym e.1) d

parents-made : (n q : Name) (f : Name → Option Node) → IsKeptOrMade n q (f q) (with_parents n f q)
parents-made n q f = by (is_parent q n) refl (f q) refl
  where
    by : (b : Bool) → is_parent q n ≡ b → (o : Option Node) → f q ≡ o → IsKeptOrMade n q (f q) (with_parents n f q)
    by false e o is = inl (ap (λ b. cond b (or_directory (f q)) (f q)) e)
    by true e None is = inr (e, is, ap (λ b. cond b (or_directory (f q)) (f q)) e ∙ ap or_directory is)
    by true e (Some x) is = inl (ap (λ b. cond b (or_directory (f q)) (f q)) e ∙ ap or_directory is ∙ sym is)

module _ (fails : Type 0) (old new : Tree) (n : Name) (r : Result (Unit {0}) StoreRefusal) where
  pub commits-alone : Commits fails old n r new → ChangesNameAlone n old new
  commits-alone h =
      let done = committed old n h.0 in
      let d : ChangesNameAlone n old done = record {
        names = λ q e. inl (elsewhere n (Some (File (unwrap_or (old.temps n) []) h.0)) old.names q e);
        temps = λ q e. elsewhere n None old.temps q e;
      } in
      answers-keep fails (IsWhole (CommitRefused old n) old done new) (CommitRefused old n) old done new (ChangesNameAlone n old) (alone-itself n old) d
      (whole-keeps fails (IsWhole (CommitRefused old n) old done new) (CommitRefused old n) old done new (ChangesNameAlone n old) (alone-itself n old) d) r h.1

  removed-alone : ChangesNameAlone n old (removed old n)
  removed-alone = record { names = λ q e. inl (elsewhere n None old.names q e); temps = λ q e. refl }

  pub removes-alone : Removes fails old n r new → ChangesNameAlone n old new
  removes-alone h =
      let done = removed old n in
      answers-keep fails (IsWhole (RemoveRefused old n) old done new) (RemoveRefused old n) old done new (ChangesNameAlone n old) (alone-itself n old) removed-alone
      (whole-keeps fails (IsWhole (RemoveRefused old n) old done new) (RemoveRefused old n) old done new (ChangesNameAlone n old) (alone-itself n old) removed-alone) r h

  pub removes_dir-alone : RemovesDir fails old n r new → ChangesNameAlone n old new
  removes_dir-alone h =
      let done = removed old n in
      answers-keep fails (IsWhole (RemoveDirRefused old n) old done new) (RemoveDirRefused old n) old done new (ChangesNameAlone n old) (alone-itself n old) removed-alone
      (whole-keeps fails (IsWhole (RemoveDirRefused old n) old done new) (RemoveDirRefused old n) old done new (ChangesNameAlone n old) (alone-itself n old) removed-alone) r h

  dir-names : (q : Name) → bytes_eq n q ≡ false → IsKeptOrMade n q (old.names q) ((dir_made old n).names q)
  dir-names q e =
      subst (IsKeptOrMade n q (old.names q)) (sym (elsewhere n (Some Directory) (with_parents n old.names) q e)) (parents-made n q old.names)

  pub makes_dir-alone : MakesDir fails old n r new → ChangesNameAlone n old new
  makes_dir-alone h =
      answers-keep fails (MakesSome old n new) (MakeDirRefused old n) old (dir_made old n) new (ChangesNameAlone n old) (alone-itself n old)
      (record { names = dir-names; temps = λ q e. refl })
      (λ p. record {
        names = λ q e. elim (p.names q) [ inl same ↦ inl same | inr made ↦ subst (IsKeptOrMade n q (old.names q)) (sym made) (dir-names q e) ];
        temps = λ q e. ap (λ f. f q) p.temps;
      }) r h

-- ---- what is put in place

module _ (fails : Type 0) (old new : Tree) (n : Name) where
  pub commit-is : Commits fails old n (Ok tt) new → (modified : ℕ) × (new.names n ≡ Some (File (unwrap_or (old.temps n) []) modified))
  commit-is h = (h.0, ap (λ (t : Tree). t.names n) h.1.1 ∙ here n (Some (File (unwrap_or (old.temps n) []) h.0)) old.names)

  pub dir-is : MakesDir fails old n (Ok tt) new → new.names n ≡ Some Directory
  dir-is h = ap (λ (t : Tree). t.names n) h.1 ∙ here n (Some Directory) (with_parents n old.names)

  pub remove-is : Removes fails old n (Ok tt) new → IsGone old n new
  remove-is h = (ap (λ (t : Tree). t.names n) h.1 ∙ here n None old.names, ap (λ (t : Tree). t.temps) h.1)

  pub remove_dir-is : RemovesDir fails old n (Ok tt) new → IsGone old n new
  remove_dir-is h = (ap (λ (t : Tree). t.names n) h.1 ∙ here n None old.names, ap (λ (t : Tree). t.temps) h.1)

-- ---- the temporary file alone

pub temps-then : (n : Name) (a b c : Tree) → ChangesTemp a n b → ChangesTemp b n c → ChangesTemp a n c
temps-then n a b c x y = record { names = y.names ∙ x.names; temps = λ q e. y.temps q e ∙ x.temps q e }

pub temps-write : (n : Name) (a b : Tree) → ChangesTemp a n b → WritesTempAlone n a b
temps-write n a b x = record {
  alone = record { names = λ q e. inl (ap (λ f. f q) x.names); temps = x.temps };
  name = ap (λ f. f n) x.names;
}

pub no-own-parent : (n : Name) → is_parent n n ≡ false
no-own-parent [] = refl
no-own-parent (x ∷ xs) = ap (λ b. (x == x) && b) (no-own-parent xs) ∙ and-false (x == x)
  where
    and-false : (b : Bool) → (b && false) ≡ false
    and-false true = refl
    and-false false = refl

own-name : (n : Name) (f : Name → Option Node) → with_parents n f n ≡ f n
own-name n f = ap (λ b. cond b (or_directory (f n)) (f n)) (no-own-parent n)

pub makes_temp-writes : (fails : Type 0) (old new : Tree) (n : Name) (r : Result (Unit {0}) StoreRefusal) → MakesTemp fails old n r new → WritesTempAlone n old new
makes_temp-writes fails old new n r h =
    answers-keep fails (ChangesTempAndParents old n new) (MakeTempRefused old n) old (temp_made old n) new (WritesTempAlone n old) (temp-itself n old)
    (record {
      alone = record { names = λ q e. parents-made n q old.names; temps = λ q e. elsewhere n (Some []) old.temps q e };
      name = own-name n old.names;
    })
    (λ p. record {
      alone = record {
        names = λ q e. elim (p.names q) [ inl same ↦ inl same | inr made ↦ subst (IsKeptOrMade n q (old.names q)) (sym made) (parents-made n q old.names) ];
        temps = p.temps;
      };
      name = elim (p.names n) [ inl same ↦ same | inr made ↦ made ∙ own-name n old.names ];
    }) r h
