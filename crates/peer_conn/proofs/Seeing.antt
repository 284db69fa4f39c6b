-- Folders whose histories went on.
use Rattle.std.proofs.Common.{◌≡◌, ℕ, zero, suc, ◌<◌, List, [], ◌∷◌, ◌++◌, length, get_or, set, refl, ap, subst, ◌∙◌, append_assoc, append-nil, sym, arith}
use Rattle.std.specs.List.{AllZip}
use mathlib.Core.List.{IsPrefix}
use Rattle.folder_calls.specs.Histories.{own_entries}
use Rattle.folder_calls.specs.Shared.{CallerView, Sees}
use Rattle.folder_calls.specs.declared.entry.Entry.{Entry}
use Rattle.peer_conn.specs.Turns.{OnlySees}
use Rattle.peer_conn.specs.declared.indexer.IndexerFolder.{IndexerFolder}

-- ---- what a caller sees

pub sees_itself : (v : CallerView) → Sees v v
sees_itself v = record { longer = ([], append-nil v.seen); own = refl; same = refl }

longer : (a b c : List Entry) → IsPrefix a b → IsPrefix b c → IsPrefix a c
longer a b c x y = (x.0 ++ y.0, sym (append_assoc a x.0 y.0) ∙ ap (λ l. l ++ y.0) x.1 ∙ y.1)

pub sees_together : (a b c : CallerView) → Sees a b → Sees b c → Sees a c
sees_together a b c x y =
    let pass : b.pass ≡ a.pass = ap (λ (v : CallerView). v.pass) x.same in
    record {
      longer = longer a.seen b.seen c.seen x.longer y.longer;
      own = subst (λ p. own_entries p c.seen ≡ own_entries p b.seen) pass y.own ∙ x.own;
      same = y.same ∙ ap (λ (v : CallerView). record v { seen = c.seen }) x.same;
    }

-- ---- lists, place by place

module _ {A : Type 0} (R : A → A → Type 0) where
  each_itself : ((x : A) → R x x) → (l : List A) → AllZip R l l
  each_itself r [] = tt
  each_itself r (x ∷ xs) = (r x, each_itself r xs)

  each_together : ((x y z : A) → R x y → R y z → R x z) → (a b c : List A) → AllZip R a b → AllZip R b c → AllZip R a c
  each_together t [] [] [] p q = tt
  each_together t [] [] (z ∷ zs) p q = absurd q
  each_together t [] (y ∷ ys) c p q = absurd p
  each_together t (x ∷ xs) [] c p q = absurd p
  each_together t (x ∷ xs) (y ∷ ys) [] p q = absurd q
  each_together t (x ∷ xs) (y ∷ ys) (z ∷ zs) p q = (t x y z p.0 q.0, each_together t xs ys zs p.1 q.1)

  -- one of them went on
  each_set : ((x : A) → R x x) → (l : List A) (i : ℕ) (d new : A) → i < length l → R (get_or l i d) new → AllZip R l (set l i new)
  each_set r [] i d new lt h = absurd (omega arith)
  each_set r (x ∷ xs) zero d new lt h = (h, each_itself r xs)
  each_set r (x ∷ xs) (suc i) d new lt h = (r x, each_set r xs i d new (omega arith) h)

-- ---- folders

module _ {W F : Type 0} (folder : W → F) (view : W → CallerView) where
  abbrev Only : IndexerFolder W → IndexerFolder W → Type 0
  Only = OnlySees folder view

  pub only_itself : (f : IndexerFolder W) → Only f f
  only_itself f = record { id = refl; index_id = refl; folder_is = refl; sees = sees_itself (view f.calls) }

  only_together : (a b c : IndexerFolder W) → Only a b → Only b c → Only a c
  only_together a b c x y = record {
    id = y.id ∙ x.id;
    index_id = y.index_id ∙ x.index_id;
    folder_is = y.folder_is ∙ x.folder_is;
    sees = sees_together (view a.calls) (view b.calls) (view c.calls) x.sees y.sees;
  }

  pub all_itself : (l : List (IndexerFolder W)) → AllZip (OnlySees folder view) l l
  all_itself = each_itself Only only_itself

  pub all_together : (a b c : List (IndexerFolder W)) → AllZip (OnlySees folder view) a b → AllZip (OnlySees folder view) b c → AllZip (OnlySees folder view) a c
  all_together = each_together Only only_together

  -- one more went on
  pub all_set : (a b : List (IndexerFolder W)) (i : ℕ) (d new : IndexerFolder W) → AllZip (OnlySees folder view) a b → i < length b → OnlySees folder view (get_or b i d) new
      → AllZip (OnlySees folder view) a (set b i new)
  all_set a b i d new before lt h = all_together a b (set b i new) before (each_set Only only_itself b i d new lt h)
