-- What a store says of a name and gives of a file.
use Rattle.std.proofs.Common.{◌≡◌, ℕ, ◌+◌, List, [], ◌∷◌, ◌++◌, length, Result, Ok, Err, Bool, true, false, ◌⊎◌, inl, inr, refl, sym, ap, subst, ◌∙◌}
use Rattle.std.specs.Prelude.{bytes_eq, ◌||◌, IfErr}
use Rattle.std.proofs.lemmas.Bool.{or_cases}
use Rattle.std.proofs.lemmas.Slice.Eq.{bytes_eq-Decides}
use Rattle.file_store.specs.Asked.{StatAt}
use Rattle.file_store.specs.FullReads.{FillsAll, refused}
use Rattle.file_store.specs.Names.{Name, is_parent}
use Rattle.file_store.specs.Refusals.{IsPlain}
use Rattle.file_store.specs.declared.refusal.StoreRefusal.{StoreRefusal}
use Rattle.file_store.specs.declared.refusal.StoreRefusal.TheVariants.{StoreFault, NotEmpty, BadParent, OutOfMemory}
use Rattle.sync_scan.specs.Told.{Fails, Giving, ReadsParts, ReadsWhole, no_stat, no_read, no_memory, one_more}

module _ {S : Type 0} (gives : Giving S) (n : Name) where
  -- memory is out
  pub fails-memory : {X : Type 0} (r : Result X StoreRefusal) → r ≡ Err OutOfMemory → IfErr r (Fails gives n)
  fails-memory r is = subst (λ x. IfErr x (Fails gives n)) (sym is) no_memory

  -- the file is not read
  pub fails-read : (offset : ℕ) (asked new : S) (before after : List ℕ) (refusal : StoreRefusal) → IsPlain refusal
      → FillsAll gives n offset asked before (Err refusal) new after → Fails gives n refusal
  fails-read offset asked new before after StoreFault plain (refused filled _ at _ buffer part fills room given) = no_read (offset + filled) _ part at new given
  fails-read offset asked new before after OutOfMemory plain fills = no_memory
  fails-read offset asked new before after NotEmpty plain fills = absurd plain
  fails-read offset asked new before after BadParent plain fills = absurd plain

  pub told-refusal : {X : Type 0} (r : Result X StoreRefusal) (refusal : StoreRefusal) → r ≡ Err refusal → Fails gives n refusal → IfErr r (Fails gives n)
  told-refusal r refusal is fails = subst (λ x. IfErr x (Fails gives n)) (sym is) fails

  -- one part more
  pub parts-more : (bytes before part : List ℕ) (offset count : ℕ) (asked new : S) → ReadsParts gives n bytes → length bytes ≡ offset → count ≡ length part
      → FillsAll gives n offset asked before (Ok count) new part → ReadsParts gives n (bytes ++ part)
  parts-more bytes before part offset count asked new parts at all fills =
      one_more bytes before part asked new parts
      (subst (λ o. FillsAll gives n o asked before (Ok (length part)) new part) (sym at) (subst (λ k. FillsAll gives n offset asked before (Ok k) new part) all fills))

  -- no byte more
  pub parts-all : (bytes after : List ℕ) (size count : ℕ) (asked new : S) → ReadsParts gives n bytes → length bytes ≡ size → count ≡ 0
      → FillsAll gives n size asked (0 ∷ []) (Ok count) new after → ReadsWhole gives n bytes
  parts-all bytes after size count asked new parts long none fills = record {
    parts = parts;
    asked = asked;
    new = new;
    after = after;
    none = subst (λ o. FillsAll gives n o asked (0 ∷ []) (Ok 0) new after) (sym long) (subst (λ k. FillsAll gives n size asked (0 ∷ []) (Ok k) new after) none fills);
  }

  -- a parent was asked for, and the store failed
  pub fails-parent : (p : Name) (refusal : StoreRefusal) → is_parent p n ≡ true → IsPlain refusal
      → (◌≡◌ {A = Result Bool StoreRefusal} (Err refusal) (Err StoreFault) → (asked : S) × (new : S) × gives asked (StatAt p) (Err StoreFault) new) → Fails gives n refusal
  fails-parent p StoreFault below plain fails = let at = fails refl in no_stat p at.0 at.1 (inr below) at.2
  fails-parent p OutOfMemory below plain fails = no_memory
  fails-parent p NotEmpty below plain fails = absurd plain
  fails-parent p BadParent below plain fails = absurd plain

  -- the store failed where it was asked for the name
  pub fails-stat : (asked new : S) (refusal : StoreRefusal) → IsPlain refusal → gives asked (StatAt n) (Err refusal) new → Fails gives n refusal
  fails-stat asked new StoreFault plain given = no_stat n asked new (inl refl) given
  fails-stat asked new OutOfMemory plain given = no_memory
  fails-stat asked new NotEmpty plain given = absurd plain
  fails-stat asked new BadParent plain given = absurd plain

or-right : (a b : Bool) → b ≡ true → (a || b) ≡ true
or-right true b e = refl
or-right false b e = e

or-left : (a b : Bool) → a ≡ true → (a || b) ≡ true
or-left a b e = ap (λ t. t || b) e

module _ (n p rest : Name) (parents : (q : Name) → is_parent q rest ≡ (bytes_eq p q || is_parent q p))
    (up : (q : Name) → is_parent q rest ≡ true → is_parent q n ≡ true) where
  -- the parent of what is left is one of the name
  pub parent-is : is_parent p n ≡ true
  parent-is = up p (parents p ∙ or-left (bytes_eq p p) (is_parent p p) ((bytes_eq-Decides p p).1 refl))

  -- so are its parents
  pub parents-up : (q : Name) → is_parent q p ≡ true → is_parent q n ≡ true
  parents-up q e = up q (parents q ∙ or-right (bytes_eq p q) (is_parent q p) e)

  -- one parent more was asked for
  pub parents-passed : (IsLooked : Name → Type 0) → IsLooked p → ((q : Name) → is_parent q n ≡ true → (is_parent q rest ≡ true) ⊎ IsLooked q)
      → (q : Name) → is_parent q n ≡ true → (is_parent q p ≡ true) ⊎ IsLooked q
  parents-passed IsLooked looked passed q e = by (passed q e)
    where
      by : (is_parent q rest ≡ true) ⊎ IsLooked q → (is_parent q p ≡ true) ⊎ IsLooked q
      by (inr done) = inr done
      by (inl left) = by-or (or_cases (bytes_eq p q) (is_parent q p) (sym (parents q) ∙ left))
        where
          by-or : (bytes_eq p q ≡ true) ⊎ (is_parent q p ≡ true) → (is_parent q p ≡ true) ⊎ IsLooked q
          by-or (inl same) = inr (subst IsLooked ((bytes_eq-Decides p q).0 same) looked)
          by-or (inr above) = inl above
