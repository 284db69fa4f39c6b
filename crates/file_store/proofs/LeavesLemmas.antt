-- What each call leaves.
use Rattle.std.proofs.Common.{◌≡◌, ℕ, ◌+◌, ◌-◌, true, false, cond, inl, inr, List, [], ◌∷◌, ◌++◌, take, drop, length, Option, Some, None, Result, Ok, Err, refl, sym, ap, subst, ◌∙◌, arith}
use Rattle.std.specs.Prelude.{⊤, bytes_eq, replicate, unwrap_or, IsSome}
use Rattle.std.proofs.lemmas.Bool.{false≢true}
use Rattle.std.proofs.lemmas.List.{append-nil, append_assoc}
use Rattle.std.proofs.Math.ListN.{drop_of_length-le}
use Rattle.std.proofs.Math.Seq.{take-append_seam, drop-append_seam, take-length}
use Rattle.std.proofs.lemmas.Grind.{common_steps}
use Rattle.file_store.specs.declared.node.Node.{Node}
use Rattle.file_store.specs.declared.node.Node.TheVariants.{Directory, File}
use Rattle.file_store.specs.declared.refusal.StoreRefusal.{StoreRefusal}
use Rattle.file_store.specs.Calls.{Answers, IsWhole, ChangesTemp, ChangesTempAndParents, MakesSome, MakesTemp, MakeTempRefused, Writes, WriteRefused, Commits, CommitRefused, Drops, DropRefused, Renames, RenameRefused, Removes, RemoveRefused, MakesDir, MakeDirRefused, RemovesDir, RemoveDirRefused, temp_made, temp_written, committed, temp_dropped, renamed, removed, dir_made}
use Rattle.file_store.specs.Contents.{overwritten}
use Rattle.file_store.specs.Laws.{Leaves}
use Rattle.file_store.specs.Maps.{put_at}
use Rattle.file_store.specs.Names.{Name, is_parent}
use Rattle.file_store.specs.Trees.{Tree, or_directory, with_parents}
use Rattle.file_store.proofs.PutLemmas.{put_elsewhere, put_here}

module _ (partly : Type 0) (refused : StoreRefusal → Type 0) (old done new : Tree) where
  -- what holds of an unchanged tree, of the tree when all is done and of one that is partly done holds after the call
  pub answers_keep : (P : Tree → Type 0) → P old → P done → (partly → P new) → (r : Result (Unit {0}) StoreRefusal) → Answers ⊤ partly refused old done r new → P new
  answers_keep P o d p (Ok u) h = subst P (sym h.1) d
  answers_keep P o d p (Err x) (inl h) = subst P (sym h.1) o
  answers_keep P o d p (Err x) (inr h) = p h.2

whole_keeps : (refused : StoreRefusal → Type 0) (old done new : Tree) (P : Tree → Type 0) → P old → P done → IsWhole refused old done new → P new
whole_keeps refused old done new P o d (inl e) = subst P (sym e) o
whole_keeps refused old done new P o d (inr e) = subst P (sym e.1) d

nothing : (old : Tree) (q : Name) → Leaves old old q
nothing old q = record { names = refl; temps = refl }

parents_elsewhere : (n q : Name) (f : Name → Option Node) → is_parent q n ≡ false → with_parents n f q ≡ f q
parents_elsewhere n q f e = ap (λ b. cond b (or_directory (f q)) (f q)) e

parents_there : (n q : Name) (f : Name → Option Node) → IsSome (f q) → with_parents n f q ≡ f q
parents_there n q f h = elim (is_parent q n) as (λ b. cond b (or_directory (f q)) (f q) ≡ f q) [ true ↦ there (f q) h | false ↦ refl ]
  where
    there : (o : Option Node) → IsSome o → or_directory o ≡ o
    there None h = absurd (false≢true h)
    there (Some x) h = refl

module _ (old new : Tree) (n q : Name) (r : Result (Unit {0}) StoreRefusal) where
  pub make_temp_leaves : MakesTemp ⊤ old n r new → bytes_eq n q ≡ false → is_parent q n ≡ false → Leaves old new q
  make_temp_leaves h apart free =
      answers_keep (ChangesTempAndParents old n new) (MakeTempRefused old n) old (temp_made old n) new (λ t. Leaves old t q) (nothing old q)
      (record { names = parents_elsewhere n q old.names free; temps = put_elsewhere n (Some []) old.temps q apart })
      (λ p. record { names = elim (p.names q) [ inl e ↦ e | inr e ↦ e ∙ parents_elsewhere n q old.names free ]; temps = p.temps q apart }) r h

  pub make_temp_leaves_there : MakesTemp ⊤ old n r new → IsSome (old.names q) → new.names q ≡ old.names q
  make_temp_leaves_there h there =
      answers_keep (ChangesTempAndParents old n new) (MakeTempRefused old n) old (temp_made old n) new (λ t. t.names q ≡ old.names q) refl
      (parents_there n q old.names there)
      (λ p. elim (p.names q) [ inl e ↦ e | inr e ↦ e ∙ parents_there n q old.names there ]) r h

  pub commit_leaves : Commits ⊤ old n r new → bytes_eq n q ≡ false → Leaves old new q
  commit_leaves h apart =
      let done = committed old n h.0 in
      let leaves : Leaves old done q = record { names = put_elsewhere n (Some (File (unwrap_or (old.temps n) []) h.0)) old.names q apart; temps = put_elsewhere n None old.temps q apart } in
      answers_keep (IsWhole (CommitRefused old n) old done new) (CommitRefused old n) old done new (λ t. Leaves old t q) (nothing old q) leaves
      (λ p. whole_keeps (CommitRefused old n) old done new (λ t. Leaves old t q) (nothing old q) leaves p) r h.1

  pub drop_leaves : Drops ⊤ old n r new → bytes_eq n q ≡ false → Leaves old new q
  drop_leaves h apart =
      let done = temp_dropped old n in
      let leaves : Leaves old done q = record { names = refl; temps = put_elsewhere n None old.temps q apart } in
      answers_keep (IsWhole DropRefused old done new) DropRefused old done new (λ t. Leaves old t q) (nothing old q) leaves
      (λ p. whole_keeps DropRefused old done new (λ t. Leaves old t q) (nothing old q) leaves p) r h

  pub remove_leaves : Removes ⊤ old n r new → bytes_eq n q ≡ false → Leaves old new q
  remove_leaves h apart =
      let done = removed old n in
      let leaves : Leaves old done q = record { names = put_elsewhere n None old.names q apart; temps = refl } in
      answers_keep (IsWhole (RemoveRefused old n) old done new) (RemoveRefused old n) old done new (λ t. Leaves old t q) (nothing old q) leaves
      (λ p. whole_keeps (RemoveRefused old n) old done new (λ t. Leaves old t q) (nothing old q) leaves p) r h

  pub remove_dir_leaves : RemovesDir ⊤ old n r new → bytes_eq n q ≡ false → Leaves old new q
  remove_dir_leaves h apart =
      let done = removed old n in
      let leaves : Leaves old done q = record { names = put_elsewhere n None old.names q apart; temps = refl } in
      answers_keep (IsWhole (RemoveDirRefused old n) old done new) (RemoveDirRefused old n) old done new (λ t. Leaves old t q) (nothing old q) leaves
      (λ p. whole_keeps (RemoveDirRefused old n) old done new (λ t. Leaves old t q) (nothing old q) leaves p) r h

  pub make_dir_leaves_there : MakesDir ⊤ old n r new → bytes_eq n q ≡ false → IsSome (old.names q) → new.names q ≡ old.names q
  make_dir_leaves_there h apart there =
      let made : (dir_made old n).names q ≡ old.names q = put_elsewhere n (Some Directory) (with_parents n old.names) q apart ∙ parents_there n q old.names there in
      answers_keep (MakesSome old n new) (MakeDirRefused old n) old (dir_made old n) new (λ t. t.names q ≡ old.names q) refl made
      (λ p. elim (p.names q) [ inl e ↦ e | inr e ↦ e ∙ made ]) r h

  pub make_dir_leaves : MakesDir ⊤ old n r new → bytes_eq n q ≡ false → is_parent q n ≡ false → Leaves old new q
  make_dir_leaves h apart free =
      let made : (dir_made old n).names q ≡ old.names q = put_elsewhere n (Some Directory) (with_parents n old.names) q apart ∙ parents_elsewhere n q old.names free in
      answers_keep (MakesSome old n new) (MakeDirRefused old n) old (dir_made old n) new (λ t. Leaves old t q) (nothing old q) (record { names = made; temps = refl })
      (λ p. record { names = elim (p.names q) [ inl e ↦ e | inr e ↦ e ∙ made ]; temps = ap (λ f. f q) p.temps }) r h

module _ (old new : Tree) (n q : Name) (offset : ℕ) (piece : List ℕ) (r : Result (Unit {0}) StoreRefusal) (h : Writes ⊤ old n offset piece r new) where
  pub write_leaves : bytes_eq n q ≡ false → Leaves old new q
  write_leaves apart =
      answers_keep (ChangesTemp old n new) (WriteRefused old n) old (temp_written old n offset piece) new (λ t. Leaves old t q) (nothing old q)
      (record { names = refl; temps = put_elsewhere n (Some (overwritten (unwrap_or (old.temps n) []) offset piece)) old.temps q apart })
      (λ p. record { names = ap (λ f. f q) p.names; temps = p.temps q apart }) r h

pub write_leaves_names : (old new : Tree) (n : Name) (offset : ℕ) (piece : List ℕ) (r : Result (Unit {0}) StoreRefusal) → Writes ⊤ old n offset piece r new → new.names ≡ old.names
write_leaves_names old new n offset piece r h =
    answers_keep (ChangesTemp old n new) (WriteRefused old n) old (temp_written old n offset piece) new (λ t. t.names ≡ old.names) refl refl (λ p. p.names) r h

pub rename_leaves : (old new : Tree) (from to q : Name) (r : Result (Unit {0}) StoreRefusal) → Renames ⊤ old from to r new → bytes_eq from q ≡ false → bytes_eq to q ≡ false → Leaves old new q
rename_leaves old new from to q r h a b =
    let done = renamed old from to in
    let refused = RenameRefused old from to in
    let leaves : Leaves old done q = record { names = put_elsewhere to (old.names from) (put_at from None old.names) q b ∙ put_elsewhere from None old.names q a; temps = refl } in
    answers_keep (IsWhole refused old done new) refused old done new (λ t. Leaves old t q) (nothing old q) leaves
    (λ p. whole_keeps refused old done new (λ t. Leaves old t q) (nothing old q) leaves p) r h

-- bytes that are written
pub written_read : (bytes piece : List ℕ) (offset : ℕ) → take (length piece) (drop offset (overwritten bytes offset piece)) ≡ piece
written_read bytes [] offset = refl
written_read bytes (b ∷ bs) offset =
    let front = take offset bytes ++ replicate (offset - length bytes) 0 in
    let back = drop (offset + length (b ∷ bs)) bytes in
    let long : length front ≡ offset = grind (arith, common_steps) in
    ap (λ l. take (length (b ∷ bs)) (drop offset l)) (append_assoc front (b ∷ bs) back)
    ∙ ap (λ k. take (length (b ∷ bs)) (drop k (front ++ ((b ∷ bs) ++ back)))) (sym long)
    ∙ ap (take (length (b ∷ bs))) (drop-append_seam front ((b ∷ bs) ++ back)) ∙ take-append_seam (b ∷ bs) back

pub written_appended : (bytes piece : List ℕ) → overwritten bytes (length bytes) piece ≡ bytes ++ piece
written_appended bytes [] = sym (append-nil bytes)
written_appended bytes (b ∷ bs) =
    let front : take (length bytes) bytes ≡ bytes = take-length bytes in
    let gap : length bytes - length bytes ≡ 0 = omega arith in
    let back : drop (length bytes + length (b ∷ bs)) bytes ≡ [] = drop_of_length-le bytes (omega arith) in
    (λ t. front t ++ replicate (gap t) 0 ++ (b ∷ bs) ++ back t) ∙ append-nil ((bytes ++ []) ++ (b ∷ bs)) ∙ (λ t. append-nil bytes t ++ (b ∷ bs))

-- a file that is put
pub put_read : (t : Tree) (n : Name) (bytes : List ℕ) (modified : ℕ) → (committed (temp_written (temp_made t n) n 0 bytes) n modified).names n ≡ Some (File bytes modified)
put_read t n bytes modified =
    let made = (temp_made t n).temps in
    let empty : unwrap_or (made n) [] ≡ [] = ap (λ o. unwrap_or o []) (put_here n (Some []) t.temps) in
    put_here n (Some (File (unwrap_or ((temp_written (temp_made t n) n 0 bytes).temps n) []) modified)) (with_parents n t.names)
    ∙ ap (λ o. Some (File (unwrap_or o []) modified)) (put_here n (Some (overwritten (unwrap_or (made n) []) 0 bytes)) made)
    ∙ ap (λ b. Some (File (overwritten b 0 bytes) modified)) empty ∙ ap (λ b. Some (File b modified)) (written_appended [] bytes)

pub put_no_temp : (t : Tree) (n : Name) (bytes : List ℕ) (modified : ℕ) → (committed (temp_written (temp_made t n) n 0 bytes) n modified).temps n ≡ None
put_no_temp t n bytes modified = put_here n None (temp_written (temp_made t n) n 0 bytes).temps
