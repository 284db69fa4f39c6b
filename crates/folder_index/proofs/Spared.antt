-- Room for entries, as groups change.
use Rattle.std.proofs.Common.{◌≡◌, ◌≢◌, ℕ, ◌+◌, ◌<◌, length, take, get_or, Bool, true, false, List, [], ◌∷◌, ◌++◌, refl, sym, ap, subst, ◌∙◌, inl, inr}
use Rattle.std.specs.Prelude.{bytes_eq, cond, Option, Some, None}
use Rattle.std.specs.BTreeMap.{is_at}
use Rattle.std.specs.Cmp.{tied_itself}
use Rattle.std.specs.FinMap.{insert}
use Rattle.std.specs.Map.{lookup}
use Rattle.std.specs.Ordering.{is_eq}
use Rattle.std.proofs.lemmas.Bool.{true≢false}
use Rattle.std.proofs.lemmas.List.{take_more}
use Rattle.std.proofs.lemmas.Option.{none-some}
use Rattle.sync_record.specs.Devices.{Identity, bytes_cmp}
use Rattle.sync_record.specs.Records.{Name, FileRecord}
use Rattle.folder_core.specs.Announced.{Announced, announce, key}
use Rattle.folder_core.proofs.ListTests.{In, alike_bytes, inside, same_bytes}
use Rattle.folder_core.proofs.Orders.{bytes_total}
use Rattle.folder_index.specs.declared.group.Group.{Group}
use Rattle.folder_index.specs.declared.local.Local.{Local}
use Rattle.folder_index.specs.Groups.{HasSpare, HasSpareAt}
use Rattle.folder_index.specs.Indexes.{AreUnlike, IndexState, with_records}
use Rattle.folder_index.specs.Locals.{AreLocals, IsIndex, all_local}
use Rattle.folder_index.specs.Sequences.{Sequenced}
use Rattle.folder_index.proofs.Listed.{Groups, at_other}
use Rattle.folder_index.proofs.Locals.{other_set}
use Rattle.folder_index.proofs.Written.{HasAt}

at_itself : (n : Name) → is_at (bytes_cmp n) n ≡ true
at_itself n = ap is_eq (tied_itself bytes_total n)

module _ (d : Identity) (n : Name) (o : Option Group) (gs new : Groups) (at : HasAt n o gs new) where
  pub spare_kept : (m : Name) → m ≢ n → HasSpareAt d m gs → HasSpareAt d m new
  spare_kept m other spare = (spare.0, at m ∙ ap (λ b. cond b o (lookup (is_at (bytes_cmp m)) gs)) (at_other n m (λ s. other (sym s))) ∙ spare.1, spare.2)

  pub spare_put : (g : Group) → o ≡ Some g → HasSpare d g → HasSpareAt d n new
  spare_put g put spare = (g, at n ∙ ap (λ b. cond b o (lookup (is_at (bytes_cmp n)) gs)) (at_itself n) ∙ put, spare)

  -- whichever name it is
  pub spare_either : (g : Group) → o ≡ Some g → (HasSpareAt d n gs → HasSpare d g) → (m : Name) → HasSpareAt d m gs → HasSpareAt d m new
  spare_either g put here m spare = by (bytes_eq m n) refl
    where
      by : (b : Bool) → bytes_eq m n ≡ b → HasSpareAt d m new
      by true t = subst (λ k. HasSpareAt d k new) (sym (same_bytes m n t)) (spare_put g put (here (subst (λ k. HasSpareAt d k gs) (same_bytes m n t) spare)))
      by false f = spare_kept m (λ s. true≢false (sym (alike_bytes m n s) ∙ f)) spare

-- a name without a group has no room
pub not_spare : (d : Identity) (n : Name) (gs : Groups) → lookup (is_at (bytes_cmp n)) gs ≡ None → HasSpareAt d n gs → ⊥
not_spare d n gs none spare = none-some spare.0 (sym none ∙ spare.1)

-- of the group that is there
pub spare_of : (d : Identity) (n : Name) (gs : Groups) (g : Group) → lookup (is_at (bytes_cmp n)) gs ≡ Some g → HasSpareAt d n gs → HasSpare d g
spare_of d n gs g found spare = subst (HasSpare d) (inside spare.0 g (sym spare.1 ∙ found)) spare.2

-- the first of records without two of one name
pub apart_first : (rs : List FileRecord) (n : Name) → AreUnlike n rs → (r : FileRecord) → In r rs → r.name ≢ n
apart_first [] n unlike r i = absurd i
apart_first (x ∷ rs) n unlike r (inl s) = λ same. unlike.0 (ap (λ (y : FileRecord). y.name) (sym s) ∙ same)
apart_first (x ∷ rs) n unlike r (inr i) = apart_first rs n unlike.1 r i

-- ---- an index with records of another device

locals_with : (me d : Identity) (records : Sequenced) → d ≢ me → (rs : List FileRecord) (a : Announced) → AreLocals me a records → AreLocals me (announce d rs a) records
locals_with me d records other [] a are = are
locals_with me d records other (r ∷ rs) a are = locals_with me d records other rs (insert a (key r.name d) r) (other_set me a records are d other r)

pub index_with : (d : Identity) (rs : List FileRecord) (s : IndexState) (l : Local) → IsIndex s l → d ≢ s.me → IsIndex (with_records d rs s) l
index_with d rs s l is other = record { locals = locals_with s.me d (all_local l) other rs s.announced is.locals; kept = is.kept; promised = is.promised }

-- ---- room for one record more

in_push : {P : Type 0} (xs : List FileRecord) (r x : FileRecord) → In x (xs ++ r ∷ []) → (In x xs → P) → (x ≡ r → P) → P
in_push [] r x (inl s) there last = last s
in_push [] r x (inr i) there last = absurd i
in_push (y ∷ xs) r x (inl s) there last = there (inl s)
in_push (y ∷ xs) r x (inr i) there last = in_push xs r x i (λ j. there (inr j)) last

pub one_spared : (d : Identity) (rs : List FileRecord) (i : ℕ) (r : FileRecord) (gs : Groups) → i < length rs → r ≡ get_or rs i r → ((x : FileRecord) → In x (take i rs) → HasSpareAt d x.name gs) → HasSpareAt d r.name gs → (x : FileRecord) → In x (take (i + 1) rs) → HasSpareAt d x.name gs
one_spared d rs i r gs short here each last x j = in_push (take i rs) r x (subst (In x) (take_more rs i r short ∙ ap (λ y. take i rs ++ y ∷ []) (sym here)) j) (each x) (λ s. subst (λ (y : FileRecord). HasSpareAt d y.name gs) (sym s) last)
