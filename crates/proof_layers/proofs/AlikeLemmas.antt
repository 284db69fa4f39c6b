-- What stands by records of one content is alike.
use Rattle.std.proofs.Common.{◌≡◌, ℕ, Bool, true, false, List, [], length, Option, Some, None, refl, sym, ap, subst, ◌∙◌, ◌⊎◌, inl, inr, pos}
use Rattle.std.specs.Prelude.{◌↔◌, IsTrue, if◌then◌else◌}
use Rattle.std.specs.Ordering.{int_eq}
use Rattle.std.proofs.lemmas.Bool.Decides.{Decides-int_eq}
use Rattle.std.proofs.lemmas.List.{nil_from_length}
use Rattle.file_store.specs.declared.node.Node.{Node}
use Rattle.file_store.specs.declared.node.Node.TheVariants.{Directory}
use Rattle.sync_record.specs.Contents.{same_content}
use Rattle.sync_record.specs.Records.{FileRecord, is_directory, is_file, kind_of}
use Rattle.sync_record.specs.declared.kind.Kind.{Kind}
use Rattle.sync_record.specs.declared.kind.Kind.TheVariants as kind
use Rattle.sync_pull.specs.Bytes.{AreOf}
use Rattle.sync_pull.specs.Standing.{IsFileOf, IsOfKind, IsOfRecord, StandsAs}
use Rattle.proof_layers.specs.Alike.{AreAlike, AreCutAlike}

-- the kind is told by the type number
pub file-kind : (r : FileRecord) → IsTrue (is_file r) → kind_of r ≡ kind.File
file-kind r is = ap (λ b. if b then kind.File else (if int_eq r.type_number (pos 1) then kind.Directory else kind.Other)) is

pub directory-kind : (r : FileRecord) → IsTrue (is_directory r) → kind_of r ≡ kind.Directory
directory-kind r is =
    let number : r.type_number ≡ pos 1 = (Decides-int_eq r.type_number (pos 1)).0 is in
    ap (λ n. if int_eq n (pos 0) then kind.File else (if int_eq n (pos 1) then kind.Directory else kind.Other)) number

pub kind-file : (r : FileRecord) → kind_of r ≡ kind.File → IsTrue (is_file r)
kind-file r = by (is_file r) (is_directory r)
  where
    by : (f d : Bool) → (if f then kind.File else (if d then kind.Directory else kind.Other)) ≡ kind.File → f ≡ true
    by true d e = refl
    by false true e = cc
    by false false e = cc

pub kind-directory : (r : FileRecord) → kind_of r ≡ kind.Directory → IsTrue (is_directory r)
kind-directory r = by (is_file r) (is_directory r)
  where
    by : (f d : Bool) → (if f then kind.File else (if d then kind.Directory else kind.Other)) ≡ kind.Directory → d ≡ true
    by true d e = cc
    by false true e = refl
    by false false e = cc

-- what a record says is there, where its mark and its kind are known
pub stands-deleted : (r : FileRecord) (there : Option Node) → r.deleted ≡ true → StandsAs (Some r) there ≡ (there ≡ None)
stands-deleted r there gone = ap (λ d. IsOfRecord d r there) gone

pub stands-kind : (r : FileRecord) (there : Option Node) (k : Kind) → r.deleted ≡ false → kind_of r ≡ k → StandsAs (Some r) there ≡ IsOfKind k r there
stands-kind r there k live is = ap (λ d. IsOfRecord d r there) live ∙ ap (λ k. IsOfKind k r there) is

-- a file of no bytes has no blocks
blocks-of : (r : FileRecord) (bytes : List ℕ) → IsFileOf r bytes → (length bytes ≡ 0 → ⊥) → AreOf r.blocks bytes
blocks-of r bytes is some = by is.blocks
  where
    by : (length bytes ≡ 0) ⊎ AreOf r.blocks bytes → AreOf r.blocks bytes
    by (inl none) = absurd (some none)
    by (inr own) = own

size-inside : (m n : ℕ) → pos m ≡ pos n → m ≡ n
size-inside m n e = cc

-- files of one size and, where there are bytes, of the same blocks
cut-alike : (r q : FileRecord) (one other : List ℕ) → IsFileOf r one → IsFileOf q other → r.size ≡ q.size → (r.size ≡ pos 0) ⊎ (r.blocks ≡ q.blocks) → AreCutAlike one other
cut-alike r q one other a b size same = by (length one) refl same
  where
    long : length one ≡ length other
    long = size-inside (length one) (length other) (sym a.size ∙ size ∙ b.size)

    empty : length one ≡ 0 → AreCutAlike one other
    empty none = record { size = long; blocks = []; of_one = nil_from_length one none; of_other = nil_from_length other (sym long ∙ none) }

    by : (n : ℕ) → length one ≡ n → (r.size ≡ pos 0) ⊎ (r.blocks ≡ q.blocks) → AreCutAlike one other
    by ℕ.zero is same = empty is
    by (ℕ.suc n) is (inl none) = empty (size-inside (length one) 0 (sym a.size ∙ none))
    by (ℕ.suc n) is (inr same) = record {
      size = long;
      blocks = r.blocks;
      of_one = blocks-of r one a (λ none. some (sym is ∙ none));
      of_other = subst (λ bs. AreOf bs other) (sym same) (blocks-of q other b (λ none. some (sym is ∙ (long ∙ none))));
    }
      where
        some : ℕ.suc n ≡ 0 → ⊥
        some e = cc

-- what the laws of contents say, in words of kinds
pub record ContentLaws : Type 0 where
  pub deletions : (a b : FileRecord) → a.deleted ≡ true → IsTrue (same_content a b) ↔ (b.deleted ≡ true)
  pub directories : (a b : FileRecord) → a.deleted ≡ false → IsTrue (is_directory a) → IsTrue (same_content a b) ↔ ((b.deleted ≡ false) × IsTrue (is_directory b))
  pub files : (a b : FileRecord) → a.deleted ≡ false → IsTrue (is_file a) →
      IsTrue (same_content a b) ↔ ((b.deleted ≡ false) × IsTrue (is_file b) × (a.size ≡ b.size)
      × ((a.size ≡ pos 0) ⊎ ((a.block_size ≡ b.block_size) × (a.blocks ≡ b.blocks))))

same-blocks : (r q : FileRecord) → (r.size ≡ pos 0) ⊎ ((r.block_size ≡ q.block_size) × (r.blocks ≡ q.blocks)) → (r.size ≡ pos 0) ⊎ (r.blocks ≡ q.blocks)
same-blocks r q (inl none) = inl none
same-blocks r q (inr same) = inr same.1

module _ (laws : ContentLaws) (r q : FileRecord) (one other : Option Node) (same : IsTrue (same_content r q)) where
  of-deleted : r.deleted ≡ true → StandsAs (Some r) one → StandsAs (Some q) other → AreAlike one other
  of-deleted gone a b =
      let none : one ≡ None = subst (λ X. X) (stands-deleted r one gone) a in
      subst (λ o. AreAlike o other) (sym none) (subst (λ X. X) (stands-deleted q other ((laws.deletions r q gone).0 same)) b)

  of-directory : r.deleted ≡ false → kind_of r ≡ kind.Directory → StandsAs (Some r) one → StandsAs (Some q) other → AreAlike one other
  of-directory live is a b =
      let says = (laws.directories r q live (kind-directory r is)).0 same in
      let here : one ≡ Some Directory = subst (λ X. X) (stands-kind r one kind.Directory live is) a in
      subst (λ o. AreAlike o other) (sym here) (subst (λ X. X) (stands-kind q other kind.Directory says.0 (directory-kind q says.1)) b)

  of-file : r.deleted ≡ false → kind_of r ≡ kind.File → StandsAs (Some r) one → StandsAs (Some q) other → AreAlike one other
  of-file live is a b =
      let says = (laws.files r q live (kind-file r is)).0 same in
      let here : IsOfKind kind.File r one = subst (λ X. X) (stands-kind r one kind.File live is) a in
      let there : IsOfKind kind.File q other = subst (λ X. X) (stands-kind q other kind.File says.0 (file-kind q says.1)) b in
      subst (λ o. AreAlike o other) (sym here.2)
      (there.0, there.1, there.2, cut-alike r q here.0 there.0 here.3 there.3 says.2 (same-blocks r q says.3))

  of-other : r.deleted ≡ false → kind_of r ≡ kind.Other → StandsAs (Some r) one → StandsAs (Some q) other → AreAlike one other
  of-other live is a b = absurd (subst (λ X. X) (stands-kind r one kind.Other live is) a)

  by-kind : r.deleted ≡ false → (k : Kind) → kind_of r ≡ k → StandsAs (Some r) one → StandsAs (Some q) other → AreAlike one other
  by-kind live kind.File is = of-file live is
  by-kind live kind.Directory is = of-directory live is
  by-kind live kind.Other is = of-other live is

  by-mark : (d : Bool) → r.deleted ≡ d → StandsAs (Some r) one → StandsAs (Some q) other → AreAlike one other
  by-mark true is = of-deleted is
  by-mark false is = by-kind is (kind_of r) refl

  pub are-alike : StandsAs (Some r) one → StandsAs (Some q) other → AreAlike one other
  are-alike = by-mark r.deleted refl
