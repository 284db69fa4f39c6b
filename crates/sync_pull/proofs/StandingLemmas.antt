-- What stands at a name.
use Rattle.std.proofs.Common.{◌≡◌, ℕ, Bool, false, List, length, Option, Some, None, Result, sym, ap, subst, ◌∙◌}
use Rattle.std.specs.Prelude.{◌↔◌, IfOk, IsTrue}
use Rattle.std.proofs.lemmas.Result.{IfOk-weaker}
use Rattle.file_store.specs.Calls.{stat_of}
use Rattle.file_store.specs.Trees.{bytes_of}
use Rattle.file_store.specs.declared.node.Node.{Node}
use Rattle.file_store.specs.declared.node.Node.TheVariants.{Directory, File}
use Rattle.file_store.specs.declared.node.Stat.TheVariants as stat
use Rattle.sync_record.specs.Records.{FileRecord, kind_of}
use Rattle.sync_record.specs.declared.kind.Kind.TheVariants as kind
use Rattle.sync_pull.specs.Standing.{IsFileOf, IsOfKind, IsOfRecord, StandsAs}

-- where a file of this size is said to be, one is
pub said-file : (there : Option Node) (size modified : ℕ) → stat_of there ≡ stat.File size modified
    → (bytes : List ℕ) × (there ≡ Some (File bytes modified)) × (size ≡ length bytes)
said-file None size modified e = absurd (cc)
said-file (Some Directory) size modified e = absurd (cc)
said-file (Some (File bytes m)) size modified e = (bytes, cc, cc)

-- a live file is there as its record says exactly where its bytes are those of the record
pub file-stands : (r : FileRecord) (there : Option Node) (bytes : List ℕ) (modified : ℕ) → r.deleted ≡ false → kind_of r ≡ kind.File
    → there ≡ Some (File bytes modified) → (P : Type 0) → (P ↔ IsFileOf r (bytes_of there)) → P ↔ StandsAs (Some r) there
file-stands r there bytes modified live file is P e =
    let to : StandsAs (Some r) there ≡ IsOfKind kind.File r there = ap (λ d. IsOfRecord d r there) live ∙ ap (λ k. IsOfKind k r there) file in (
      λ p. subst (λ X. X) (sym to) (bytes, modified, is, subst (λ o. IsFileOf r (bytes_of o)) is (e.0 p)),
      λ s.
          let f : IsOfKind kind.File r there = subst (λ X. X) to s in
          e.1 (subst (λ o. IsFileOf r (bytes_of o)) (sym f.2) f.3),
    )

-- so a file that was read by its size says whether what is there is what the record says
pub of-kept : (r : FileRecord) (base : Option FileRecord) (there then : Option Node) (size : ℕ) (bytes : List ℕ) (modified : ℕ) → r.deleted ≡ false → kind_of r ≡ kind.File
    → there ≡ Some (File bytes modified) → size ≡ length bytes → base ≡ Some r → then ≡ there → {E : Type 0} (result : Result Bool E)
    → (size ≡ length (bytes_of then) → IfOk result (λ has. IsTrue has ↔ IsFileOf r (bytes_of then)))
    → IfOk result (λ stands. IsTrue stands ↔ StandsAs base there)
of-kept r base there then size bytes modified live file is whole named kept result exact =
    IfOk-weaker result (λ has. IsTrue has ↔ IsFileOf r (bytes_of then)) (λ stands. IsTrue stands ↔ StandsAs base there)
    (λ has e. subst (λ b. IsTrue has ↔ StandsAs b there) (sym named)
    (file-stands r there bytes modified live file is (IsTrue has) (subst (λ o. IsTrue has ↔ IsFileOf r (bytes_of o)) kept e)))
    (exact (whole ∙ sym (ap (λ o. length (bytes_of o)) (kept ∙ is))))
