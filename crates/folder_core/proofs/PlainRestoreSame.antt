-- Two plain folders are the same state where their lists are.
use Rattle.std.proofs.Common.{◌≡◌, ◌↔◌, ℕ, suc, Bool, List, [], ◌∷◌, length, refl, sym, ap, ◌∙◌, arith}
use Rattle.std.specs.declared.cmp.Ordering.{Ordering}
use Rattle.std.proofs.lemmas.Bool.{and_from, and_parts, eqb-true, eq-eqb, true≢false}
use Rattle.std.specs.Bool.{Decides, beq, passes}
use Rattle.std.specs.Cmp.Lexicographic.{pointwise}
use Rattle.std.specs.FinMap.{FinMap, empty, entries, entries-from_sorted, from_sorted, len-empty, len-entries}
use Rattle.std.specs.Option.{option_eq}
use Rattle.std.specs.Prelude.{bytes_eq, ◌&&◌, IsTrue, Option, Some, None, is_some, map, option_map}
use Rattle.std.proofs.lemmas.Option.{none-some}
use Rattle.sync_record.specs.Devices.{Identity, bytes_cmp}
use Rattle.sync_record.specs.Records.{FileRecord, Name}
use Rattle.sync_record.specs.Same.{same_record}
use Rattle.sync_version.specs.Computed.{same_version}
use Rattle.sync_version.specs.Versions.{Vector}
use Rattle.folder_core.specs.declared.announcement.Announcement.{Announcement as Entry}
use Rattle.folder_core.specs.declared.plain.pull.OpenPull.{OpenPull}
use Rattle.folder_core.specs.declared.pull_stage.PullStage.TheVariants.{Committing}
use Rattle.folder_core.specs.Announced.{KeyedRecord, key_cmp}
use Rattle.folder_core.specs.Plain.{PullsRise, Rises, filed, folder_of, pulled, pulls_of, stage_of}
use Rattle.folder_core.specs.PlainRestores.{same_pull}
use Rattle.folder_core.specs.States.{FolderState, Pull, same_stage}
use Rattle.folder_core.proofs.ListTests.{alike_bytes, inside, same_bytes}

abbrev pub RecordsAreSame : Type 0
RecordsAreSame = (a b : FileRecord) → IsTrue (same_record a b) ↔ (a ≡ b)

abbrev pub VersionsAreSame : Type 0
VersionsAreSame = (a b : Vector) → IsTrue (same_version a b) ↔ (a ≡ b)

pub entry-Decides : RecordsAreSame → (e f : Entry) → Decides (bytes_eq e.device f.device && same_record e.record f.record) (e ≡ f)
entry-Decides records e f = (
  λ t.
      let p = and_parts _ _ t in
      let device = same_bytes e.device f.device p.0 in
      let value = (records e.record f.record).0 p.1 in
      λ i. record { device = device i; «record» = value i },
  λ same. and_from _ _ (alike_bytes e.device f.device (ap (λ (x : Entry). x.device) same)) ((records e.record f.record).1 (ap (λ (x : Entry). x.record) same)),
)

-- ---- pulls

base-Decides : VersionsAreSame → (o p : Option Vector) → Decides (option_eq same_version o p) (o ≡ p)
base-Decides versions None None = (λ t. refl, λ e. refl)
base-Decides versions None (Some b) = (λ t. absurd (true≢false (sym t)), λ e. absurd (none-some b e))
base-Decides versions (Some a) None = (λ t. absurd (true≢false (sym t)), λ e. absurd (none-some a (sym e)))
base-Decides versions (Some a) (Some b) = (λ t. ap Some ((versions a b).0 t), λ e. (versions a b).1 (inside a b e))

ready-Decides : (o p : Option FileRecord) → Decides (beq (is_some o) (is_some p)) (stage_of o ≡ stage_of p)
ready-Decides None None = (λ t. refl, λ e. refl)
ready-Decides None (Some r) = (λ t. absurd (true≢false (sym t)), λ e. absurd (true≢false (sym (ap (λ s. same_stage s Committing) e))))
ready-Decides (Some r) None = (λ t. absurd (true≢false (sym t)), λ e. absurd (true≢false (ap (λ s. same_stage s Committing) e)))
ready-Decides (Some q) (Some r) = (λ t. refl, λ e. refl)

module _ (records : RecordsAreSame) (versions : VersionsAreSame) where
  pull-Decides : (p q : OpenPull) → Decides (same_pull p q) (pulled p ≡ pulled q)
  pull-Decides p q = (
    λ t.
        let ready = and_parts _ _ t in
        let target = and_parts _ _ ready.0 in
        let base = and_parts _ _ target.0 in
        let number_is = eqb-true p.number q.number base.0 in
        let base_is = (base-Decides versions (option_map (λ r. r.version) p.base) (option_map (λ r. r.version) q.base)).0 base.1 in
        let target_is = (records p.target q.target).0 target.1 in
        let stage_is = (ready-Decides p.ready q.ready).0 ready.1 in
        λ i. ((target_is i).name, record { number = number_is i; base = base_is i; target = target_is i; stage = stage_is i }),
    λ same.
        and_from _ _ (and_from _ _ (and_from _ _
        (eq-eqb p.number q.number (ap (λ (x : Name × Pull). x.1.number) same))
        ((base-Decides versions (option_map (λ r. r.version) p.base) (option_map (λ r. r.version) q.base)).1 (ap (λ (x : Name × Pull). x.1.base) same)))
        ((records p.target q.target).1 (ap (λ (x : Name × Pull). x.1.target) same)))
        ((ready-Decides p.ready q.ready).1 (ap (λ (x : Name × Pull). x.1.stage) same)),
  )

  listed-Decides : (ps qs : List OpenPull) → Decides (pointwise same_pull ps qs) (map pulled ps ≡ map pulled qs)
  listed-Decides [] [] = (λ t. refl, λ e. refl)
  listed-Decides [] (q ∷ qs) = (λ t. absurd (true≢false (sym t)), λ e. absurd (empty (pulled q) (map pulled qs) e))
    where
      empty : (x : Name × Pull) (xs : List (Name × Pull)) → [] ≡ x ∷ xs → ⊥
      empty x xs e = cc
  listed-Decides (p ∷ ps) [] = (λ t. absurd (true≢false (sym t)), λ e. absurd (empty (pulled p) (map pulled ps) (sym e)))
    where
      empty : (x : Name × Pull) (xs : List (Name × Pull)) → [] ≡ x ∷ xs → ⊥
      empty x xs e = cc
  listed-Decides (p ∷ ps) (q ∷ qs) = (
    λ t.
        let b = and_parts _ _ t in
        let here = (pull-Decides p q).0 b.0 in
        let rest = (listed-Decides ps qs).0 b.1 in
        λ i. here i ∷ rest i,
    λ e. and_from _ _ ((pull-Decides p q).1 (head_is (pulled p) (pulled q) (map pulled ps) (map pulled qs) e)) ((listed-Decides ps qs).1 (tail_is (pulled p) (pulled q) (map pulled ps) (map pulled qs) e)),
  )
    where
      head_is : (x y : Name × Pull) (xs ys : List (Name × Pull)) → x ∷ xs ≡ y ∷ ys → x ≡ y
      head_is x y xs ys e = cc

      tail_is : (x y : Name × Pull) (xs ys : List (Name × Pull)) → x ∷ xs ≡ y ∷ ys → xs ≡ ys
      tail_is x y xs ys e = cc

  pub pulls-same : (ps qs : List OpenPull) (r : Bool) → r ≡ pointwise same_pull ps qs → IsTrue r ↔ (map pulled ps ≡ map pulled qs)
  pulls-same ps qs r is = (λ t. (listed-Decides ps qs).0 (sym is ∙ t), λ e. is ∙ (listed-Decides ps qs).1 e)

-- ---- folders

unfiled : KeyedRecord → Entry
unfiled a = record { device = a.0.device; «record» = a.1 }

filed-back : (es : List Entry) → map unfiled (map filed es) ≡ es
unfolding unfiled
filed-back [] = refl
filed-back (e ∷ es) = λ i. e ∷ filed-back es i

module _ (me her : Identity) (es fs : List Entry) (last final : ℕ) (ps qs : List OpenPull) where
  pub folder-same : me ≡ her → last ≡ final → es ≡ fs → map pulled ps ≡ map pulled qs → folder_of me es last (pulls_of ps) ≡ folder_of her fs final (pulls_of qs)
  folder-same m l e p = λ i. record {
    me = m i;
    announced = from_sorted (map filed (e i));
    last = l i;
    pulls = from_sorted (p i);
  }

  pub same-parts : Rises es → Rises fs → PullsRise ps → PullsRise qs → folder_of me es last (pulls_of ps) ≡ folder_of her fs final (pulls_of qs)
      → (me ≡ her) × (last ≡ final) × (es ≡ fs) × (map pulled ps ≡ map pulled qs)
  same-parts r s p q e = (
    ap (λ (x : FolderState). x.me) e,
    ap (λ (x : FolderState). x.last) e,
    sym (filed-back es)
        ∙ ap (map unfiled) (sym (entries-from_sorted key_cmp (map filed es) (passes _ r)) ∙ ap (λ (x : FolderState). entries x.announced) e ∙ entries-from_sorted key_cmp (map filed fs) (passes _ s))
        ∙ filed-back fs,
    sym (entries-from_sorted bytes_cmp (map pulled ps) (passes _ p)) ∙ ap (λ (x : FolderState). entries x.pulls) e ∙ entries-from_sorted bytes_cmp (map pulled qs) (passes _ q),
  )

-- ---- folders without records and pulls

none-empty : {K X : Type 0} (R : K → K → Ordering) (m : FinMap R X) → m ≡ empty → entries m ≡ []
none-empty R m none = no_length (entries m) (ap (λ n. length (entries n)) none ∙ sym (len-entries empty) ∙ len-empty R _)
  where
    no_length : {A : Type 0} (xs : List A) → length xs ≡ 0 → xs ≡ []
    no_length [] e = refl
    no_length (x ∷ xs) e = absurd (let n : suc (length xs) ≡ 0 = e in omega arith)

none-mapped : {A B : Type 0} (f : A → B) (xs : List A) → map f xs ≡ [] → xs ≡ []
none-mapped f [] e = refl
none-mapped f (x ∷ xs) e = absurd (not_empty (f x) (map f xs) e)
  where
    not_empty : {C : Type 0} (y : C) (ys : List C) → y ∷ ys ≡ [] → ⊥
    not_empty y ys s = cc

module _ (me : Identity) (es : List Entry) (last : ℕ) (ps : List OpenPull) (s : FolderState) (is : folder_of me es last (pulls_of ps) ≡ s) where
  pub no-entries : Rises es → s.announced ≡ empty → es ≡ []
  no-entries rises none =
      none-mapped filed es
      (sym (entries-from_sorted key_cmp (map filed es) (passes _ rises)) ∙ ap (λ (x : FolderState). entries x.announced) is ∙ none-empty key_cmp s.announced none)

  pub no-open : PullsRise ps → s.pulls ≡ empty → ps ≡ []
  no-open rise none =
      none-mapped pulled ps
      (sym (entries-from_sorted bytes_cmp (map pulled ps) (passes _ rise)) ∙ ap (λ (x : FolderState). entries x.pulls) is ∙ none-empty bytes_cmp s.pulls none)
