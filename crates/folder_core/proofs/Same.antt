-- Values that pass the test `==` are one.
use Rattle.std.proofs.Common.{◌≡◌, refl, sym, ap, ◌∙◌, Bool, true, false, ◌&&◌, List, [], ◌∷◌, Option, Some, None, Decides, unwrap_or}
use Rattle.std.specs.Prelude.{⊤}
use mathlib.Core.Logic.{inl, inr}
use Rattle.std.specs.Option.{option_eq}
use Rattle.std.specs.Cmp.{unsigned_Decides, signed_Decides}
use Rattle.std.specs.Cmp.Lexicographic.{pointwise_decides}
use Rattle.std.proofs.lemmas.Bool.{and_parts, and_from, true≢false}
use Rattle.std.proofs.lemmas.Slice.Eq.{bytes_eq-Decides}
use denote.Struct.Field.{Field}
use denote.Enum.Declared.{Record, Choice, left_or, right_or, values_one}
use denote.Enum.Compared.{Each, by}
use Rattle.sync_record.specs.Same.{same_record}
use Rattle.sync_record.proofs.SameRecords.{same_record-is, same_record-own}
use Rattle.sync_version.specs.Computed.{same_version}
use Rattle.sync_version.proofs.Lemmas.{same_version_tells}
use Rattle.sync_blocks.specs.contracts.block.BlockPartialEq.TheImpl as block_test
use Rattle.folder_core.specs.contracts.answer.Answer as answer
use Rattle.folder_core.specs.contracts.change.Change as change
use Rattle.folder_core.specs.contracts.finding.FoundContent as content
use Rattle.folder_core.specs.contracts.announcement.AnnouncementPartialEq.TheImpl as announcement_test
use Rattle.folder_core.specs.contracts.answer.AnswerPartialEq.TheImpl as answer_test
use Rattle.folder_core.specs.contracts.best.BestPartialEq.TheImpl as best_test
use Rattle.folder_core.specs.contracts.change.ChangePartialEq.TheImpl as change_test
use Rattle.folder_core.specs.contracts.counts.CountsPartialEq.TheImpl as counts_test
use Rattle.folder_core.specs.contracts.finding.FindingPartialEq.TheImpl as finding_test
use Rattle.folder_core.specs.contracts.finding.FoundContentPartialEq.TheImpl as content_test
use Rattle.folder_core.specs.contracts.place.PlacePartialEq.TheImpl as place_test
use Rattle.folder_core.specs.contracts.pull_info.PullInfoPartialEq.TheImpl as info_test

-- ---- a test that is true exactly where two are one

abbrev pub IsExact : {K : Type 0} → (K → K → Bool) → Type 0
IsExact {K} E = (x y : K) → Decides (E x y) (x ≡ y)

-- no field
point : IsExact (λ (x y : Unit {0}). true)
point x y = (λ e. refl, λ e. refl)

-- the last field
one : {A : Type 0} {E : A → A → Bool} → IsExact E → IsExact (λ (x y : A × Unit {0}). E x.0 y.0)
one s x y = (λ e i. ((s x.0 y.0).0 e i, tt), λ e. (s x.0 y.0).1 (ap (λ (p : _ × _). p.0) e))

-- a field before others
pub before : {A B : Type 0} {E : A → A → Bool} {F : B → B → Bool} → IsExact E → IsExact F → IsExact (λ (x y : A × B). E x.0 y.0 && F x.1 y.1)
before s t x y = (
  λ e. let both = and_parts _ _ e in λ i. ((s x.0 y.0).0 both.0 i, (t x.1 y.1).0 both.1 i),
  λ e. and_from _ _ ((s x.0 y.0).1 (ap (λ (p : _ × _). p.0) e)) ((t x.1 y.1).1 (ap (λ (p : _ × _). p.1) e)),
)

-- a type whose values have these parts
pub through : {K A : Type 0} (parts : K → A) (whole : A → K) → ((x : K) → whole (parts x) ≡ x) → {E : A → A → Bool} → IsExact E → IsExact (λ x y. E (parts x) (parts y))
through parts whole back s x y = (λ e. sym (back x) ∙ ap whole ((s (parts x) (parts y)).0 e) ∙ back y, λ e. (s (parts x) (parts y)).1 (ap parts e))

-- the variants
abbrev Exacts : (Fss : List (List Field)) → Each Bool Fss → Type 0
Exacts [] es = ⊤
Exacts (Fs ∷ Fss) es = IsExact es.0 × Exacts Fss es.1

choices : (Fss : List (List Field)) (es : Each Bool Fss) → Exacts Fss es → IsExact (by false false Fss es)
choices [] es all x y = absurd x
choices (Fs ∷ Fss) es all (inl x) (inl y) = (λ e. ap inl ((all.0 x y).0 e), λ e. (all.0 x y).1 (ap (left_or x) e))
choices (Fs ∷ Fss) es all (inl x) (inr y) = (λ e. absurd (true≢false (sym e)), λ e. ap on_left e)
  where
    on_left : Choice (Fs ∷ Fss) → Bool
    on_left (inl z) = false
    on_left (inr z) = true
choices (Fs ∷ Fss) es all (inr x) (inl y) = (λ e. absurd (true≢false (sym e)), λ e. ap on_right e)
  where
    on_right : Choice (Fs ∷ Fss) → Bool
    on_right (inl z) = true
    on_right (inr z) = false
choices (Fs ∷ Fss) es all (inr x) (inr y) = (λ e. ap inr ((choices Fss es.1 all.1 x y).0 e), λ e. (choices Fss es.1 all.1 x y).1 (ap (right_or x) e))

variants : (N : Record) (es : Each Bool N.parts) → Exacts N.parts es → (x y : N.D) → Decides (by false false N.parts es (N.as_values x) (N.as_values y)) (x ≡ y)
variants N es all x y = let d = choices N.parts es all (N.as_values x) (N.as_values y) in (λ e. values_one N x y (d.0 e), λ e. d.1 (ap N.as_values e))

-- ---- what the fields are of

module _ {A : Type 0} {E : A → A → Bool} (s : IsExact E) where
  is_Some : Option A → Bool
  is_Some None = false
  is_Some (Some z) = true

  options : IsExact (option_eq E)
  unfolding is_Some
  options None None = (λ e. refl, λ e. refl)
  options None (Some y) = (λ e. absurd (true≢false (sym e)), λ e. absurd (true≢false (sym (ap is_Some e))))
  options (Some x) None = (λ e. absurd (true≢false (sym e)), λ e. absurd (true≢false (ap is_Some e)))
  options (Some x) (Some y) = (λ e. ap Some ((s x y).0 e), λ e. (s x y).1 (ap (λ z. unwrap_or z x) e))

versions : IsExact same_version
versions = same_version_tells

records : IsExact same_record
records a b = (same_record-is a b, λ e. ap (same_record a) (sym e) ∙ same_record-own a)

blocks : IsExact block_test.ghosts.eq
blocks = through (λ b. (b.offset, (b.size, b.hash))) (λ f. record { offset = f.0; size = f.1.0; hash = f.1.1 }) (λ b. refl)
    (before unsigned_Decides (before unsigned_Decides bytes_eq-Decides))

-- ---- each type

pub infos : IsExact info_test.ghosts.eq
infos = through (λ t. (t.number, (t.name, (t.base, t.target))))
    (λ f. record { number = f.0; name = f.1.0; base = f.1.1.0; target = f.1.1.1 }) (λ t. refl)
    (before unsigned_Decides (before bytes_eq-Decides (before (options records) records)))

pub contents : IsExact content_test.ghosts.eq
contents = variants content.enum _
    (point, (before unsigned_Decides (before unsigned_Decides (one (pointwise_decides blocks))), tt))

pub findings : IsExact finding_test.ghosts.eq
findings = through (λ f. (f.content, (f.modified_s, f.modified_ns)))
    (λ g. record { content = g.0; modified_s = g.1.0; modified_ns = g.1.1 }) (λ f. refl)
    (before contents (before signed_Decides signed_Decides))

pub places : IsExact place_test.ghosts.eq
places = through (λ p. (p.name, (p.offset, p.size)))
    (λ f. record { name = f.0; offset = f.1.0; size = f.1.1 }) (λ p. refl)
    (before bytes_eq-Decides (before unsigned_Decides unsigned_Decides))

pub bests : IsExact best_test.ghosts.eq
bests = through (λ b. (b.record, b.devices)) (λ f. record { «record» = f.0; devices = f.1 }) (λ b. refl)
    (before records (pointwise_decides bytes_eq-Decides))

pub announcements : IsExact announcement_test.ghosts.eq
announcements = through (λ a. (a.device, a.record)) (λ f. record { device = f.0; «record» = f.1 }) (λ a. refl)
    (before bytes_eq-Decides records)

pub counts : IsExact counts_test.ghosts.eq
counts = through (λ c. (c.files, (c.directories, (c.deletions, (c.needed, (c.others, (c.pulls, c.last)))))))
    (λ f. record { files = f.0; directories = f.1.0; deletions = f.1.1.0; needed = f.1.1.1.0; others = f.1.1.1.1.0; pulls = f.1.1.1.1.1.0; last = f.1.1.1.1.1.1 }) (λ c. refl)
    (before unsigned_Decides (before unsigned_Decides (before unsigned_Decides (before unsigned_Decides (before unsigned_Decides (before unsigned_Decides unsigned_Decides))))))

pub answers : IsExact answer_test.ghosts.eq
answers = variants answer.enum _ (
  point,
  (
    point,
    (
      point,
      (
        point,
        (
          point,
          (
            point,
            (
              point,
              (
                point,
                (
                  point,
                  (
                    point,
                    (
                      point,
                      (
                        point,
                        (
                          one (options versions),
                          (
                            one unsigned_Decides,
                            (
                              one unsigned_Decides,
                              (
                                one infos,
                                (
                                  one infos,
                                  tt,
                                ),
                              ),
                            ),
                          ),
                        ),
                      ),
                    ),
                  ),
                ),
              ),
            ),
          ),
        ),
      ),
    ),
  ),
)

pub changes : IsExact change_test.ghosts.eq
changes = variants change.enum _ (
  before bytes_eq-Decides (before (options versions) (before findings (one unsigned_Decides))),
  (
    before bytes_eq-Decides (before (options versions) (one unsigned_Decides)),
    (
      before bytes_eq-Decides (one (pointwise_decides records)),
      (
        before bytes_eq-Decides (one (pointwise_decides records)),
        (
          one bytes_eq-Decides,
          (
            one bytes_eq-Decides,
            (
              one infos,
              (
                before infos (one records),
                (
                  one infos,
                  (
                    one infos,
                    tt,
                  ),
                ),
              ),
            ),
          ),
        ),
      ),
    ),
  ),
)
