-- When a conflict copy is due.
use Rattle.std.proofs.Common.{◌≡◌, ◌≢◌, ◌↔◌, true, false, refl, sym, ap, ◌∙◌}
use Rattle.std.specs.Prelude.{ℤ, pos, Option, Some, None, not, IsTrue}
use Rattle.std.proofs.lemmas.Bool.{true≢false, and_parts, and_from, not-true, not_from_false, false_from_ne_true}
use Rattle.std.proofs.lemmas.Bool.Decides.{Decides-int_eq}
use Rattle.std.proofs.lemmas.Option.{none-some}
use Rattle.sync_version.proofs.Lemmas.{covers_tells}
use Rattle.sync_version.specs.Computed.{covers}
use Rattle.sync_version.specs.Versions.{Vector, Covers}
use Rattle.sync_record.specs.Contents.{same_content}
use Rattle.sync_record.specs.Records.{FileRecord, is_file}
use Rattle.folder_core.specs.Steps.{is_copy_due}
use Rattle.folder_core.proofs.ListTests.{inside}

uncovered : (a b : Vector) → covers a b ≡ false → ¬ (Covers a b)
uncovered a b e c = true≢false (sym ((covers_tells a b).1 c) ∙ e)

not_covering : (a b : Vector) → ¬ (Covers a b) → not (covers a b) ≡ true
not_covering a b n = not_from_false (covers a b) (false_from_ne_true (covers a b) (λ t. n ((covers_tells a b).0 t)))

-- over which file a target is put that is in conflict with it
abbrev pub InConflict : ℤ → Option FileRecord → FileRecord → Type 0
InConflict most_copies base target =
    (b : FileRecord) × (base ≡ Some b) × (most_copies ≢ pos 0) × (b.deleted ≡ false) × IsTrue (is_file b) × (target.deleted ≡ false)
    × ¬ (Covers b.version target.version) × ¬ (Covers target.version b.version) × (same_content b target ≡ false)

pub copy-due : (most_copies : ℤ) (base : Option FileRecord) (target : FileRecord) → IsTrue (is_copy_due most_copies base target) ↔ InConflict most_copies base target
copy-due most_copies None target = (λ e. absurd (true≢false (sym e)), λ c. absurd (none-some c.0 c.1))
copy-due most_copies (Some base) target = (
  λ e.
      let other = and_parts _ _ e in
      let after_it = and_parts _ _ other.0 in
      let ahead = and_parts _ _ after_it.0 in
      let file = and_parts _ _ ahead.0 in
      let live = and_parts _ _ file.0 in
      let kept = and_parts _ _ live.0 in (
        base,
        refl,
        (λ none. true≢false (sym ((Decides-int_eq most_copies (pos 0)).1 none) ∙ not-true _ kept.0)),
        not-true base.deleted live.1,
        file.1,
        not-true target.deleted kept.1,
        uncovered base.version target.version (not-true _ ahead.1),
        uncovered target.version base.version (not-true _ after_it.1),
        not-true _ other.1,
      ),
  λ c.
      let same : base ≡ c.0 = inside base c.0 c.1 in
      ap (λ b. is_copy_due most_copies (Some b) target) same
      ∙ and_from _ _ (and_from _ _ (and_from _ _ (and_from _ _ (and_from _ _ (and_from _ _
      (not_from_false _ (false_from_ne_true _ (λ t. c.2 ((Decides-int_eq most_copies (pos 0)).0 t)))) (not_from_false _ c.5)) (not_from_false _ c.3)) c.4)
      (not_covering c.0.version target.version c.6)) (not_covering target.version c.0.version c.7)) (not_from_false _ c.8),
)
