use Rattle.std.proofs.Common.{◌≡◌, true, refl, sym, ap, ◌∙◌, ◌⊎◌, inl, inr, ◌^◌}
use Rattle.std.specs.Prelude.{not}
use Rattle.std.proofs.lemmas.Bool.{true≢false, and_parts, and_from, or_cases, not-true, lt-ltb}
use Rattle.sync_record.specs.Records.{FileRecord, is_live_file}
use Rattle.sync_record.specs.Validity.{is_valid, describes_file}
use Rattle.folder_core.specs.Steps.{is_recordable}
use Rattle.folder_core.proofs.laws.changes.callers_ensure_no_more.Goals as goal

described : (r : FileRecord) → is_valid r ≡ true → is_live_file r ≡ true → describes_file r.size r.block_size r.blocks ≡ true
described r valid live = by (or_cases _ _ (and_parts _ _ valid).1)
  where
    by : (not (is_live_file r) ≡ true) ⊎ (describes_file r.size r.block_size r.blocks ≡ true) → describes_file r.size r.block_size r.blocks ≡ true
    by (inl none) = absurd (true≢false (sym live ∙ not-true (is_live_file r) none))
    by (inr e) = e

pub returns-clause-indexes : goal.returns-clause-indexes
returns-clause-indexes c = λ s d rs other. (other, other, other)

pub returns-clause-directory : goal.returns-clause-directory
returns-clause-directory c = λ s n expected f moment is. ap is_recordable is

pub returns-clause-file : goal.returns-clause-file
returns-clause-file c = λ s n expected f moment size block_size r valid live shown fits blocks is.
    ap is_recordable is ∙ and_from _ _ (lt-ltb size (2 ^ 63) fits) ((λ i. describes_file (sym shown i) (sym blocks i) r.blocks) ∙ described r valid live)

pub returns-clause-rest : goal.returns-clause-rest
returns-clause-rest c = λ s n expected moment t. (tt, tt, tt, tt, tt)

pub returns-clause-finish : goal.returns-clause-finish
returns-clause-finish c = λ s t assembled. (refl, assembled)
