-- When a finding is what the local record says.
use Rattle.std.proofs.Common.{◌≡◌, ℕ, ◌+◌, Bool, true, false, [], ◌∷◌, refl, sym, ap, ◌∙◌, ◌⊎◌, inl, inr}
use Rattle.std.specs.Prelude.{cond, pos, not, ◌&&◌, ◌||◌, Option, Some, None, unwrap_or, IsTrue}
use Rattle.std.specs.Option.{option_map_or}
use Rattle.std.specs.Ordering.{int_eq}
use Rattle.std.specs.Cmp.Lexicographic.{pointwise, pointwise_decides}
use Rattle.std.proofs.lemmas.Bool.{true≢false, and_parts, and_from, or_cases, or_left, or_right, not-true, not_from_false}
use Rattle.sync_blocks.specs.Tiling.{same_block}
use Rattle.sync_record.specs.Contents.{same_content, same_of_kinds}
use Rattle.sync_record.specs.Infos.{natural}
use Rattle.sync_record.specs.Records.{Name, FileRecord, kind_by, is_file, is_directory}
use Rattle.sync_record.specs.declared.kind.Kind.TheVariants.{File, Directory, Other}
use Rattle.sync_record.proofs.SameRecords.{ints, ints-own, block-Decides}
use Rattle.sync_version.specs.Computed.{is_counter_full}
use Rattle.sync_version.specs.Versions.{Vector}
use Rattle.sync_record.specs.Devices.{short_id}
use Rattle.folder_core.specs.States.{FolderState, local, local_version, same_local_version, is_sequence_full}
use Rattle.folder_core.specs.declared.answer.Answer.{Answer}
use Rattle.folder_core.specs.declared.answer.Answer.TheVariants.{Busy, Moved, Unchanged, CounterFull, SequenceFull, Recorded}
use Rattle.folder_core.specs.declared.change.Change.TheVariants.{ScanFound}
use Rattle.folder_core.specs.declared.finding.Finding.{Finding}
use Rattle.folder_core.specs.declared.finding.FoundContent.{FoundContent}
use Rattle.folder_core.specs.declared.finding.FoundContent.TheVariants.{Directory as FoundDirectory, File as FoundFile}
use Rattle.folder_core.specs.Steps.{first_answer, step, found_record, next_version, with_local, is_pull_committing}
use Rattle.folder_core.proofs.ChangeAnswers.{Idle, found-unchanged}
use Rattle.folder_core.proofs.ChangeCases.{found_now}

-- the record is live and has what was found
abbrev pub HasFound : FoundContent → FileRecord → Type 0
HasFound FoundDirectory r = (r.deleted ≡ false) × IsTrue (is_directory r)
HasFound (FoundFile size block_size blocks) r =
    (r.deleted ≡ false) × IsTrue (is_file r) × (r.size ≡ pos size) × ((size ≡ 0) ⊎ ((r.block_size ≡ pos block_size) × (r.blocks ≡ blocks)))

directory-kind : (a r : FileRecord) → same_of_kinds Directory (kind_by r.type_number) a r ≡ true → is_directory r ≡ true
directory-kind a r =
    elim (int_eq r.type_number (pos 0)) as (λ b. same_of_kinds Directory (cond b File (cond (int_eq r.type_number (pos 1)) Directory Other)) a r ≡ true → is_directory r ≡ true) [
      | true ↦ λ e. absurd (true≢false (sym e))
      | false ↦ elim (int_eq r.type_number (pos 1)) as (λ b. same_of_kinds Directory (cond b Directory Other) a r ≡ true → b ≡ true) [
        | true ↦ λ e. refl
        | false ↦ λ e. absurd (true≢false (sym e))
      ]
    ]

file-kind : (a r : FileRecord) → same_of_kinds File (kind_by r.type_number) a r ≡ true → (is_file r ≡ true) × (same_of_kinds File File a r ≡ true)
file-kind a r =
    elim (int_eq r.type_number (pos 0)) as (λ b. same_of_kinds File (cond b File (cond (int_eq r.type_number (pos 1)) Directory Other)) a r ≡ true → (b ≡ true) × (same_of_kinds File File a r ≡ true)) [
      | true ↦ λ e. (refl, e)
      | false ↦ elim (int_eq r.type_number (pos 1)) as (λ b. same_of_kinds File (cond b Directory Other) a r ≡ true → (false ≡ true) × (same_of_kinds File File a r ≡ true)) [
        | true ↦ λ e. absurd (true≢false (sym e))
        | false ↦ λ e. absurd (true≢false (sym e))
      ]
    ]

module _ (s : FolderState) (n : Name) (v : Vector) (f : Finding) (r : FileRecord) where
  abbrev made : FoundContent → FileRecord
  made c = found_record s n v (record f { content = c })

  pub same-found : (c : FoundContent) → same_content (made c) r ≡ true → HasFound c r
  same-found FoundDirectory e = let t = and_parts (not r.deleted) _ e in (not-true r.deleted t.0, directory-kind (made FoundDirectory) r t.1)
  same-found (FoundFile size block_size blocks) e =
      let t = and_parts (not r.deleted) _ e in
      let k = file-kind (made (FoundFile size block_size blocks)) r t.1 in
      let w = and_parts (int_eq (pos size) r.size) _ k.1 in
      (not-true r.deleted t.0, k.0, sym (ints (pos size) r.size w.0), by (or_cases (int_eq (pos size) (pos 0)) _ w.1))
    where
      by : (int_eq (pos size) (pos 0) ≡ true) ⊎ ((int_eq (pos block_size) r.block_size && pointwise same_block blocks r.blocks) ≡ true)
          → (size ≡ 0) ⊎ ((r.block_size ≡ pos block_size) × (r.blocks ≡ blocks))
      by (inl z) = inl (ap natural (ints (pos size) (pos 0) z))
      by (inr b) =
          let p = and_parts (int_eq (pos block_size) r.block_size) _ b in
          inr (sym (ints (pos block_size) r.block_size p.0), sym ((pointwise_decides block-Decides blocks r.blocks).0 p.1))

  pub found-same : (c : FoundContent) → HasFound c r → same_content (made c) r ≡ true
  found-same FoundDirectory h =
      and_from (not r.deleted) _ (not_from_false r.deleted h.0)
      (ap (λ t. same_of_kinds Directory (kind_by t) (made FoundDirectory) r) (ints r.type_number (pos 1) h.1))
  found-same (FoundFile size block_size blocks) h =
      and_from (not r.deleted) _ (not_from_false r.deleted h.0)
      (ap (λ t. same_of_kinds File (kind_by t) (made (FoundFile size block_size blocks)) r) (ints r.type_number (pos 0) h.1)
      ∙ and_from (int_eq (pos size) r.size) _ (ap (int_eq (pos size)) h.2 ∙ ints-own (pos size)) (by h.3))
    where
      by : (size ≡ 0) ⊎ ((r.block_size ≡ pos block_size) × (r.blocks ≡ blocks)) → (int_eq (pos size) (pos 0) || (int_eq (pos block_size) r.block_size && pointwise same_block blocks r.blocks)) ≡ true
      by (inl z) = or_left _ _ (ap (λ k. int_eq (pos k) (pos 0)) z)
      by (inr b) = or_right (int_eq (pos size) (pos 0)) _ (and_from _ _ (ap (int_eq (pos block_size)) b.0 ∙ ints-own (pos block_size)) ((pointwise_decides block-Decides blocks r.blocks).1 (sym b.1)))

abbrev says_unchanged : Answer → Bool
says_unchanged Unchanged = true
says_unchanged _ = false

differs : (a : Answer) {P : Type 0} → says_unchanged a ≡ false → a ≡ Unchanged → P
differs a other is = absurd (true≢false (ap says_unchanged (sym is) ∙ other))

unchanged-by : (s t : FolderState) (now : Option Vector) (k : ℕ) (busy moved unchanged counter sequence : Bool)
    → (first_answer s ((busy, Busy) ∷ (moved, Moved now) ∷ (unchanged, Unchanged) ∷ (counter, CounterFull) ∷ (sequence, SequenceFull) ∷ []) (Recorded k, t)).0 ≡ Unchanged → unchanged ≡ true
unchanged-by s t now k true b c d e is = differs Busy refl is
unchanged-by s t now k false true c d e is = differs (Moved now) refl is
unchanged-by s t now k false false true d e is = refl
unchanged-by s t now k false false false true e is = differs CounterFull refl is
unchanged-by s t now k false false false false true is = differs SequenceFull refl is
unchanged-by s t now k false false false false false is = differs (Recorded k) refl is

module _ (s : FolderState) (n : Name) (f : Finding) (moment : ℕ) where
  -- the local record is live and has what was found
  abbrev pub HasLocally : FoundContent → Type 0
  HasLocally c = (r : FileRecord) × (local s n ≡ Some r) × HasFound c r

  from-test : (c : FoundContent) (o : Option FileRecord) → local s n ≡ o → option_map_or (same_content (found_record s n (next_version s n moment) (record f { content = c }))) o false ≡ true → HasLocally c
  from-test c None here e = absurd (true≢false (sym e))
  from-test c (Some r) here e = (r, here, same-found s n (next_version s n moment) f r c e)

  pub unchanged-has : (expected : Option Vector) (c : FoundContent) → f.content ≡ c → (step s (ScanFound n expected f moment)).0 ≡ Unchanged → HasLocally c
  unchanged-has expected c found is =
      from-test c (local s n) refl
      (ap (λ x. option_map_or (same_content (found_record s n (next_version s n moment) (record f { content = x }))) (local s n) false) (sym found)
      ∙ unchanged-by s (with_local s (found_now s n f moment)) (local_version s n) (s.last + 1) (is_pull_committing s n) (not (same_local_version (local_version s n) expected))
      (option_map_or (same_content (found_now s n f moment)) (local s n) false) (is_counter_full (unwrap_or (local_version s n) []) (short_id s.me)) (is_sequence_full s) is)

  pub has-unchanged : (c : FoundContent) (r : FileRecord) → Idle s n → local s n ≡ Some r → f.content ≡ c → HasFound c r → (step s (ScanFound n (local_version s n) f moment)).0 ≡ Unchanged
  has-unchanged c r idle here found has =
      found-unchanged s n f moment r idle here
      (ap (λ x. same_content (found_record s n (next_version s n moment) (record f { content = x })) r) found ∙ found-same s n (next_version s n moment) f r c has)
