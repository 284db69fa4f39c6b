-- What a deletion, and what is skipped, says of the store's answers.
use Rattle.std.proofs.Common.{◌≡◌, ◌⊎◌, ◌<◌, ◌≤◌, ℕ, List, length, true, false, Bool, Option, inl, inr, arith, refl, sym, ap, subst, ◌∙◌}
use Rattle.std.specs.Prelude.{◌^◌, pos, Contains}
use Rattle.std.proofs.lemmas.Bool.{true≢false}
use Rattle.std.proofs.lemmas.List.Folds.{list_any_at}
use Rattle.sync_blocks.specs.declared.block.Block.{Block}
use Rattle.sync_blocks.specs.BlockList.{block_list}
use Rattle.sync_record.specs.Records.{FileRecord}
use Rattle.folder_core.specs.declared.finding.Finding.{Finding}
use Rattle.folder_core.specs.declared.finding.FoundContent.TheVariants as content
use Rattle.folder_calls.specs.Shared.{CallerView}
use Rattle.file_store.specs.Names.{Name, is_parent}
use Rattle.file_store.specs.declared.node.Stat.TheVariants as stat
use Rattle.sync_scan.specs.AllNames.{UnlessBelow, is_below_any}
use Rattle.sync_scan.specs.Looks.{IsTold, LeadsTo, block_size_of}
use Rattle.sync_scan.specs.Told.{Giving, HasNoOtherParent, HasOtherParent, ReadsOther, ReadsWhole, Says}
use Rattle.sync_scan.specs.declared.scanned.Look.{Look}
use Rattle.sync_scan.specs.declared.scanned.Look.TheVariants.{Found, Gone, Skipped, Changing}

module _ {S : Type 0} (gives : Giving S) (n : Name) (local : Option FileRecord) where
  pub gone-told : IsTold gives n local Gone → Says gives n stat.Missing × HasNoOtherParent gives n
  gone-told (stat.Missing, says, none) = (says, none)
  gone-told (stat.Directory, says, never) = absurd never
  gone-told (stat.File size modified, says, never) = absurd never
  gone-told (stat.Other, says, never) = absurd never

  pub other-told : (look : Look) → LeadsTo gives n local stat.Other look → look ≡ Skipped
  other-told Skipped leads = refl
  other-told Gone never = absurd never
  other-told Changing never = absurd never
  other-told (Found f) never = absurd never

  pub skipped-told : IsTold gives n local Skipped
      → Says gives n stat.Other ⊎ (Says gives n stat.Missing × HasOtherParent gives n) ⊎ ((size modified : ℕ) × Says gives n (stat.File size modified) × (2 ^ 46 < size))
  skipped-told (stat.Missing, says, other) = inr (inl (says, other))
  skipped-told (stat.Directory, says, never) = absurd never
  skipped-told (stat.File size modified, says, more) = inr (inr (size, modified, says, more))
  skipped-told (stat.Other, says, u) = inl says

  pub changing-told : IsTold gives n local Changing → (size modified : ℕ) × Says gives n (stat.File size modified) × ReadsOther gives n size
  changing-told (stat.Missing, says, never) = absurd never
  changing-told (stat.Directory, says, never) = absurd never
  changing-told (stat.File size modified, says, (within, other)) = (size, modified, says, other)
  changing-told (stat.Other, says, never) = absurd never

  module _ (found : Finding) where
    pub directory-told : IsTold gives n local (Found found) → found.content ≡ content.Directory → Says gives n stat.Directory
    directory-told (stat.Missing, says, never) is = absurd never
    directory-told (stat.Directory, says, e) is = says
    directory-told (stat.File size modified, says, (within, r)) is =
        let size = block_size_of local r.first in
        let apart : content.File (length r.bytes) size (block_list r.bytes size) ≡ content.Directory = sym (ap (λ (f : Finding). f.content) r.is) ∙ is in
        absurd (cc)
    directory-told (stat.Other, says, never) is = absurd never

    pub file-is-told : (size block_size : ℕ) (blocks : List Block) → IsTold gives n local (Found found) → found.content ≡ content.File size block_size blocks
        → (modified : ℕ) × (bytes : List ℕ) × Says gives n (stat.File size modified) × (found.modified_s ≡ pos modified) × (size ≤ 2 ^ 46) × (length bytes ≡ size) × ReadsWhole gives n bytes
        × (blocks ≡ block_list bytes block_size)
    file-is-told size block_size blocks (stat.Missing, says, never) is = absurd never
    file-is-told size block_size blocks (stat.Directory, says, e) is =
        let apart : content.Directory ≡ content.File size block_size blocks = sym (ap (λ (f : Finding). f.content) e) ∙ is in
        absurd (cc)
    file-is-told size block_size blocks (stat.File long modified, says, (within, r)) is =
        let own = block_size_of local r.first in
        let same : content.File (length r.bytes) own (block_list r.bytes own) ≡ content.File size block_size blocks = sym (ap (λ (f : Finding). f.content) r.is) ∙ is in
        let sized : length r.bytes ≡ size = cc in
        let cut : own ≡ block_size = cc in
        let listed : block_list r.bytes own ≡ blocks = cc in (
          modified,
          r.bytes,
          subst (λ k. Says gives n (stat.File k modified)) (sym r.long ∙ sized) says,
          ap (λ (f : Finding). f.modified_s) r.is,
          (let at = r.long in omega (arith, within, sized, at)),
          sized,
          r.read,
          sym listed ∙ ap (block_list r.bytes) cut,
        )
    file-is-told size block_size blocks (stat.Other, says, never) is = absurd never

is-gone : Look → Bool
is-gone Gone = true
is-gone Skipped = false
is-gone Changing = false
is-gone (Found f) = false

-- what is below an unread directory is no deletion
pub gone-apart : (may : Name → CallerView → Look → Type 0) (unread : List Name) (d n : Name) (v : CallerView) → Contains unread d → is_parent d n ≡ true
    → UnlessBelow unread may n v Gone → ⊥
unfolding is-gone
gone-apart may unread d n v (k, within, at) below found =
    let is : is_below_any unread n ≡ true = list_any_at (λ e. is_parent e n) unread k d within (ap (λ e. is_parent e n) at ∙ below) in
    true≢false (ap is-gone (found.0 is))
