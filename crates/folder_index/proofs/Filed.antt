-- The places of the blocks of records, as records are filed and taken out.
use Rattle.std.proofs.Common.{◌≡◌, ◌≢◌, ℕ, zero, suc, true, List, [], ◌∷◌, refl, sym, ap, subst, ◌∙◌, ◌⊎◌, inl, inr}
use Rattle.std.specs.Prelude.{◌&&◌, ◌||◌, not, Some, None, slice_get}
use Rattle.std.specs.Cmp.{nat_cmp_total}
use Rattle.std.specs.FinMap.{IsAntisymmetric, empty, get, get-empty, insert, nat_cmp-IsAntisymmetric, remove, same_map}
use Rattle.std.specs.FinSet.{contains, contains-empty, empty as no_places}
use Rattle.std.specs.Option.{option_map_or}
use Rattle.std.specs.Ordering.{nat_cmp}
use Rattle.std.proofs.Math.Bool.{or-true}
use Rattle.std.proofs.lemmas.Bool.{and_parts, cases_eq, false_from_ne_true, or_cases, true≢false}
use Rattle.std.proofs.lemmas.Option.{none-some}
use Rattle.sync_blocks.specs.declared.block.Block.{Block}
use Rattle.sync_record.specs.Records.{FileRecord}
use Rattle.folder_core.proofs.AnnouncedMaps.{insert_here, insert_other, remove_here, remove_other}
use Rattle.folder_core.proofs.ListTests.{In}
use Rattle.folder_index.specs.Digests.{HasNone, Places, Spot, spot_cmp, spots, start_of, with_blocks, without_blocks}
use Rattle.folder_index.specs.Locals.{AreFiled, blocks_at, live_blocks}
use Rattle.folder_index.specs.Sequences.{Sequenced}
use Rattle.folder_index.proofs.Digested.{contains-with, contains-without, in_any_order, is_block, is_one_of, not_of_other, of_block}

exact : IsAntisymmetric nat_cmp
exact = nat_cmp-IsAntisymmetric

-- ---- the blocks of a sequence's record

module _ (records : Sequenced) (q : ℕ) where
  pub none_at : get records q ≡ None → blocks_at records q ≡ []
  none_at none = ap (λ o. option_map_or live_blocks o []) none

  pub some_at : (r : FileRecord) → get records q ≡ Some r → blocks_at records q ≡ live_blocks r
  some_at r some = ap (λ o. option_map_or live_blocks o []) some

  pub at_inserted : (r : FileRecord) → blocks_at (insert records q r) q ≡ live_blocks r
  at_inserted r = ap (λ o. option_map_or live_blocks o []) (insert_here nat_cmp_total exact records q r)

  at_removed : blocks_at (remove records q) q ≡ []
  at_removed = ap (λ o. option_map_or live_blocks o []) (remove_here nat_cmp_total exact records q)

  module _ (p : ℕ) (other : p ≢ q) where
    inserted_at : (r : FileRecord) → blocks_at (insert records q r) p ≡ blocks_at records p
    inserted_at r = ap (λ o. option_map_or live_blocks o []) (insert_other nat_cmp_total exact records q p r other)

    removed_at : blocks_at (remove records q) p ≡ blocks_at records p
    removed_at = ap (λ o. option_map_or live_blocks o []) (remove_other nat_cmp_total exact records q p other)

no_item : (bs : List Block) (i : ℕ) (b : Block) → bs ≡ [] → slice_get bs i ≡ Some b → ⊥
no_item bs i b none e = none-some b (sym (ap (λ l. slice_get l i) none) ∙ e)

pub item_in : (bs : List Block) (i : ℕ) (b : Block) → slice_get bs i ≡ Some b → In b bs
item_in [] i b e = absurd (none-some b e)
item_in (x ∷ bs) zero b e = inl (let s : Some x ≡ Some b = e in cc)
item_in (x ∷ bs) (suc i) b e = inr (item_in bs i b e)

-- what is put where something was taken away is put in its place
put_again : (records : Sequenced) (q : ℕ) (r : FileRecord) → insert (remove records q) q r ≡ insert records q r
put_again records q r = same_map nat_cmp_total exact (insert (remove records q) q r) (insert records q r) (λ p. by p (cases_eq p q))
  where
    by : (p : ℕ) → (p ≡ q) ⊎ (p ≢ q) → get (insert (remove records q) q r) p ≡ get (insert records q r) p
    by p (inl s) = ap (get (insert (remove records q) q r)) s ∙ insert_here nat_cmp_total exact (remove records q) q r ∙ sym (ap (get (insert records q r)) s ∙ insert_here nat_cmp_total exact records q r)
    by p (inr other) = insert_other nat_cmp_total exact (remove records q) q p r other ∙ remove_other nat_cmp_total exact records q p other ∙ sym (insert_other nat_cmp_total exact records q p r other)

-- ---- records that are filed and taken out

pub nothing_filed : (number : ℕ → ℕ) → AreFiled number empty no_places
nothing_filed number = record {
  has = λ q i b e. absurd (no_item (blocks_at empty q) i b (none_at empty q (get-empty nat_cmp q)) e);
  only = λ s t. absurd (true≢false (sym t ∙ contains-empty spot_cmp s));
}

-- no block is under a number that no sequence has
pub unused_at : (number : ℕ → ℕ) (records : Sequenced) (places : Places) (are : AreFiled number records places) (o : ℕ) → ((p : ℕ) → o ≢ number p) → HasNone o places
unused_at number records places are o unlike = λ start i. false_from_ne_true (contains places (start, o, i)) (λ t.
    let f = are.only (start, o, i) t in
    unlike f.0 (ap (λ (s : Spot). s.1) f.3))

module _ (number : ℕ → ℕ) (apart : (p q : ℕ) → number p ≡ number q → p ≡ q) (records : Sequenced) (places : Places) (are : AreFiled number records places) (q : ℕ) where
  -- no block is under the number of a sequence without a record
  pub nothing_at : get records q ≡ None → HasNone (number q) places
  nothing_at none = λ start i. false_from_ne_true (contains places (start, number q, i)) (λ t.
      let f = are.only (start, number q, i) t in
      no_item (blocks_at records f.0) i f.1 (ap (blocks_at records) (sym (apart q f.0 (ap (λ (s : Spot). s.1) f.3))) ∙ none_at records q none) f.2)

  -- a record is filed where there is none
  pub filed : (r : FileRecord) → get records q ≡ None → AreFiled number (insert records q r) (with_blocks (number q) (live_blocks r) places)
  filed r none = record {
    has = λ p i b e. has_by p i b e (cases_eq p q);
    only = λ s t. only_by s (or_cases (contains places s) (is_one_of s (spots (number q) (live_blocks r))) (sym (contains-with (number q) (live_blocks r) places s) ∙ t));
  }
    where
      has_by : (p i : ℕ) (b : Block) → slice_get (blocks_at (insert records q r) p) i ≡ Some b → (p ≡ q) ⊎ (p ≢ q) → contains (with_blocks (number q) (live_blocks r) places) (start_of b.hash, number p, i) ≡ true
      has_by p i b e (inl s) =
          let spot : Spot = (start_of b.hash, number q, i) in
          let here = sym (ap (λ n. slice_get (blocks_at (insert records q r) n) i) s ∙ ap (λ bs. slice_get bs i) (at_inserted records q r)) ∙ e in
          ap (λ n. contains (with_blocks (number q) (live_blocks r) places) (start_of b.hash, number n, i)) s
          ∙ contains-with (number q) (live_blocks r) places spot
          ∙ ap (λ t. contains places spot || t) (is_block (number q) (live_blocks r) i b here)
          ∙ or-true (contains places spot)
      has_by p i b e (inr other) =
          let spot : Spot = (start_of b.hash, number p, i) in
          contains-with (number q) (live_blocks r) places spot
          ∙ ap (λ t. t || is_one_of spot (spots (number q) (live_blocks r))) (are.has p i b (sym (ap (λ bs. slice_get bs i) (inserted_at records q p other r)) ∙ e))

      only_by : (s : Spot) → (contains places s ≡ true) ⊎ (is_one_of s (spots (number q) (live_blocks r)) ≡ true) → (p : ℕ) × (b : Block) × (slice_get (blocks_at (insert records q r) p) s.2 ≡ Some b) × (s ≡ (start_of b.hash, number p, s.2))
      only_by s (inl t) =
          let old = are.only s t in
          let other : old.0 ≢ q = λ same. no_item (blocks_at records old.0) s.2 old.1 (ap (blocks_at records) same ∙ none_at records q none) old.2 in
          (old.0, old.1, ap (λ bs. slice_get bs s.2) (inserted_at records q old.0 other r) ∙ old.2, old.3)
      only_by s (inr t) =
          let new = of_block (number q) (live_blocks r) s t in
          (q, new.0, ap (λ bs. slice_get bs s.2) (at_inserted records q r) ∙ new.1, new.2)

  -- the record of a sequence is taken out
  pub unfiled : AreFiled number (remove records q) (without_blocks (number q) (blocks_at records q) places)
  unfiled = record {
    has = λ p i b e. has_by p i b e (cases_eq p q);
    only = λ s t. only_by s (and_parts (contains places s) (not (is_one_of s (spots (number q) (blocks_at records q)))) (sym (contains-without (number q) (blocks_at records q) places s) ∙ t));
  }
    where
      has_by : (p i : ℕ) (b : Block) → slice_get (blocks_at (remove records q) p) i ≡ Some b → (p ≡ q) ⊎ (p ≢ q) → contains (without_blocks (number q) (blocks_at records q) places) (start_of b.hash, number p, i) ≡ true
      has_by p i b e (inl s) = absurd (no_item (blocks_at (remove records q) p) i b (ap (blocks_at (remove records q)) s ∙ at_removed records q) e)
      has_by p i b e (inr other) =
          let spot : Spot = (start_of b.hash, number p, i) in
          let old = are.has p i b (sym (ap (λ bs. slice_get bs i) (removed_at records q p other)) ∙ e) in
          let unlike = not_of_other (number p) (number q) (blocks_at records q) spot refl (λ s. other (apart p q s)) in
          contains-without (number q) (blocks_at records q) places spot ∙ (λ j. old j && not (unlike j))

      only_by : (s : Spot) → (contains places s ≡ true) × (not (is_one_of s (spots (number q) (blocks_at records q))) ≡ true) → (p : ℕ) × (b : Block) × (slice_get (blocks_at (remove records q) p) s.2 ≡ Some b) × (s ≡ (start_of b.hash, number p, s.2))
      only_by s t =
          let old = are.only s t.0 in
          let other : old.0 ≢ q = λ same.
          let here = ap (λ p. slice_get (blocks_at records p) s.2) (sym same) ∙ old.2 in
          let there = ap (λ (x : Spot). is_one_of x (spots (number q) (blocks_at records q))) (old.3 ∙ (λ j. (start_of old.1.hash, number (same j), s.2))) ∙ is_block (number q) (blocks_at records q) s.2 old.1 here in
          true≢false (sym t.1 ∙ ap not there) in
          (old.0, old.1, ap (λ bs. slice_get bs s.2) (removed_at records q old.0 other) ∙ old.2, old.3)

  -- a sequence without a record may have another number
  pub renumbered : (next : ℕ → ℕ) → get records q ≡ None → ((p : ℕ) → p ≢ q → next p ≡ number p) → AreFiled next records places
  renumbered next none same = record {
    has = λ p i b e. ap (λ n. contains places (start_of b.hash, n, i)) (same p (not_here p i b e)) ∙ are.has p i b e;
    only = λ s t.
        let old = are.only s t in
        (old.0, old.1, old.2, old.3 ∙ (λ j. (start_of old.1.hash, sym (same old.0 (not_here old.0 s.2 old.1 old.2)) j, s.2)));
  }
    where
      not_here : (p i : ℕ) (b : Block) → slice_get (blocks_at records p) i ≡ Some b → p ≢ q
      not_here p i b e s = no_item (blocks_at records p) i b (ap (blocks_at records) s ∙ none_at records q none) e

-- a record is put in place of the one of its sequence, with its blocks under another number
pub exchanged : (number next : ℕ → ℕ) (apart : (p q : ℕ) → number p ≡ number q → p ≡ q) (afterwards : (p q : ℕ) → next p ≡ next q → p ≡ q) (records : Sequenced) (places : Places) (are : AreFiled number records places) (q : ℕ) (r : FileRecord)
    → ((p : ℕ) → p ≢ q → next p ≡ number p) → next q ≢ number q
    → AreFiled next (insert records q r) (without_blocks (number q) (blocks_at records q) (with_blocks (next q) (live_blocks r) places))
exchanged number next apart afterwards records places are q r same unlike =
    let taken = unfiled number apart records places are q in
    let none = remove_here nat_cmp_total exact records q in
    let left = without_blocks (number q) (blocks_at records q) places in
    let put = filed next afterwards (remove records q) left (renumbered number apart (remove records q) left taken q next none same) q r none in
    subst (λ m. AreFiled next m (without_blocks (number q) (blocks_at records q) (with_blocks (next q) (live_blocks r) places))) (put_again records q r)
    (subst (AreFiled next (insert (remove records q) q r)) (in_any_order (next q) (number q) (live_blocks r) (blocks_at records q) places unlike) put)
