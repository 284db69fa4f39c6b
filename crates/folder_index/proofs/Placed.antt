-- Where a block is found is one of the folder's places.
use Rattle.std.proofs.Common.{◌≡◌, ◌≢◌, ◌∷◌, ◌++◌, List, ℕ, suc, Bool, true, false, [], refl, sym, ap, subst, ◌∙◌, ◌⊎◌, inl, inr}
use Rattle.std.specs.Prelude.{bytes_eq, cond, find, Option, Some, None, Contains, option_map, slice_get}
use Rattle.std.specs.FinMap.{get}
use Rattle.std.specs.Option.{option_map_or}
use Rattle.std.proofs.lemmas.Bool.{true≢false}
use Rattle.std.proofs.lemmas.Option.{none-some}
use Rattle.sync_blocks.specs.declared.block.Block.{Block}
use Rattle.sync_record.specs.Records.{FileRecord, is_live_file}
use Rattle.folder_core.specs.declared.place.Place.{Place}
use Rattle.folder_core.specs.Codes.{Bytes}
use Rattle.folder_core.specs.Reads.{IsSomePlace, places as places_of}
use Rattle.folder_core.proofs.ListTests.{In, alike_bytes, contains_in, found_in, in_contains, inside, same_bytes}
use Rattle.folder_core.proofs.ReadAnswers.{IsPlaceOf, no_place-read, place-read}
use Rattle.folder_index.specs.declared.local.Local.{Local}
use Rattle.folder_index.specs.Indexes.{IndexState, folder}
use Rattle.folder_index.specs.Locals.{HasNoBlock, IsBlockPlace, IsIndex, IsPlaceAmong, all_local, blocks_at, has_digest, live_blocks, placed}
use Rattle.folder_index.specs.Sequences.{Sequenced}
use Rattle.folder_index.proofs.Lately.{get_below, get_latest, latest_of}
use Rattle.folder_index.proofs.Filed.{item_in, none_at, some_at}

-- a record with a block is a live file, and the block is one of its blocks
live_block : (r : FileRecord) (i : ℕ) (b : Block) → slice_get (live_blocks r) i ≡ Some b → (is_live_file r ≡ true) × (slice_get r.blocks i ≡ Some b)
live_block r i b e = by (is_live_file r) refl e
  where
    by : (t : Bool) → is_live_file r ≡ t → slice_get (cond t r.blocks []) i ≡ Some b → (is_live_file r ≡ true) × (slice_get r.blocks i ≡ Some b)
    by true t f = (t, f)
    by false t f = absurd (none-some b f)

-- a block of a live file, among all of its blocks
among_blocks : (r : FileRecord) (b : Block) → In b (live_blocks r) → (is_live_file r ≡ true) × In b r.blocks
among_blocks r b i = by (is_live_file r) refl i
  where
    by : (t : Bool) → is_live_file r ≡ t → In b (cond t r.blocks []) → (is_live_file r ≡ true) × In b r.blocks
    by true t j = (t, j)
    by false t j = absurd j

-- a block is at one of the places
place_of : (bs : List Block) (b : Block) → In b bs → (i : ℕ) × (slice_get bs i ≡ Some b)
place_of [] b i = absurd i
place_of (x ∷ bs) b (inl s) = (0, ap Some (sym s))
place_of (x ∷ bs) b (inr i) = let k = place_of bs b i in (suc k.0, k.1)

module _ (records : Sequenced) (hash : Bytes) (q i : ℕ) where
  -- the block that has the digest
  pub with_digest : has_digest records hash q i ≡ true → (b : Block) × (slice_get (blocks_at records q) i ≡ Some b) × (b.hash ≡ hash)
  with_digest t = by (slice_get (blocks_at records q) i) t
    where
      by : (o : Option Block) → option_map_or (λ b. bytes_eq b.hash hash) o false ≡ true → (b : Block) × (o ≡ Some b) × (b.hash ≡ hash)
      by None f = absurd (true≢false (sym f))
      by (Some b) f = (b, refl, same_bytes b.hash hash f)

  pub has_this : (b : Block) → slice_get (blocks_at records q) i ≡ Some b → b.hash ≡ hash → has_digest records hash q i ≡ true
  has_this b at same = ap (λ o. option_map_or (λ b. bytes_eq b.hash hash) o false) at ∙ alike_bytes b.hash hash same

-- a block that is found in a live file among records, and none that is found
module _ (rs : List FileRecord) (hash : Bytes) (r : FileRecord) where
  abbrev is_wanted : Block → Bool
  is_wanted b = bytes_eq b.hash hash

  pub block_found : (b : Block) → Contains rs r → Some b ≡ find is_wanted (live_blocks r) → IsBlockPlace rs hash (placed r b)
  block_found b among found =
      let f = found_in is_wanted (live_blocks r) b (sym found) in
      record { it = r; block = b; among = among; has = in_contains (live_blocks r) b f.0; digest = same_bytes b.hash hash f.1; place = refl }

  not_found : (bs : List Block) → None ≡ find is_wanted bs → (b : Block) → In b bs → b.hash ≢ hash
  not_found [] none b i = absurd i
  not_found (x ∷ bs) none b i = by (is_wanted x) refl none i (not_found bs)
    where
      by : (t : Bool) → is_wanted x ≡ t → None ≡ cond t (Some x) (find is_wanted bs) → (b ≡ x) ⊎ In b bs → (None ≡ find is_wanted bs → (b : Block) → In b bs → b.hash ≢ hash) → b.hash ≢ hash
      by true t e j rest = absurd (none-some x e)
      by false t e (inl s) rest = λ same. true≢false (sym (alike_bytes x.hash hash (ap (λ (y : Block). y.hash) (sym s) ∙ same)) ∙ t)
      by false t e (inr j) rest = rest e b j

  either : (xs : List FileRecord) (x : FileRecord) → In x (xs ++ r ∷ []) → In x xs ⊎ (x ≡ r)
  either [] x (inl s) = inr s
  either [] x (inr i) = absurd i
  either (y ∷ ys) x (inl s) = inl (inl s)
  either (y ∷ ys) x (inr i) = by (either ys x i)
    where
      by : In x ys ⊎ (x ≡ r) → In x (y ∷ ys) ⊎ (x ≡ r)
      by (inl j) = inl (inr j)
      by (inr s) = inr s

  pub none_more : HasNoBlock rs hash → None ≡ find is_wanted (live_blocks r) → HasNoBlock (rs ++ r ∷ []) hash
  none_more none absent p b = by (either rs b.it (contains_in (rs ++ r ∷ []) b.it b.among))
    where
      by : In b.it rs ⊎ (b.it ≡ r) → ⊥
      by (inl i) = none p (record { it = b.it; block = b.block; among = in_contains rs b.it i; has = b.has; digest = b.digest; place = b.place })
      by (inr s) = not_found (live_blocks r) absent b.block (contains_in (live_blocks r) b.block (subst (λ x. Contains (live_blocks x) b.block) s b.has)) b.digest

module _ (s : IndexState) (l : Local) (is : IsIndex s l) (hash : Bytes) where
  -- a filed record is one of all
  filed_all : (q : ℕ) (r : FileRecord) → get l.records q ≡ Some r → get (all_local l) q ≡ Some r
  filed_all q r e = get_below l.latest.records l.records q (is.kept.latest.above q r e) ∙ e

  -- what is found under a digest, of a sequence
  pub record Found (q i : ℕ) : Type 0 where
    pub it : FileRecord
    pub block : Block
    pub filed : get l.records q ≡ Some it
    pub at : slice_get it.blocks i ≡ Some block
    pub place : IsSomePlace (folder s) hash (Some (record { name = it.name; offset = block.offset; size = block.size }))

  found_by : (q i : ℕ) (b : Block) → slice_get (blocks_at l.records q) i ≡ Some b → b.hash ≡ hash → (o : Option FileRecord) → get l.records q ≡ o → Found q i
  found_by q i b at same None e = absurd (none-some b (sym (ap (λ bs. slice_get bs i) (none_at l.records q e)) ∙ at))
  found_by q i b at same (Some r) e =
      let live = live_block r i b (ap (λ bs. slice_get bs i) (sym (some_at l.records q r e)) ∙ at) in
      record {
        it = r;
        block = b;
        filed = e;
        at = live.1;
        place = (place-read (folder s) hash (record { name = r.name; offset = b.offset; size = b.size })).1
            (r.name, r, b, (is.locals.only q r (filed_all q r e)).2, live.0, in_contains r.blocks b (item_in r.blocks i b live.1), same, refl);
      }

  pub found_at : (q i : ℕ) → has_digest l.records hash q i ≡ true → Found q i
  found_at q i t =
      let b = with_digest l.records hash q i t in
      found_by q i b.0 b.1 b.2 (get l.records q) refl

  pub nowhere : ((q i : ℕ) → has_digest l.records hash q i ≡ false) → HasNoBlock l.latest.records hash → IsSomePlace (folder s) hash None
  nowhere none not_last = (no_place-read (folder s) hash).1 (λ p there. by p there (latest_of l.latest.records l.records there.1.sequence there.1 (is.locals.has there.0 there.1 there.3)))
    where
      by : (p : Place) (there : IsPlaceOf (folder s) hash p) → (get l.records there.1.sequence ≡ Some there.1) ⊎ In there.1 l.latest.records → ⊥
      by p there (inl filed) =
          let r = there.1 in
          let blocks : live_blocks r ≡ r.blocks = ap (λ t. cond t r.blocks []) there.4 in
          let at = place_of r.blocks there.2 (contains_in r.blocks there.2 there.5) in
          let here = ap (λ bs. slice_get bs at.0) (some_at l.records r.sequence r filed ∙ blocks) ∙ at.1 in
          true≢false (sym (has_this l.records hash r.sequence at.0 there.2 here there.6) ∙ none r.sequence at.0)
      by p there (inr i) =
          let r = there.1 in
          let blocks : live_blocks r ≡ r.blocks = ap (λ t. cond t r.blocks []) there.4 in
          not_last p (record {
            it = r;
            block = there.2;
            among = in_contains l.latest.records r i;
            has = subst (λ bs. Contains bs there.2) (sym blocks) there.5;
            digest = there.6;
            place = there.7;
          })

  -- a block of a record that was put last
  pub last_place : (p : Place) → IsBlockPlace l.latest.records hash p → IsSomePlace (folder s) hash (Some p)
  last_place p b =
      let own = is.locals.only b.it.sequence b.it (get_latest l.latest.records is.kept.latest.rises l.records b.it (contains_in l.latest.records b.it b.among)) in
      let live = among_blocks b.it b.block (contains_in (live_blocks b.it) b.block b.has) in
      (place-read (folder s) hash p).1 (b.it.name, b.it, b.block, own.2, live.0, in_contains b.it.blocks b.block live.1, b.digest, b.place)

  pub place_told : ((q i : ℕ) → has_digest l.records hash q i ≡ false) → (found : Option Place) → IsPlaceAmong l.latest.records hash found → IsSomePlace (folder s) hash found
  place_told none None among = nowhere none among
  place_told none (Some p) among = last_place p among

  pub none_last : places_of (folder s) hash ≡ [] → HasNoBlock l.latest.records hash
  none_last none p b = subst (In p) none (contains_in (places_of (folder s) hash) p (last_place p b))

  -- the place that is made of what is found
  pub is_found : (q i : ℕ) (f : Found q i) (r : FileRecord) → Some r ≡ get l.records q → option_map (placed r) (slice_get r.blocks i) ≡ Some (placed f.it f.block)
  is_found q i f r there =
      let same : r ≡ f.it = inside r f.it (there ∙ f.filed) in
      ap (λ (x : FileRecord). option_map (placed x) (slice_get x.blocks i)) same ∙ ap (option_map (placed f.it)) f.at

  pub not_nowhere : (q i : ℕ) → Found q i → places_of (folder s) hash ≡ [] → ⊥
  not_nowhere q i f none = subst (In (placed f.it f.block)) none (contains_in (places_of (folder s) hash) (placed f.it f.block) f.place)
