-- The cuts of files, and the blocks that they stand for.
use Rattle.std.proofs.Common.{◌≡◌, ℕ, zero, suc, ◌+◌, ◌-◌, ◌*◌, ◌<◌, ◌≤◌, List, [], ◌∷◌, ◌++◌, length, take, drop, map, min, arith, refl, sym, ap, ◌∙◌, ⊎_elim, append-nil, append_assoc}
use Rattle.std.specs.Prelude.{Result, Ok, Err, OnOk, is_ok, if◌then◌else◌}
use Rattle.std.proofs.lemmas.Slice.{drop-put_mid, take-put_mid, take-put_mid_below}
use borrow.Rule.Slice.PartMut.{put_mid}
use mathlib.Core.List.{IsPrefix}
use Rattle.std.proofs.lemmas.Bool.{cases_lt}
use Rattle.std.proofs.lemmas.List.{drop-append-le, drop-drop, drop-take, drop_all, drop_at, length-append, length-drop, length-map, length-take, length-take-le, map-append, take-append-drop, take-append-le, take-map, take-take, take_all}
use Rattle.std.proofs.lemmas.Simd.{map-map}
use Rattle.std.specs.List.{range_with_len}
use Rattle.rayon.specs.Shown.{run-append}
use Rattle.sha2.specs.Sha256.{sha256}
use Rattle.sync_blocks.specs.declared.block.Block.{Block}
use Rattle.sync_blocks.specs.BlockList.{block_at, block_count, block_list}
use Rattle.sync_blocks.specs.Sizes.{block_size_for}
use Rattle.sync_scan.specs.Ahead.{HasBlocks, HasBytes, cut_at, cut_block, file_cuts, run}
use Rattle.sync_scan.specs.declared.ahead.Part.{Part}
use Rattle.sync_scan.specs.declared.cuts.Cut.{Cut}

-- the front of a front
take-min : {X : Type 0} (a m : ℕ) (l : List X) → take a (take m l) ≡ take (min a m) l
take-min a m l = ⊎_elim
    (λ (lt : m < a). let short = length-take m l in
    let less : m ≡ min a m = omega arith in
    take_all a (take m l) (omega arith) ∙ ap (λ k. take k l) less)
    (λ (le : a ≤ m). let less : a ≡ min a m = omega arith in
    take-take a m l le ∙ ap (λ k. take k l) less)
    (cases_lt m a)

-- what is left of a front
drop-front : {X : Type 0} (k n : ℕ) (l : List X) → drop k (take n l) ≡ take (n - k) (drop k l)
drop-front k n l = ⊎_elim
    (λ (lt : n < k). let short = length-take n l in
    let none : 0 ≡ n - k = omega arith in
    drop_all k (take n l) (omega arith) ∙ ap (λ m. take m (drop k l)) none)
    (λ (le : k ≤ n). let all : n ≡ k + (n - k) = omega arith in
    ap (λ m. drop k (take m l)) all ∙ drop-take k (n - k) l)
    (cases_lt n k)

module _ (bytes : List ℕ) (start size s : ℕ) where
  cut-same : (i : ℕ) → take (min s (size - i * s)) (drop (start + i * s) bytes) ≡ take s (drop (i * s) (take size (drop start bytes)))
  cut-same i = sym (ap (take s) (drop-front (i * s) size (drop start bytes)) ∙ take-min s (size - i * s) (drop (i * s) (drop start bytes))
      ∙ ap (take (min s (size - i * s))) (drop-drop (i * s) start bytes))

  -- a cut stands for a block of the file's own bytes
  cut-is : (i : ℕ) → cut_block bytes (cut_at start size s i) ≡ block_at (run start size bytes) s i
  cut-is i = λ t. record { offset = i * s; size = length (cut-same i t); hash = sha256 (cut-same i t) }

  pub run-long : start + size ≤ length bytes → length (run start size bytes) ≡ size
  run-long within = length-take-le size (drop start bytes) (let left = length-drop start bytes in omega arith)

  -- the cuts of a file stand for its block list
  pub file-blocks : start + size ≤ length bytes → map (cut_block bytes) (file_cuts start size s) ≡ block_list (run start size bytes) s
  file-blocks within =
      let all = range_with_len 0 (block_count size s) in
      map-map (cut_block bytes) (λ i. cut_at start size s i) all ∙ (λ t. map (λ i. cut-is i t) all)
      ∙ ap (λ n. map (λ i. block_at (run start size bytes) s i) (range_with_len 0 (block_count n s))) (sym (run-long within))

pub drop-map : {X Y : Type 0} (f : X → Y) (n : ℕ) (xs : List X) → drop n (map f xs) ≡ map f (drop n xs)
drop-map f zero xs = refl
drop-map f (suc n) [] = refl
drop-map f (suc n) (x ∷ xs) = drop-map f n xs

run-map : {X Y : Type 0} (f : X → Y) (a n : ℕ) (xs : List X) → run a n (map f xs) ≡ map f (run a n xs)
run-map f a n xs = ap (take n) (drop-map f a xs) ∙ take-map f n (drop a xs)

-- a run within a list is one of a longer list
pub run-kept : {X : Type 0} (a n : ℕ) (xs ys : List X) → a + n ≤ length xs → run a n (xs ++ ys) ≡ run a n xs
run-kept a n xs ys within =
    let left = length-drop a xs in
    ap (take n) (drop-append-le a xs ys (omega arith)) ∙ take-append-le n (drop a xs) ys (omega arith)

pub run-new : {X : Type 0} (a n : ℕ) (xs ys : List X) → length xs ≡ a → length ys ≡ n → run a n (xs ++ ys) ≡ ys
run-new a n xs ys at long = ap (take n) (drop_at xs ys a at) ∙ take_all n ys (omega arith)

range-long : (a n : ℕ) → length (range_with_len a n) ≡ n
range-long a zero = refl
range-long a (suc n) = ap suc (range-long (a + 1) n)

pub cuts-long : (start size s : ℕ) → length (file_cuts start size s) ≡ block_count size s
cuts-long start size s = length-map (range_with_len 0 (block_count size s)) (λ i. cut_at start size s i) ∙ range-long 0 (block_count size s)

-- one cut more
pub cuts-more : (start size s i : ℕ) (old before after : List Cut) (c : Cut) → before ≡ old ++ map (λ i. cut_at start size s i) (range_with_len 0 i) → after ≡ before ++ c ∷ []
    → c ≡ cut_at start size s i → after ≡ old ++ map (λ i. cut_at start size s i) (range_with_len 0 (i + 1))
cuts-more start size s i old before after c were more is =
    let f = λ (j : ℕ). cut_at start size s j in
    let zero_left : i ≡ 0 + i = omega arith in
    more ∙ ap (λ l. l ++ c ∷ []) were ∙ append_assoc old (map f (range_with_len 0 i)) (c ∷ [])
    ∙ ap (λ l. old ++ l) (ap (λ x. map f (range_with_len 0 i) ++ x ∷ []) (is ∙ ap f zero_left) ∙ sym (map-append f (range_with_len 0 i) (range_with_len (0 + i) 1)) ∙ ap (map f) (run-append 0 i 1))

module _ (known : List ℕ) (cuts : List Cut) (part : Part) (bytes : List ℕ) (has : HasBytes known cuts part bytes) where
  -- more was read since
  pub has-more : (known' : List ℕ) (cuts' : List Cut) → IsPrefix known known' → IsPrefix cuts cuts' → HasBytes known' cuts' part bytes
  has-more known' cuts' (zs, e) (ws, f) =
      let count = block_count part.size (block_size_for part.size) in
      let longer = ap length e in
      let sum = length-append known zs in
      let more = ap length f in
      let all = length-append cuts ws in
      let within = has.within in
      let cut_within = has.cut_within in record {
        within = omega arith;
        bytes_are = has.bytes_are ∙ sym (run-kept part.start part.size known zs has.within) ∙ ap (run part.start part.size) e;
        cut_within = omega arith;
        cuts_are = ap (run part.first count) (sym f) ∙ run-kept part.first count cuts ws has.cut_within ∙ has.cuts_are;
      }

  -- all was hashed
  pub has-blocks : (blocks : List Block) → blocks ≡ map (cut_block known) cuts → HasBlocks blocks part bytes
  has-blocks blocks is =
      let s = block_size_for part.size in
      let count = block_count part.size s in
      ap (run part.first count) is ∙ run-map (cut_block known) part.first count cuts ∙ ap (map (cut_block known)) has.cuts_are
      ∙ file-blocks known part.start part.size s has.within ∙ ap (λ b. block_list b s) (sym has.bytes_are)

-- the file that was read last
pub has-new : (known known' bytes : List ℕ) (cuts cuts' : List Cut) (part : Part) → known' ≡ known ++ bytes → length known ≡ part.start → length bytes ≡ part.size
    → cuts' ≡ cuts ++ file_cuts part.start part.size (block_size_for part.size) → length cuts ≡ part.first → HasBytes known' cuts' part bytes
has-new known known' bytes cuts cuts' part is start size are first =
    let s = block_size_for part.size in
    let count = block_count part.size s in
    let own = file_cuts part.start part.size s in
    let longer = ap length is in
    let sum = length-append known bytes in
    let more = ap length are in
    let all = length-append cuts own in
    let long : length own ≡ count = cuts-long part.start part.size s in record {
      within = omega arith;
      bytes_are = sym (ap (run part.start part.size) is ∙ run-new part.start part.size known bytes start size);
      cut_within = omega arith;
      cuts_are = ap (run part.first count) are ∙ run-new part.first count cuts own first long;
    }

prefix-same : {X : Type 0} (xs ys : List X) → xs ≡ ys → IsPrefix xs ys
prefix-same xs ys e = ([], append-nil xs ∙ e)

pub prefix-itself : {X : Type 0} (xs : List X) → IsPrefix xs xs
prefix-itself xs = prefix-same xs xs refl

-- what a buffer holds after it grew
pub grown-front : {X E : Type 0} (r : Result (Unit {0}) E) (old new more : List X) (n : ℕ) → new ≡ (if is_ok r then take n old ++ more else old) → length old ≤ n → OnOk r (IsPrefix old new)
grown-front (Ok u) old new more n is within = (more, sym (is ∙ ap (λ l. l ++ more) (take_all n old within)))
grown-front (Err e) old new more n is within = tt

module _ (L start k : ℕ) (old items s part : List ℕ) (is : s ≡ items) (all : L ≡ length items) (long : length part ≡ k) (within : start + k ≤ length items)
    (front : IsPrefix old items) (filled : start ≤ length old) where
  mid-long : length (put_mid start k items part) ≡ length items
  mid-long =
      let whole = ap length (take-append-drop (start + k) (put_mid start k items part)) in
      let sum = length-append (take (start + k) (put_mid start k items part)) (drop (start + k) (put_mid start k items part)) in
      let head = ap length (take-put_mid start k items part (start + k) (let e : start + k ≡ start + length part = omega arith in e) (omega arith)) in
      let tail = ap length (drop-put_mid start k items part (start + k) (omega arith) (omega arith) long) in
      let left = length-drop (start + k) items in
      let both = length-append (take start items) part in
      let less = length-take start items in
      omega arith

  written : take L (put_mid start k s part ++ drop (length (put_mid start k s part)) items) ≡ put_mid start k items part
  written =
      let m = put_mid start k items part in
      ap (λ x. take L (put_mid start k x part ++ drop (length (put_mid start k x part)) items)) is
      ∙ ap (λ d. take L (m ++ d)) (drop_all (length m) items (omega (arith, mid-long))) ∙ ap (take L) (append-nil m) ∙ take_all L m (omega (arith, mid-long))

  old-front : take start items ≡ take start old
  old-front = ap (take start) (sym front.1) ∙ take-append-le start old front.0 filled

  pub part-before : IsPrefix (take start old) (take start (take L (put_mid start k s part ++ drop (length (put_mid start k s part)) items)))
  part-before = prefix-same _ _ (sym (ap (take start) written ∙ take-put_mid_below start k items part start (omega arith) (omega arith) ∙ old-front))

  part-after : take (start + k) (take L (put_mid start k s part ++ drop (length (put_mid start k s part)) items)) ≡ take start old ++ part
  part-after = ap (take (start + k)) written ∙ take-put_mid start k items part (start + k) (let e : start + k ≡ start + length part = omega arith in e) (omega arith) ∙ ap (λ l. l ++ part) old-front

  pub part-all : (n : ℕ) → n ≡ start + k → take n (take L (put_mid start k s part ++ drop (length (put_mid start k s part)) items)) ≡ take start old ++ part
  part-all n e = ap (λ j. take j (take L (put_mid start k s part ++ drop (length (put_mid start k s part)) items))) e ∙ part-after

-- a part of a buffer
pub part-long : (f size : ℕ) (s : List ℕ) → f + size ≤ length s → length (take (f + size - f) (drop f s)) ≡ size
part-long f size s within =
    let left = length-drop f s in
    let e : f + size - f ≡ size = omega arith in
    length-take-le (f + size - f) (drop f s) (omega arith) ∙ e
