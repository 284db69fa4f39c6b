-- The lines of a listing, page by page.
use Rattle.std.proofs.Common.{◌≡◌, ℕ, zero, suc, ◌<◌, ◌≤◌, ◌+◌, ◌-◌, List, [], ◌∷◌, ◌++◌, length, take, map, Option, Some, None, refl, sym, ap, subst, ◌∙◌, append_assoc, append-nil, arith}
use Rattle.std.proofs.KnownBytes.{Appends-kept, Appends-nil, Appends-trans}
use Rattle.std.proofs.lemmas.List.{length-append}
use Rattle.std.proofs.lemmas.List.Concat.{flat_map-append}
use Rattle.std.proofs.lemmas.List.Folds.{flat_map-map}
use Rattle.std.specs.Io.KnownBytes.{Appends, Keeps}
use Rattle.std.specs.Option.{option_map_or}
use Rattle.std.proofs.lemmas.Bool.{true≢false}
use Rattle.std.proofs.lemmas.Option.{slice_get-get_or}
use Rattle.std.specs.Prelude.{flat_map, slice_get, is_some, option_map, Result, Ok, Err, IfErr}
use Rattle.std.specs.Result.{IsErrAnd}
use Rattle.bepd.specs.declared.ending.Failure.{Failure}
use Rattle.bepd.specs.Counts.{WritesSome}
use Rattle.folder_core.specs.Announced.{IsNamed}
use Rattle.folder_core.specs.Reads.{BestEntry, bests_after, bests_page}
use Rattle.folder_core.specs.States.{FolderState}
use Rattle.folder_core.specs.declared.best.Best.{Best}
use Rattle.folder_core.proofs.Lemmas.{bests_after-lines, bests_after-page}
use Rattle.sync_record.specs.Records.{Name}
use Rattle.bepd.specs.Lines.{best_line}
use Rattle.bepd.specs.Listing.{best_lines}

-- a page as the folder's definitions see it
abbrev pub founds : List Best → List BestEntry
founds page = map (λ b. (b.record, b.devices)) page

abbrev found_lines : List BestEntry → List ℕ
found_lines found = flat_map (λ b. best_line b.0) found

-- the bests after the last one of a page
abbrev pub left_after : FolderState → List Best → List BestEntry
left_after s page = option_map_or (λ (b : Best). bests_after s (Some b.record.name)) (slice_get page (length page - 1)) []

-- the lines of the bests up to a name were written
pub record IsWrittenTo (s : FolderState) (after : Option Name) (old new : Option (List ℕ)) : Type 0 where
  pub front : List ℕ
  pub put : Appends old new front
  pub whole : front ++ found_lines (bests_after s after) ≡ best_lines s

-- and the page is read after that name
pub record IsWritten (s : FolderState) (page : List Best) (old new : Option (List ℕ)) : Type 0 where
  pub after : Option Name
  pub read : founds page ≡ bests_page s after 1000
  pub written : IsWrittenTo s after old new

pub written_none : (s : FolderState) (page : List Best) (old : Option (List ℕ)) → founds page ≡ bests_page s None 1000 → IsWritten s page old old
written_none s page old read = record {
  after = None;
  read = read;
  written = record { front = []; put = Appends-nil old; whole = bests_after-lines s best_line };
}

-- ---- one more page

none_some : {A : Type 0} (x : A) → None ≡ Some x → ⊥
none_some x e = true≢false (ap is_some (sym e))

length-founds : (page : List Best) → length (founds page) ≡ length page
length-founds [] = refl
length-founds (b ∷ page) = ap suc (length-founds page)

get_map : (page : List Best) (i : ℕ) → slice_get (founds page) i ≡ option_map (λ (b : Best). (b.record, b.devices)) (slice_get page i)
get_map [] i = refl
get_map (b ∷ page) zero = refl
get_map (b ∷ page) (suc i) = get_map page i

nonempty : (page : List Best) (b : Best) (i : ℕ) → slice_get page i ≡ Some b → 0 < length page
nonempty [] b i e = absurd (none_some b e)
nonempty (x ∷ page) b i e = omega arith

last_found : (page : List Best) (b : Best) (i : ℕ) → slice_get page i ≡ Some b → slice_get (founds page) i ≡ Some (b.record, b.devices)
last_found page b i e = get_map page i ∙ ap (λ o. option_map (λ (b : Best). (b.record, b.devices)) o) e

split_page : (s : FolderState) → IsNamed s.announced → (after : Option Name) (page : List Best) (b : Best) → founds page ≡ bests_page s after 1000 → slice_get page (length page - 1) ≡ Some b
    → bests_after s after ≡ founds page ++ bests_after s (Some b.record.name)
split_page s named after page b read last =
    bests_after-page s named after 1000 (founds page) (b.record, b.devices) read
    (ap (λ n. slice_get (founds page) (n - 1)) (length-founds page) ∙ last_found page b (length page - 1) last)

-- the lines of the page go on with what was written
page_whole : (s : FolderState) (page : List Best) (b : Best) (lines : List ℕ) (old mid : Option (List ℕ)) → IsNamed s.announced → slice_get page (length page - 1) ≡ Some b
    → lines ≡ flat_map (λ b. best_line b.record) page → (w : IsWritten s page old mid) → w.written.front ++ (lines ++ found_lines (bests_after s (Some b.record.name))) ≡ best_lines s
page_whole s page b lines old mid named last made w =
    let rest = found_lines (bests_after s (Some b.record.name)) in
    let front = w.written.front in
    let lines_are : lines ≡ found_lines (founds page) = made ∙ sym (flat_map-map (λ (f : BestEntry). best_line f.0) (λ (b : Best). (b.record, b.devices)) page) in
    let split : found_lines (bests_after s w.after) ≡ lines ++ rest =
    ap found_lines (split_page s named w.after page b w.read last)
    ∙ flat_map-append (λ (f : BestEntry). best_line f.0) (founds page) (bests_after s (Some b.record.name)) ∙ ap (λ l. l ++ rest) (sym lines_are) in
    ap (λ l. front ++ l) (sym split) ∙ w.written.whole

pub written_page : (s : FolderState) (page : List Best) (b : Best) (lines : List ℕ) (old mid new : Option (List ℕ)) → IsNamed s.announced → slice_get page (length page - 1) ≡ Some b
    → lines ≡ flat_map (λ b. best_line b.record) page → Appends mid new lines → IsWritten s page old mid → IsWrittenTo s (Some b.record.name) old new
written_page s page b lines old mid new named last made put w =
    let rest = found_lines (bests_after s (Some b.record.name)) in
    let front = w.written.front in
    record {
      front = front ++ lines;
      put = Appends-trans old mid new front lines w.written.put put;
      whole = append_assoc front lines rest ∙ page_whole s page b lines old mid named last made w;
    }

-- a front was written, and then a front of lines
some_more : (a b c : Option (List ℕ)) (front lines rest whole : List ℕ) → Appends a b front → WritesSome lines b c → front ++ (lines ++ rest) ≡ whole → WritesSome whole a c
some_more a b c front lines rest whole put w e =
    let same : front ++ (lines ++ rest) ≡ (front ++ w.0) ++ (w.1 ++ rest) =
    ap (λ l. front ++ (l ++ rest)) w.2 ∙ ap (λ l. front ++ l) (append_assoc w.0 w.1 rest) ∙ sym (append_assoc front w.0 (w.1 ++ rest)) in
    (front ++ w.0, w.1 ++ rest, sym e ∙ same, Appends-trans a b c front w.0 put w.3)

-- where the write of a page failed
pub written_some : (s : FolderState) (page : List Best) (b : Best) (lines last : List ℕ) (old mid new : Option (List ℕ)) → IsNamed s.announced → slice_get page (length page - 1) ≡ Some b
    → lines ≡ flat_map (λ b. best_line b.record) page → WritesSome lines mid new → IsWritten s page old mid → WritesSome (best_lines s ++ last) old new
written_some s page b lines last old mid new named at_end made some w =
    let rest = found_lines (bests_after s (Some b.record.name)) in
    let front = w.written.front in
    let whole : front ++ (lines ++ (rest ++ last)) ≡ best_lines s ++ last =
    ap (λ l. front ++ l) (sym (append_assoc lines rest last)) ∙ sym (append_assoc front (lines ++ rest) last) ∙ ap (λ l. l ++ last) (page_whole s page b lines old mid named at_end made w) in
    some_more old mid new front lines (rest ++ last) (best_lines s ++ last) w.written.put some whole

pub written_next : (s : FolderState) (next : List Best) (after : Name) (old new : Option (List ℕ)) → founds next ≡ bests_page s (Some after) 1000 → IsWrittenTo s (Some after) old new → IsWritten s next old new
written_next s next after old new read w = record { after = Some after; read = read; written = w }

-- how many bests are in the page and after it
abbrev pub left_from : FolderState → List Best → ℕ
left_from s page = length page + length (left_after s page)

take_fewer : {A : Type 0} (n : ℕ) (xs : List A) → length (take n xs) ≤ length xs
take_fewer zero xs = omega arith
take_fewer (suc n) [] = omega arith
take_fewer (suc n) (x ∷ xs) = omega (arith, take_fewer n xs)

left_fits : (s : FolderState) → IsNamed s.announced → (after : Option Name) (page : List Best) → founds page ≡ bests_page s after 1000 → left_from s page ≤ length (bests_after s after)
left_fits s named after page read = go (slice_get page (length page - 1)) refl
  where
    go : (last : Option Best) → slice_get page (length page - 1) ≡ last → left_from s page ≤ length (bests_after s after)
    go None e =
        let few = take_fewer 1000 (bests_after s after) in
        let same = sym (length-founds page) ∙ ap length read in
        rw e (omega (arith, few, same))
    go (Some b) e =
        let split = split_page s named after page b read e in
        let sum = ap length split ∙ length-append (founds page) (bests_after s (Some b.record.name)) in
        let same = length-founds page in
        rw e (omega (arith, sum, same))

-- the next page has fewer to come
pub fewer_left : (s : FolderState) → IsNamed s.announced → (page next : List Best) (b : Best) → slice_get page (length page - 1) ≡ Some b
    → founds next ≡ bests_page s (Some b.record.name) 1000 → left_from s next < left_from s page
fewer_left s named page next b last read =
    let fits = left_fits s named (Some b.record.name) next read in
    let some = nonempty page b (length page - 1) last in
    let left : left_after s page ≡ bests_after s (Some b.record.name) = ap (λ o. option_map_or (λ (b : Best). bests_after s (Some b.record.name)) o []) last in
    let same = ap length left in
    omega (arith, fits, some, same)

-- ---- the end

take_none : {A : Type 0} (n : ℕ) (xs : List A) → [] ≡ take (suc n) xs → xs ≡ []
take_none n [] e = refl
take_none n (x ∷ xs) e = cc

no_founds : (page : List Best) → page ≡ [] → [] ≡ founds page
no_founds page e = sym (ap founds e)

-- what was written is a front of the listing
pub written_front : (s : FolderState) (after : Option Name) (last : List ℕ) (old new : Option (List ℕ)) → IsWrittenTo s after old new → WritesSome (best_lines s ++ last) old new
written_front s after last old new w =
    let rest = found_lines (bests_after s after) in
    (w.front, rest ++ last, ap (λ l. l ++ last) (sym w.whole) ∙ append_assoc w.front rest last, w.put)

-- a page without a last best is empty
pub no_last : (page : List Best) → None ≡ slice_get page (length page - 1) → page ≡ []
no_last [] e = refl
no_last (b ∷ page) e = absurd (none_some _ (e ∙ slice_get-get_or (b ∷ page) (length (b ∷ page) - 1) b (omega arith)))

-- and all lines of bests, where none is left
all_lines : (s : FolderState) (page : List Best) (old mid : Option (List ℕ)) → page ≡ [] → (w : IsWritten s page old mid) → w.written.front ≡ best_lines s
all_lines s page old mid none w =
    let start = w.written.front in
    let over : bests_after s w.after ≡ [] = take_none 999 (bests_after s w.after) (no_founds page none ∙ w.read) in
    sym (append-nil start) ∙ ap (λ l. start ++ found_lines l) (sym over) ∙ w.written.whole

-- and with the last line the whole
pub written_all : (s : FolderState) (page : List Best) (last : List ℕ) (old mid put_to new : Option (List ℕ)) → page ≡ [] → Appends mid put_to last → Keeps put_to new
    → IsWritten s page old mid → Appends old new (best_lines s ++ last)
written_all s page last old mid put_to new none appended kept w =
    subst (λ l. Appends old new (l ++ last)) (all_lines s page old mid none w)
    (Appends-trans old mid new w.written.front last w.written.put (Appends-kept mid put_to new last appended kept))

-- where the write of the last line failed
pub written_last : (s : FolderState) (page : List Best) (last : List ℕ) (old mid new : Option (List ℕ)) → page ≡ [] → WritesSome last mid new
    → IsWritten s page old mid → WritesSome (best_lines s ++ last) old new
written_last s page last old mid new none some w =
    let front = w.written.front in
    some_more old mid new front last [] (best_lines s ++ last) w.written.put some (ap (λ l. front ++ l) (append-nil last) ∙ ap (λ l. l ++ last) (all_lines s page old mid none w))

-- all of the bytes are a front of them
pub all_written : (bytes : List ℕ) (old new : Option (List ℕ)) → Appends old new bytes → WritesSome bytes old new
all_written bytes old new put = (bytes, [], sym (append-nil bytes), put)

-- what holds of a failure holds of an error that is that
pub at_failure : {A : Type 0} (P : Failure → Type 0) (told failure : Failure) (r : Result A Failure) → IsErrAnd r (λ f. f ≡ told) → told ≡ failure → P failure → IfErr r P
at_failure P told failure (Ok x) e same p = tt
at_failure P told failure (Err f) e same p = subst P (sym (e ∙ same)) p

pub if_failure : {A : Type 0} (P : Failure → Type 0) (failure : Failure) (r : Result A Failure) → IfErr r (λ f. f ≡ failure) → P failure → IfErr r P
if_failure P failure (Ok x) e p = tt
if_failure P failure (Err f) e p = subst P (sym e) p
