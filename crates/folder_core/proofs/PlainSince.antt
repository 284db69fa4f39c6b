-- Pages of local records, as the plain folder finds them.
use Rattle.std.proofs.Common.{◌≡◌, ℕ, zero, suc, ◌+◌, ◌-◌, ◌^◌, ◌<◌, ◌≤◌, min, Bool, true, false, List, [], ◌∷◌, ◌++◌, length, take, get_or, append-nil, refl, sym, ap, subst, ◌∙◌, arith, ◌⊎◌, inl, inr, Bor}
use Rattle.std.specs.Prelude.{◌&&◌, ◌||◌, cond, filter, fold, map, nat_le, nat_lt}
use Rattle.std.specs.BTreeMap.{insert_entry}
use Rattle.std.specs.FinMap.{put}
use Rattle.std.specs.FinMap.Entries.{by_order}
use Rattle.std.specs.Ordering.{match_ordering, nat_cmp}
use Rattle.std.specs.declared.cmp.Ordering.TheVariants.{Less, Equal, Greater}
use Rattle.std.proofs.lemmas.Bool.{and_from, leb-false, leb-true, le-leb, true≢false}
use Rattle.std.proofs.lemmas.List.{append_assoc, length-append, length-take, map-append, take_all, take_more, take-append-le}
use Rattle.std.proofs.lemmas.List.Elements.{filter-append}
use Rattle.std.proofs.lemmas.List.Sums.{sum_by-take-le, sum_by_push}
use Rattle.sync_record.specs.Devices.{Identity}
use Rattle.sync_record.specs.Records.{FileRecord}
use Rattle.folder_core.specs.declared.announcement.Announcement.{Announcement as Entry}
use Rattle.folder_core.specs.Codes.{Pulls}
use Rattle.folder_core.specs.Plain.{Rises, folder_of}
use Rattle.folder_core.specs.PlainReads.{is_from, later_from, records_from}
use Rattle.folder_core.specs.Reads.{by_sequence, fits_page, local_since, page_of}
use Rattle.folder_core.proofs.ListTests.{In, in_filter, in_map}
use Rattle.folder_core.proofs.PlainOwn.{locals_are, same_tests}
use Rattle.folder_core.proofs.ReadPages.{blocks_of, fits-is, longest, page-is}

-- ---- the records under their sequences

abbrev pub sequenced : List FileRecord → List (ℕ × FileRecord)
sequenced rs = fold (λ es r. put nat_cmp r.sequence r es) [] rs

abbrev pub seen : Bor FileRecord → FileRecord
seen r = r.now

abbrev pub shown : ℕ × Bor FileRecord → ℕ × FileRecord
shown e = (e.0, e.1.now)

pub inserted : (es : List (ℕ × Bor FileRecord)) (k : ℕ) (v : Bor FileRecord) → map shown (insert_entry nat_cmp es k v) ≡ put nat_cmp k v.now (map shown es)
inserted [] k v = refl
inserted (e ∷ es) k v =
    let rest : map shown (insert_entry nat_cmp es k v) ≡ put nat_cmp k v.now (map shown es) = inserted es k v in
    elim (nat_cmp k e.0) as (λ o. map shown (match_ordering o ((k, v) ∷ e ∷ es) ((e.0, v) ∷ es) (e ∷ insert_entry nat_cmp es k v)) ≡ by_order o ((k, v.now) ∷ map shown (e ∷ es)) ((e.0, v.now) ∷ map shown es) (shown e ∷ put nat_cmp k v.now (map shown es))) [
      | Less ↦ refl
      | Equal ↦ refl
      | Greater ↦ ap (λ l. shown e ∷ l) rest
    ]

pub values_shown : (es : List (ℕ × Bor FileRecord)) → map seen (map (λ e. e.1) es) ≡ map (λ e. e.1) (map shown es)
values_shown [] = refl
values_shown (e ∷ es) = ap (λ l. e.1.now ∷ l) (values_shown es)

fold-push : (es : List (ℕ × FileRecord)) (rs : List FileRecord) (r : FileRecord) → fold (λ es r. put nat_cmp r.sequence r es) es (rs ++ r ∷ []) ≡ put nat_cmp r.sequence r (fold (λ es r. put nat_cmp r.sequence r es) es rs)
fold-push es [] r = refl
fold-push es (q ∷ rs) r = fold-push (put nat_cmp q.sequence q es) rs r

module _ (d : Identity) (sequence : ℕ) where
  abbrev is_later : Entry → Bool
  is_later e = is_from d e && nat_lt sequence e.record.sequence

  abbrev recorded : Entry → FileRecord
  recorded e = e.record

  abbrev above : FileRecord → Bool
  above r = nat_lt sequence r.sequence

  later-append : (xs ys : List Entry) → later_from d sequence (xs ++ ys) ≡ later_from d sequence xs ++ later_from d sequence ys
  later-append xs ys =
      ap (filter above) (ap (map recorded) (filter-append (is_from d) xs ys) ∙ map-append recorded (filter (is_from d) xs) (filter (is_from d) ys))
      ∙ filter-append above (records_from d xs) (records_from d ys)

  later-one : (e : Entry) → later_from d sequence (e ∷ []) ≡ cond (is_later e) (e.record ∷ []) []
  later-one e =
      elim (is_from d e) as (λ b. filter above (map recorded (cond b (e ∷ []) [])) ≡ cond (b && above e.record) (e.record ∷ []) []) [ true ↦ refl | false ↦ refl ]

  module _ (es : List Entry) (i : ℕ) (e : Entry) (short : i < length es) (here : e ≡ get_or es i e) where
    more : later_from d sequence (take (i + 1) es) ≡ later_from d sequence (take i es) ++ cond (is_later e) (e.record ∷ []) []
    more =
        ap (later_from d sequence) (take_more es i e short ∙ ap (λ x. take i es ++ x ∷ []) (sym here))
        ∙ later-append (take i es) (e ∷ [])
        ∙ ap (λ l. later_from d sequence (take i es) ++ l) (later-one e)

    pub later_more : is_later e ≡ true → sequenced (later_from d sequence (take (i + 1) es)) ≡ put nat_cmp e.record.sequence e.record (sequenced (later_from d sequence (take i es)))
    later_more t =
        ap sequenced (more ∙ ap (λ b. later_from d sequence (take i es) ++ cond b (e.record ∷ []) []) t)
        ∙ fold-push [] (later_from d sequence (take i es)) e.record

    pub later_same : is_later e ≡ false → sequenced (later_from d sequence (take (i + 1) es)) ≡ sequenced (later_from d sequence (take i es))
    later_same t =
        ap sequenced (more ∙ ap (λ b. later_from d sequence (take i es) ++ cond b (e.record ∷ []) []) t ∙ append-nil (later_from d sequence (take i es)))

  pub later_in : (es : List Entry) (e : Entry) → In e es → is_from d e ≡ true → above e.record ≡ true → In e.record (later_from d sequence es)
  later_in es e i own t = in_filter above (records_from d es) e.record (in_map recorded (filter (is_from d) es) e (in_filter (is_from d) es e i own)) t

-- ---- where a page ends

to_fits : (limit : ℕ) (rs : List FileRecord) → length rs ≤ limit → (blocks_of rs ≤ 1000000) ⊎ (length rs ≤ 1) → fits_page limit rs ≡ true
to_fits limit rs le few = and_from _ _ (le-leb (length rs) limit le) (by few)
  where
    or_true : (b : Bool) → (b || true) ≡ true
    or_true true = refl
    or_true false = refl

    by : (blocks_of rs ≤ 1000000) ⊎ (length rs ≤ 1) → (nat_le (blocks_of rs) 1000000 || nat_le (length rs) 1) ≡ true
    by (inl b) = ap (λ t. t || nat_le (length rs) 1) (le-leb (blocks_of rs) 1000000 b)
    by (inr l) = ap (λ t. nat_le (blocks_of rs) 1000000 || t) (le-leb (length rs) 1 l) ∙ or_true (nat_le (blocks_of rs) 1000000)

fits_front : (limit : ℕ) (rs : List FileRecord) (i : ℕ) → fits_page limit rs ≡ true → fits_page limit (take i rs) ≡ true
fits_front limit rs i fits =
    let f = fits-is limit rs fits in
    let short : length (take i rs) ≤ length rs = omega (arith, length-take i rs) in
    let few = sum_by-take-le (λ (r : FileRecord). length r.blocks) rs i in
    to_fits limit (take i rs) (let a = f.0 in omega arith) (by f.1 short few)
  where
    by : (blocks_of rs ≤ 1000000) ⊎ (length rs ≤ 1) → length (take i rs) ≤ length rs → blocks_of (take i rs) ≤ blocks_of rs → (blocks_of (take i rs) ≤ 1000000) ⊎ (length (take i rs) ≤ 1)
    by (inl b) short few = inl (omega arith)
    by (inr l) short few = inr (omega arith)

take_take : {A : Type 0} (i j : ℕ) (xs : List A) → i ≤ j → take i (take j xs) ≡ take i xs
take_take zero j xs le = refl
take_take (suc i) zero xs le = absurd (omega arith)
take_take (suc i) (suc j) [] le = refl
take_take (suc i) (suc j) (x ∷ xs) le = ap (λ l. x ∷ l) (take_take i j xs (omega arith))

-- a beginning that fits is the page, where no longer one fits
page_at : (limit : ℕ) (xs : List FileRecord) (k : ℕ) → k ≤ length xs → fits_page limit (take k xs) ≡ true → ((j : ℕ) → k < j → j ≤ length xs → fits_page limit (take j xs) ≡ true → ⊥) → take k xs ≡ page_of limit xs
page_at limit xs k le fits none =
    let l = longest limit xs in
    let same : k ≡ l.at =
    elim (nat_le l.at k) as (λ b. nat_le l.at k ≡ b → k ≡ l.at) [
      | true ↦ λ e. elim (nat_le k l.at) as (λ b. nat_le k l.at ≡ b → k ≡ l.at) [
        | true ↦ λ f. (let a = leb-true l.at k e in let b = leb-true k l.at f in omega arith)
        | false ↦ λ f. absurd (true≢false (sym fits ∙ l.rest k (leb-false k l.at f) (omega arith)))
      ] refl
      | false ↦ λ e. absurd (none l.at (leb-false l.at k e) (let b = l.below in omega arith) l.passes)
    ] refl in
    ap (λ n. take n xs) same ∙ sym (page-is limit xs)

front_of : {A : Type 0} (front ys : List A) → take (length front) (front ++ ys) ≡ front
front_of front ys = take-append-le (length front) front ys (omega arith) ∙ take_all _ front (omega arith)

-- the next record doesn't fit
pub page_stops : (limit : ℕ) (front : List FileRecord) (r : FileRecord) (more xs : List FileRecord) → front ++ r ∷ more ≡ xs → fits_page limit front ≡ true → fits_page limit (front ++ r ∷ []) ≡ false → front ≡ page_of limit xs
page_stops limit front r more xs all fits full =
    subst (λ ys. front ≡ page_of limit ys) all
    (sym (front_of front (r ∷ more))
    ∙ page_at limit (front ++ r ∷ more) (length front) (omega (arith, length-append front (r ∷ more))) (ap (fits_page limit) (front_of front (r ∷ more)) ∙ fits) (λ j above le longer.
    true≢false (sym (fits_front limit (take j (front ++ r ∷ more)) (length (front ++ r ∷ [])) longer)
    ∙ ap (fits_page limit) (take_take (length (front ++ r ∷ [])) j (front ++ r ∷ more) (omega (arith, length-append front (r ∷ []))) ∙ one) ∙ full)))
  where
    one : take (length (front ++ r ∷ [])) (front ++ r ∷ more) ≡ front ++ r ∷ []
    one = ap (take (length (front ++ r ∷ []))) (sym (append_assoc front (r ∷ []) more)) ∙ front_of (front ++ r ∷ []) more

-- no record is left
pub page_ends : (limit : ℕ) (front xs : List FileRecord) → front ++ [] ≡ xs → fits_page limit front ≡ true → front ≡ page_of limit xs
page_ends limit front xs all fits =
    subst (λ ys. front ≡ page_of limit ys) (sym (append-nil front) ∙ all)
    (sym (take_all (length front) front (omega arith)) ∙ page_at limit front (length front) (omega arith) (ap (fits_page limit) (take_all (length front) front (omega arith)) ∙ fits) (λ j above le longer. absurd (omega arith)))

-- whether the next record fits, as it is computed
pub fits_next : (limit : ℕ) (front : List FileRecord) (r : FileRecord) (k sum blocks : ℕ) → k ≡ length front + 1 → sum ≡ blocks_of front → blocks ≡ min (sum + length r.blocks) (2 ^ 64 - 1) → fits_page limit (front ++ r ∷ []) ≡ (nat_le k limit && (nat_le blocks 1000000 || nat_le k 1))
fits_next limit front r k sum blocks longer summed added =
    let count : length (front ++ r ∷ []) ≡ k = omega (arith, length-append front (r ∷ [])) in
    let total : blocks_of (front ++ r ∷ []) ≡ blocks_of front + length r.blocks = sum_by_push (λ r. length r.blocks) front r in
    let few : nat_le (blocks_of (front ++ r ∷ [])) 1000000 ≡ nat_le blocks 1000000 =
    same_tests _ _
    (λ t. let le = leb-true (blocks_of (front ++ r ∷ [])) 1000000 t in le-leb blocks 1000000 (omega arith))
    (λ t. let le = leb-true blocks 1000000 t in le-leb (blocks_of (front ++ r ∷ [])) 1000000 (omega arith)) in
    (λ i. nat_le (count i) limit && (few i || nat_le (count i) 1))

-- ---- empty pages

pub no_page : (xs : List FileRecord) → [] ≡ page_of 0 xs
no_page [] = page_ends 0 [] [] refl refl
no_page (r ∷ more) = page_stops 0 [] r more (r ∷ more) refl refl refl

pub page_has_first : (limit : ℕ) (xs : List FileRecord) → 1 ≤ limit → page_of limit xs ≡ [] → xs ≡ []
page_has_first limit [] le none = refl
page_has_first limit (r ∷ more) le none =
    let l = longest limit (r ∷ more) in
    let short : length (take l.at (r ∷ more)) ≡ 0 = ap length (sym (page-is limit (r ∷ more)) ∙ none) in
    let first : l.at ≡ 0 = omega (arith, length-take l.at (r ∷ more), l.below) in
    absurd (true≢false (sym (to_fits limit (r ∷ []) (omega arith) (inr (omega arith))) ∙ l.rest 1 (omega arith) (omega arith)))

put_some : (k : ℕ) (v : FileRecord) (es : List (ℕ × FileRecord)) → put nat_cmp k v es ≡ [] → ⊥
put_some k v [] e = alone (k, v) e
  where
    alone : (x : ℕ × FileRecord) → x ∷ [] ≡ [] → ⊥
    alone x e = cc
put_some k v (x ∷ es) e =
    elim (nat_cmp k x.0) as (λ o. by_order o ((k, v) ∷ x ∷ es) ((x.0, v) ∷ es) (x ∷ put nat_cmp k v es) ≡ [] → ⊥) [
      | Less ↦ λ e. cc
      | Equal ↦ λ e. cc
      | Greater ↦ λ e. cc
    ] e

fold_some : (es : List (ℕ × FileRecord)) (rs : List FileRecord) → (es ≡ [] → ⊥) → fold (λ es r. put nat_cmp r.sequence r es) es rs ≡ [] → ⊥
fold_some es [] some e = some e
fold_some es (r ∷ rs) some e = fold_some (put nat_cmp r.sequence r es) rs (put_some r.sequence r es) e

unmapped : (es : List (ℕ × FileRecord)) → map (λ e. e.1) es ≡ [] → es ≡ []
unmapped [] e = refl
unmapped (x ∷ es) e = cc

pub sequence_has_all : (rs : List FileRecord) → by_sequence rs ≡ [] → rs ≡ []
sequence_has_all [] e = refl
sequence_has_all (r ∷ rs) e = absurd (fold_some (put nat_cmp r.sequence r []) rs (put_some r.sequence r []) (unmapped (sequenced (r ∷ rs)) e))

pub rest_some : (front : List FileRecord) (r : FileRecord) (more : List FileRecord) → front ++ r ∷ more ≡ [] → ⊥
rest_some [] r more e = cc
rest_some (x ∷ xs) r more e = cc

-- the folder's page
pub since_is : (me : Identity) (es : List Entry) (last : ℕ) (pulls : Pulls) → Rises es → (sequence limit : ℕ) → page_of limit (by_sequence (later_from me sequence es)) ≡ local_since (folder_of me es last pulls) sequence limit
since_is me es last pulls rises sequence limit = ap (λ rs. page_of limit (by_sequence (filter (λ r. nat_lt sequence r.sequence) rs))) (locals_are me es last pulls rises)
