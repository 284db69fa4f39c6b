-- A record that is put in its place among the entries.
use Rattle.std.proofs.Common.{◌≡◌, ℕ, suc, Bool, Bor, get_or, ◌≤◌, true, false, List, [], ◌∷◌, length, refl, sym, ap, ◌∙◌, arith}
use Rattle.std.specs.Prelude.{IfSome, Option, Some, None, MatchOption, is_some, map, nat_lt, option_copied, slice_set}
use Rattle.std.proofs.lemmas.Option.{get_or_from_slice_get, slice_get-get_or, slice_get_past, slice_get_within}
use Rattle.folder_core.proofs.ListTests.{inside}
use Rattle.std.specs.List.{AllWithin, slice_get, insert}
use Rattle.std.specs.Ordering.{is_lt, ordering_reverse}
use Rattle.std.specs.declared.cmp.Ordering.{Ordering}
use Rattle.std.specs.declared.cmp.Ordering.TheVariants.{Less, Equal, Greater}
use Rattle.std.proofs.lemmas.Bool.{true≢false, ltb-true, ltb-false}
use Rattle.std.specs.FinMap.{put}
use Rattle.std.specs.FinMap.Entries.{by_order}
use Rattle.folder_core.specs.declared.announcement.Announcement.{Announcement as Entry}
use Rattle.folder_core.specs.Announced.{Key, key_cmp}
use Rattle.folder_core.specs.Plain.{filed}
use Rattle.folder_core.proofs.Orders.{keys_total, exact_keys}
use Rattle.folder_core.proofs.PlainMerge.{put_over}

abbrev pub is_before_key : Key → Entry → Bool
is_before_key k e = is_lt (key_cmp (filed e).0 k)

lt_less : (r : Ordering) → is_lt r ≡ true → r ≡ Less
lt_less Less e = refl
lt_less Equal e = absurd (true≢false (sym e))
lt_less Greater e = absurd (true≢false (sym e))

-- what is before a key, of entries in order
pub before_key_down : (k : Key) (x y : Entry) → key_cmp (filed x).0 (filed y).0 ≡ Less → is_before_key k y ≡ true → is_before_key k x ≡ true
before_key_down k x y less t = ap is_lt (keys_total.trans (filed x).0 (filed y).0 k less (lt_less _ t))

-- an entry at the first place that isn't before its key: as one more
pub put-inserts : (x : Entry) (es : List Entry) (i : ℕ) → i ≤ length es → AllWithin (λ e. is_before_key (filed x).0 e ≡ true) es 0 i → ((y : Entry) → slice_get es i ≡ Some y → key_cmp (filed y).0 (filed x).0 ≡ Greater)
    → map filed (insert es i x) ≡ put key_cmp (filed x).0 x.record (map filed es)
put-inserts x [] ℕ.zero le pass next = refl
put-inserts x [] (suc i) le pass next = absurd (omega arith)
put-inserts x (e ∷ es) ℕ.zero le pass next =
    ap (λ o. by_order o (filed x ∷ filed e ∷ map filed es) (((filed e).0, x.record) ∷ map filed es) (filed e ∷ put key_cmp (filed x).0 x.record (map filed es)))
    (sym (keys_total.antisymm (filed x).0 (filed e).0 ∙ ap ordering_reverse (next e refl)))
put-inserts x (e ∷ es) (suc i) le pass next =
    ap (λ ys. filed e ∷ ys) (put-inserts x es i (omega arith) (λ k d l s. pass (suc k) d (omega arith) (omega arith)) next)
    ∙ sym (put_over (filed e) (filed x) (map filed es) (lt_less _ (pass 0 e (omega arith) (omega arith))))

-- and in place of the one with its key
pub put-sets : (x : Entry) (es : List Entry) (i : ℕ) (y : Entry) → AllWithin (λ e. is_before_key (filed x).0 e ≡ true) es 0 i → slice_get es i ≡ Some y → key_cmp (filed y).0 (filed x).0 ≡ Equal
    → map filed (slice_set es i x) ≡ put key_cmp (filed x).0 x.record (map filed es)
put-sets x [] i y pass found same = absurd (let e : None ≡ Some y = found in cc)
put-sets x (e ∷ es) ℕ.zero y pass found same =
    let here : key_cmp (filed e).0 (filed x).0 ≡ Equal = ap (λ (z : Entry). key_cmp (filed z).0 (filed x).0) (inside e y found) ∙ same in
    sym (ap (λ o. by_order o (filed x ∷ filed e ∷ map filed es) (((filed e).0, x.record) ∷ map filed es) (filed e ∷ put key_cmp (filed x).0 x.record (map filed es)))
    (keys_total.antisymm (filed x).0 (filed e).0 ∙ ap ordering_reverse here)
    ∙ ap (λ (k : Key). (k, x.record) ∷ map filed es) (exact_keys (filed e).0 (filed x).0 here))
put-sets x (e ∷ es) (suc i) y pass found same =
    ap (λ ys. filed e ∷ ys) (put-sets x es i y (λ k d l s. pass (suc k) d (omega arith) (omega arith)) found same)
    ∙ sym (put_over (filed e) (filed x) (map filed es) (lt_less _ (pass 0 e (omega arith) (omega arith))))

-- what isn't before a key, and hasn't it, is after it
pub after_key : (k : Key) (es : List Entry) (i : ℕ) (o : Option Entry) (r : Ordering) → slice_get es i ≡ o → AllWithin (λ e. is_before_key k e ≡ false) es i (length es) → MatchOption o (r ≡ Less) (λ e. r ≡ key_cmp (filed e).0 k) → (r ≡ Equal → ⊥)
    → (y : Entry) → slice_get es i ≡ Some y → key_cmp (filed y).0 k ≡ Greater
after_key k es i None r found fail is other y there = absurd (let e : None ≡ Some y = sym found ∙ there in cc)
after_key k es i (Some e) r found fail is other y there =
    let same : e ≡ y = inside e y (sym found ∙ there) in
    greater (key_cmp (filed y).0 k)
    (ap (λ z. is_lt (key_cmp (filed z).0 k)) (sym (get_or_from_slice_get es i y y there)) ∙ fail i y (omega arith) (slice_get_within es i y there))
    (λ t. other (is ∙ ap (λ z. key_cmp (filed z).0 k) same ∙ t))
  where
    greater : (q : Ordering) → is_lt q ≡ false → (q ≡ Equal → ⊥) → q ≡ Greater
    greater Less f n = absurd (true≢false f)
    greater Equal f n = absurd (n refl)
    greater Greater f n = refl

-- what `get` finds
pub got : (xs : List Entry) (i : ℕ) (r : Option (Bor Entry)) → (is_some r ≡ nat_lt i (length xs)) × IfSome r (λ x. x.now ≡ get_or xs i x.now) → option_copied r ≡ slice_get xs i
got xs i None h = sym (slice_get_past xs i (ltb-false i (length xs) (sym h.0)))
got xs i (Some x) h = sym (slice_get-get_or xs i x.now (ltb-true i (length xs) (sym h.0)) ∙ ap Some (sym h.1))

-- the order of the entry at a place to the key, where it is Equal
pub put-equal : (x : Entry) (es : List Entry) (i : ℕ) (o : Option Entry) (r : Ordering) → AllWithin (λ e. is_before_key (filed x).0 e ≡ true) es 0 i → slice_get es i ≡ o → MatchOption o (r ≡ Less) (λ e. r ≡ key_cmp (filed e).0 (filed x).0) → r ≡ Equal
    → map filed (slice_set es i x) ≡ put key_cmp (filed x).0 x.record (map filed es)
put-equal x es i None r pass found is equal = absurd (let e : Less ≡ Equal = sym is ∙ equal in cc)
put-equal x es i (Some e) r pass found is equal = put-sets x es i e pass found (sym is ∙ equal)
