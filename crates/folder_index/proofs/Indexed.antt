-- What changes of an index leave of what holds of it.
use Rattle.std.proofs.Common.{◌≡◌, ◌≢◌, ℕ, ◌+◌, ◌-◌, ◌<◌, ◌^◌, Bool, true, false, List, [], ◌∷◌, refl, sym, ap, subst, ◌∙◌, ◌⊎◌, inl, inr, arith}
use Rattle.std.specs.Prelude.{bytes_eq, cond, nat_lt, Option, Some, None, is_some, option_map}
use Rattle.std.specs.Cmp.{nat_cmp_total}
use Rattle.std.specs.FinSet as set
use Rattle.std.specs.FinSet.{contains, empty as no_names, len-empty}
use Rattle.std.specs.FinMap.{contains_key, empty, get, insert, nat_cmp-IsAntisymmetric, remove}
use Rattle.std.specs.List.{list_all}
use Rattle.std.proofs.lemmas.Bool.{lt-ltb, ltb-true}
use Rattle.std.proofs.lemmas.Option.{none-some}
use Rattle.sync_record.specs.Devices.{Identity, bytes_cmp}
use Rattle.sync_record.specs.Records.{Name, FileRecord}
use Rattle.folder_core.specs.Announced.{key}
use Rattle.folder_core.proofs.AnnouncedMaps.{insert_here, remove_inserted, remove_split}
use Rattle.folder_core.proofs.ListTests.{In, all_in, alike_bytes, in_all, inside, same_bytes}
use Rattle.folder_index.specs.declared.local.Local.{Local}
use Rattle.folder_index.specs.Digests.{HasNone, with_blocks, without_blocks}
use Rattle.folder_index.specs.Indexes.{IndexState, counted, with_promise, with_record, without_promise, without_record}
use Rattle.folder_index.specs.Latest.{AreLatest, Waiting, with_latest, without_sequence}
use Rattle.folder_index.specs.Locals.{AreEarlier, AreFiled, AreKept, AreLocals, IsFree, IsIndex, IsSettled, all_local, blocks_at, live_blocks, no_local, with_exchanged, with_filed, with_first_filed, with_last, with_prepared, without_filed, without_local, without_prepared}
use Rattle.folder_index.specs.Sequences.{Sequenced}
use Rattle.folder_index.specs.Numbers.{is_second, number_of, other_number_of}
use Rattle.folder_index.proofs.Digested.{undone}
use Rattle.folder_index.proofs.Lately.{first_absent, first_filed, get_below, get_latest, latest_of, no_latest, none_latest, none_released, one_promised, one_put, one_released, one_taken, promise_counts, promised_again, remove_aside, with_latest_push, without_latest}
use Rattle.folder_index.proofs.Filed.{at_inserted, exchanged, filed, nothing_at, nothing_filed, unfiled, unused_at}
use Rattle.folder_index.proofs.Locals.{free_sequence, none_yet, other_cleared, other_set, own_cleared, own_exchanged, own_replaced, own_set}
use Rattle.folder_index.proofs.Numbered.{apart, numbers_kept, other_kept, other_unlike, turned_here, turned_other}

-- an index in other words
pub moved : {s t : IndexState} {l k : Local} → s ≡ t → l ≡ k → IsIndex s l → IsIndex t k
moved a b is = let Are : IndexState × Local → Type 0 = λ x. IsIndex x.0 x.1 in subst Are (λ i. (a i, b i)) is

pub settled_moved : {s t : IndexState} {l k : Local} → s ≡ t → l ≡ k → IsSettled s l → IsSettled t k
settled_moved a b is = let Are : IndexState × Local → Type 0 = λ x. IsSettled x.0 x.1 in subst Are (λ i. (a i, b i)) is

-- the sequence of a record, if there is one
abbrev pub sequence_at : Option FileRecord → Option ℕ
sequence_at o = option_map (λ r. r.sequence) o

record_of : (o : Option FileRecord) (q : ℕ) → Some q ≡ sequence_at o → (r : FileRecord) × (o ≡ Some r) × (r.sequence ≡ q)
record_of None q e = absurd (none-some q (sym e))
record_of (Some r) q e = (r, refl, sym (inside q r.sequence e))

none_of : (o : Option FileRecord) → None ≡ sequence_at o → o ≡ None
none_of None e = refl
none_of (Some r) e = absurd (none-some r.sequence e)

-- a record has another sequence, where each that is told is another
pub unlike_told : (x : Option FileRecord) (p : ℕ) (y : Option ℕ) → y ≡ sequence_at x → ((q : ℕ) → y ≡ Some q → q ≢ p) → (o : FileRecord) → x ≡ Some o → o.sequence ≢ p
unlike_told x p y is each o there same = each o.sequence (is ∙ ap sequence_at there) same

-- what is filed and taken out again leaves what was there
pub filed_undone : (l : Local) (r : FileRecord) → get l.records r.sequence ≡ None → HasNone (number_of l.numbers r.sequence) l.places → without_filed r.sequence (with_filed r l) ≡ l
filed_undone l r absent unused =
    let records = remove_inserted nat_cmp_total nat_cmp-IsAntisymmetric l.records r.sequence r absent in
    let number = number_of l.numbers r.sequence in
    let places =
    ap (λ bs. without_blocks number bs (with_blocks number (live_blocks r) l.places)) (at_inserted l.records r.sequence r)
    ∙ undone number (live_blocks r) l.places unused in
    λ i. record { records = records i; places = places i; numbers = l.numbers; latest = l.latest }

pub index_new : (me : Identity) → IsIndex (record { me = me; announced = empty; choices = 0; promised = no_names }) no_local
index_new me = record {
  locals = none_yet me;
  kept = record { filed = nothing_filed (number_of empty); latest = no_latest };
  promised = sym (len-empty bytes_cmp);
}

module _ (s : IndexState) (records : Sequenced) (locals : AreLocals s.me s.announced records) where
  -- the sequence of a local record
  pub low_there : (n : Name) (q : ℕ) → Some q ≡ sequence_at (get s.announced (key n s.me)) → q < 2 ^ 63
  low_there n q there =
      let o = record_of (get s.announced (key n s.me)) q there in
      subst (λ p. p < 2 ^ 63) o.2 (locals.only o.0.sequence o.0 (locals.has n o.0 o.1)).1

  -- whether a sequence is free is told by its record
  pub free_none : (n : Name) (q : ℕ) → get records q ≡ None → IsFree s n q
  free_none n q none m r there unlike same = none-some r (sym none ∙ ap (get records) (sym same) ∙ locals.has m r there)

  pub free_same : (n : Name) (q : ℕ) (o : FileRecord) → get records q ≡ Some o → o.name ≡ n → IsFree s n q
  free_same n q o filed named m r there unlike same =
      let one : r ≡ o = inside r o (sym (locals.has m r there) ∙ ap (get records) same ∙ filed) in
      unlike (sym (locals.named (key m s.me) r there) ∙ ap (λ (x : FileRecord). x.name) one ∙ named)

  pub not_free : (n : Name) (q : ℕ) (o : FileRecord) → get records q ≡ Some o → o.name ≢ n → IsFree s n q → ⊥
  not_free n q o filed unlike free = let own = locals.only q o filed in free o.name o own.2 unlike own.0

  -- all local records have a lesser sequence
  module _ (q : ℕ) (earlier : AreEarlier s q) where
    pub earlier_free : (n : Name) → IsFree s n q
    earlier_free n m r there unlike same = (let a = earlier m r there in absurd (omega arith))

    pub earlier_records : (p : ℕ) (r : FileRecord) → get records p ≡ Some r → p < q
    earlier_records p r there = let own = locals.only p r there in subst (λ k. k < q) own.0 (earlier r.name r own.2)

module _ (s : IndexState) (l : Local) (is : IsSettled s l) where
  -- a local record
  module _ (r : FileRecord) (low : r.sequence < 2 ^ 63) (free : IsFree s r.name r.sequence) where
    -- under a sequence that no record has
    module _ (unlike : (o : FileRecord) → get s.announced (key r.name s.me) ≡ Some o → o.sequence ≢ r.sequence) where
      pub absent : get l.records r.sequence ≡ None
      absent = free_sequence s.me s.announced l.records is.locals r low free unlike

      pub unused : HasNone (number_of l.numbers r.sequence) l.places
      unused = nothing_at (number_of l.numbers) (apart l.numbers) l.records l.places is.filed r.sequence absent

      are_filed : AreFiled (number_of l.numbers) (with_filed r l).records (with_filed r l).places
      are_filed = filed (number_of l.numbers) (apart l.numbers) l.records l.places is.filed r.sequence r absent

      pub index_set : None ≡ sequence_at (get s.announced (key r.name s.me)) → IsSettled (with_record s.me r s) (with_filed r l)
      index_set none = record {
        locals = own_set s.me s.announced l.records is.locals r low free (none_of (get s.announced (key r.name s.me)) none);
        filed = are_filed;
      }

      pub index_replaced : (q : ℕ) → Some q ≡ sequence_at (get s.announced (key r.name s.me)) → IsSettled (with_record s.me r s) (without_filed q (with_filed r l))
      index_replaced q there =
          let o = record_of (get s.announced (key r.name s.me)) q there in
          record {
            locals = subst (λ p. AreLocals s.me (insert s.announced (key r.name s.me) r) (remove (with_filed r l).records p)) o.2 (own_replaced s.me s.announced l.records is.locals r low free o.0 o.1 (unlike o.0 o.1));
            filed = unfiled (number_of l.numbers) (apart l.numbers) (with_filed r l).records (with_filed r l).places are_filed q;
          }

    -- under the sequence of the record that it takes the place of
    pub unprepared : HasNone (other_number_of l.numbers r.sequence) l.places
    unprepared = unused_at (number_of l.numbers) l.records l.places is.filed (other_number_of l.numbers r.sequence) (other_unlike l.numbers r.sequence)

    pub index_unprepared : IsSettled s (without_prepared r (with_prepared r l))
    index_unprepared =
        let places =
        ap (λ n. without_blocks n (live_blocks r) (with_blocks (other_number_of l.numbers r.sequence) (live_blocks r) l.places)) (other_kept l.numbers r.sequence r.sequence)
        ∙ undone (other_number_of l.numbers r.sequence) (live_blocks r) l.places unprepared in
        record {
          locals = is.locals;
          filed = subst (AreFiled (number_of (with_prepared r l).numbers) l.records) (sym places) (subst (λ f. AreFiled f l.records l.places) (sym (numbers_kept l.numbers r.sequence)) is.filed);
        }

    module _ (there : Some r.sequence ≡ sequence_at (get s.announced (key r.name s.me))) where
      pub is_prepared : contains_key (with_prepared r l).numbers r.sequence ≡ true
      is_prepared = ap is_some (insert_here nat_cmp_total nat_cmp-IsAntisymmetric l.numbers r.sequence (is_second l.numbers r.sequence))

      pub is_present : contains_key l.records r.sequence ≡ true
      is_present =
          let o = record_of (get s.announced (key r.name s.me)) r.sequence there in
          ap is_some (ap (get l.records) (sym o.2) ∙ is.locals.has r.name o.0 o.1)

      pub index_exchanged : IsSettled (with_record s.me r s) (with_exchanged r (with_prepared r l))
      index_exchanged =
          let o = record_of (get s.announced (key r.name s.me)) r.sequence there in
          let q = r.sequence in
          let kept = (with_prepared r l).numbers in
          let next = (with_exchanged r (with_prepared r l)).numbers in
          let here : number_of next q ≡ other_number_of l.numbers q = turned_here kept q ∙ other_kept l.numbers q q in
          let number : number_of kept q ≡ number_of l.numbers q = ap (λ f. f q) (numbers_kept l.numbers q) in
          let elsewhere : (p : ℕ) → p ≢ q → number_of next p ≡ number_of l.numbers p = λ p unlike. turned_other kept q p unlike ∙ ap (λ f. f p) (numbers_kept l.numbers q) in
          let are = exchanged (number_of l.numbers) (number_of next) (apart l.numbers) (apart next) l.records l.places is.filed q r elsewhere (λ e. other_unlike l.numbers q q (sym here ∙ e)) in
          record {
            locals = own_exchanged s.me s.announced l.records is.locals r low free o.0 o.1 o.2;
            filed = subst (AreFiled (number_of next) (insert l.records q r)) (λ i. without_blocks (sym number i) (blocks_at l.records q) (with_blocks (here i) (live_blocks r) l.places)) are;
          }

-- the promises after a change of another device's record
others_keep : (d : Identity) (r : FileRecord) (s : IndexState) → d ≢ s.me → s.promised ≡ (with_record d r s).promised
others_keep d r s other = by (bytes_eq d s.me) refl
  where
    by : (b : Bool) → bytes_eq d s.me ≡ b → s.promised ≡ cond b (set.remove s.promised r.name) s.promised
    by true t = absurd (other (same_bytes d s.me t))
    by false t = refl

-- and of one of this device's
own_keep : (r : FileRecord) (s : IndexState) → (with_record s.me r s).promised ≡ set.remove s.promised r.name
own_keep r s = ap (λ b. cond b (set.remove s.promised r.name) s.promised) (alike_bytes s.me s.me refl)

module _ (s : IndexState) (l : Local) (is : IsIndex s l) where
  -- a record of another device
  module _ (d : Identity) (other : d ≢ s.me) where
    pub other_index : (r : FileRecord) → IsIndex (with_record d r s) l
    other_index r = record {
      locals = other_set s.me s.announced (all_local l) is.locals d other r;
      kept = is.kept;
      promised = is.promised ∙ ap (λ n. set.len n) (others_keep d r s other);
    }

    pub other_index_cleared : (n : Name) → IsIndex (without_record d n s) l
    other_index_cleared n = by (contains_key s.announced (key n d))
      where
        by : (b : Bool) → IsIndex (cond b (record { me = s.me; announced = remove s.announced (key n d); choices = counted s.choices; promised = s.promised }) s) l
        by true = record { locals = other_cleared s.me s.announced (all_local l) is.locals d other n; kept = is.kept; promised = is.promised }
        by false = is

  -- a local record that is taken away
  pub kept_taken : (q : ℕ) → AreKept (without_local q l)
  kept_taken q = record {
    filed = unfiled (number_of l.numbers) (apart l.numbers) l.records l.places is.kept.filed q;
    latest = one_taken l.records l.latest.records is.kept.latest q;
  }

  pub locals_taken : (n : Name) (o : FileRecord) → get s.announced (key n s.me) ≡ Some o → AreLocals s.me (remove s.announced (key n s.me)) (all_local (without_local o.sequence l))
  locals_taken n o there =
      subst (AreLocals s.me (remove s.announced (key n s.me))) (sym (without_latest l.latest.records l.records o.sequence))
      (own_cleared s.me s.announced (all_local l) is.locals n o there)

  pub index_cleared : (n : Name) (q : ℕ) → Some q ≡ sequence_at (get s.announced (key n s.me)) → IsIndex (without_record s.me n s) (without_local q l)
  index_cleared n q there = by (record_of (get s.announced (key n s.me)) q there)
    where
      by : (o : FileRecord) × (get s.announced (key n s.me) ≡ Some o) × (o.sequence ≡ q) → IsIndex (without_record s.me n s) (without_local q l)
      by o = subst (λ b. IsIndex (cond b (record { me = s.me; announced = remove s.announced (key n s.me); choices = counted s.choices; promised = s.promised }) s) (without_local q l)) (sym (ap is_some o.1)) (record {
        locals = subst (λ p. AreLocals s.me (remove s.announced (key n s.me)) (all_local (without_local p l))) o.2 (locals_taken n o.0 o.1);
        kept = kept_taken q;
        promised = is.promised;
      })

  pub index_kept : (n : Name) → None ≡ sequence_at (get s.announced (key n s.me)) → IsIndex (without_record s.me n s) l
  index_kept n none =
      subst (λ b. IsIndex (cond b (record { me = s.me; announced = remove s.announced (key n s.me); choices = counted s.choices; promised = s.promised }) s) l) (sym (ap is_some (none_of (get s.announced (key n s.me)) none))) is

  -- the records that were put last are filed
  pub index_settled : (k : Local) → AreKept k → all_local k ≡ all_local l → k.latest.promised ≡ l.latest.promised → IsIndex s k
  index_settled k kept all promised = record {
    locals = subst (AreLocals s.me s.announced) (sym all) is.locals;
    kept = kept;
    promised = promised ∙ is.promised;
  }

  pub settled_of : l.latest.records ≡ [] → IsSettled s l
  settled_of none = record {
    locals = subst (λ rs. AreLocals s.me s.announced (with_latest rs l.records)) none is.locals;
    filed = is.kept.filed;
  }

-- an index of which all is filed
pub index_of_settled : (s : IndexState) (l : Local) → IsSettled s l → l.latest.records ≡ [] → l.latest.promised ≡ set.len s.promised → IsIndex s l
index_of_settled s l is none promised = record {
  locals = subst (λ rs. AreLocals s.me s.announced (with_latest rs l.records)) (sym none) is.locals;
  kept = record { filed = is.filed; latest = subst (AreLatest l.records) (sym none) (none_latest l.records) };
  promised = promised;
}

-- what is put last and what is promised is another
abbrev pub with_waiting : Waiting → Local → Local
with_waiting w l = record { records = l.records; places = l.places; numbers = l.numbers; latest = w }

-- one promise fewer, and one more
abbrev pub fewer : Waiting → Waiting
fewer w = record { records = w.records; promised = w.promised - 1 }

abbrev pub more : Waiting → Waiting
more w = record { records = w.records; promised = w.promised + 1 }

-- a local record was put where all is filed, and what was promised for it is given back
module _ (s : IndexState) (r : FileRecord) (l : Local) (is : IsSettled (with_record s.me r s) l) (none : l.latest.records ≡ []) (promised : l.latest.promised ≡ set.len s.promised) where
  pub set_kept : contains s.promised r.name ≡ false → IsIndex (with_record s.me r s) l
  set_kept f = index_of_settled (with_record s.me r s) l is none (promised ∙ sym (ap (λ n. set.len n) (own_keep r s) ∙ none_released s.promised r.name f))

  pub set_released : contains s.promised r.name ≡ true → IsIndex (with_record s.me r s) (with_waiting (fewer l.latest) l)
  set_released t = record {
    locals = subst (λ rs. AreLocals s.me (insert s.announced (key r.name s.me) r) (with_latest rs l.records)) (sym none) is.locals;
    kept = record { filed = is.filed; latest = subst (AreLatest l.records) (sym none) (none_latest l.records) };
    promised = ap (λ n. n - 1) promised ∙ sym (ap (λ n. set.len n) (own_keep r s) ∙ one_released s.promised r.name t);
  }

module _ (s : IndexState) (l : Local) (is : IsIndex s l) where
  -- promises
  pub index_promised : (n : Name) → contains s.promised n ≡ false → IsIndex (with_promise n s) (with_waiting (more l.latest) l)
  index_promised n f = record {
    locals = is.locals;
    kept = record { filed = is.kept.filed; latest = is.kept.latest };
    promised = ap (λ k. k + 1) is.promised ∙ sym (one_promised s.promised n f);
  }

  pub index_unpromised : IsIndex s (with_waiting (fewer (more l.latest)) l)
  index_unpromised = record {
    locals = is.locals;
    kept = record { filed = is.kept.filed; latest = is.kept.latest };
    promised = (let e : l.latest.promised + 1 - 1 ≡ l.latest.promised = omega arith in e) ∙ is.promised;
  }

  pub index_released : (n : Name) → contains s.promised n ≡ true → IsIndex (without_promise n s) (with_waiting (fewer l.latest) l)
  index_released n t = record {
    locals = is.locals;
    kept = record { filed = is.kept.filed; latest = is.kept.latest };
    promised = ap (λ k. k - 1) is.promised ∙ sym (one_released s.promised n t);
  }

  pub index_unreleased : (n : Name) → contains s.promised n ≡ false → IsIndex (without_promise n s) l
  index_unreleased n f = record { locals = is.locals; kept = is.kept; promised = is.promised ∙ sym (none_released s.promised n f) }

  -- a name that is promised already
  pub promise_again : (n : Name) → contains s.promised n ≡ true → s ≡ with_promise n s
  promise_again n t = λ i. record { me = s.me; announced = s.announced; choices = s.choices; promised = promised_again s.promised n t i }

  pub some_promised : (n : Name) → contains s.promised n ≡ true → 0 < l.latest.promised
  some_promised n t = subst (λ k. 0 < k) (sym is.promised) (promise_counts s.promised n t)

  -- a local record that is put last
  module _ (r : FileRecord) (low : r.sequence < 2 ^ 63) (reserved : contains s.promised r.name ≡ true) (earlier : AreEarlier s r.sequence) where
    free : IsFree s r.name r.sequence
    free = earlier_free s (all_local l) is.locals r.sequence earlier r.name

    counts : l.latest.promised - 1 ≡ set.len (with_record s.me r s).promised
    counts = ap (λ k. k - 1) is.promised ∙ sym (ap (λ n. set.len n) (own_keep r s) ∙ one_released s.promised r.name reserved)

    pub last_set : None ≡ sequence_at (get s.announced (key r.name s.me)) → IsIndex (with_record s.me r s) (with_last r l)
    last_set none = record {
      locals = subst (AreLocals s.me (insert s.announced (key r.name s.me) r)) (sym (with_latest_push l.latest.records l.records r))
          (own_set s.me s.announced (all_local l) is.locals r low free (none_of (get s.announced (key r.name s.me)) none));
      kept = record {
        filed = is.kept.filed;
        latest = one_put l.records l.latest.records is.kept.latest r (earlier_records s (all_local l) is.locals r.sequence earlier);
      };
      promised = counts;
    }

    module _ (o : FileRecord) (there : get s.announced (key r.name s.me) ≡ Some o) where
      unlike : r.sequence ≢ o.sequence
      unlike same = (let a = earlier r.name o there in absurd (omega arith))

      all_is : all_local (with_last r (without_local o.sequence l)) ≡ remove (insert (all_local l) r.sequence r) o.sequence
      all_is =
          with_latest_push (without_sequence o.sequence l.latest.records) (remove l.records o.sequence) r
          ∙ ap (λ m. insert m r.sequence r) (without_latest l.latest.records l.records o.sequence)
          ∙ sym (remove_aside (all_local l) o.sequence r.sequence r unlike)

      less : (q : ℕ) (x : FileRecord) → get (with_latest (without_sequence o.sequence l.latest.records) (remove l.records o.sequence)) q ≡ Some x → q < r.sequence
      less q x e =
          earlier_records s (all_local l) is.locals r.sequence earlier q x
          (remove_split nat_cmp_total nat_cmp-IsAntisymmetric (all_local l) o.sequence q x (ap (λ m. get m q) (sym (without_latest l.latest.records l.records o.sequence)) ∙ e)).1

      last_over : IsIndex (with_record s.me r s) (with_last r (without_local o.sequence l))
      last_over = record {
        locals = subst (AreLocals s.me (insert s.announced (key r.name s.me) r)) (sym all_is)
            (own_replaced s.me s.announced (all_local l) is.locals r low free o there (λ e. unlike (sym e)));
        kept = record {
          filed = (kept_taken s l is o.sequence).filed;
          latest = one_put (remove l.records o.sequence) (without_sequence o.sequence l.latest.records) (kept_taken s l is o.sequence).latest r less;
        };
        promised = counts;
      }

    pub last_replaced : (q : ℕ) → Some q ≡ sequence_at (get s.announced (key r.name s.me)) → IsIndex (with_record s.me r s) (with_last r (without_local q l))
    last_replaced q there =
        let o = record_of (get s.announced (key r.name s.me)) q there in
        subst (λ p. IsIndex (with_record s.me r s) (with_last r (without_local p l))) o.2 (last_over o.0 o.1)

-- ---- which sequence is the next

module _ (s : IndexState) (l : Local) (is : IsIndex s l) (q : ℕ) where
  abbrev all_below : Bool
  all_below = list_all (λ (r : FileRecord). nat_lt r.sequence q) l.latest.records

  pub all_earlier : all_below ≡ true → ((p : ℕ) (r : FileRecord) → get l.records p ≡ Some r → p < q) → AreEarlier s q
  all_earlier below filed n r there = by (latest_of l.latest.records l.records r.sequence r (is.locals.has n r there))
    where
      by : (get l.records r.sequence ≡ Some r) ⊎ In r l.latest.records → r.sequence < q
      by (inl e) = filed r.sequence r e
      by (inr i) = ltb-true r.sequence q (all_in (λ (x : FileRecord). nat_lt x.sequence q) l.latest.records below r i)

  pub earlier_filed : AreEarlier s q → (p : ℕ) (r : FileRecord) → get l.records p ≡ Some r → p < q
  earlier_filed earlier p r e = earlier_records s (all_local l) is.locals q earlier p r (get_below l.latest.records l.records p (is.kept.latest.above p r e) ∙ e)

  pub earlier_all : AreEarlier s q → all_below ≡ true
  earlier_all earlier = in_all (λ (x : FileRecord). nat_lt x.sequence q) l.latest.records (λ r i.
      lt-ltb r.sequence q (earlier_records s (all_local l) is.locals q earlier r.sequence r (get_latest l.latest.records is.kept.latest.rises l.records r i)))

-- ---- the first of the records that were put last is filed

module _ (l : Local) (kept : AreKept l) (r : FileRecord) (rs : List FileRecord) (first : l.latest.records ≡ r ∷ rs) where
  latest_are : AreLatest l.records (r ∷ rs)
  latest_are = subst (AreLatest l.records) first kept.latest

  absent_first : get l.records r.sequence ≡ None
  absent_first = first_absent l.records r rs latest_are

  pub unused_first : HasNone (number_of l.numbers r.sequence) l.places
  unused_first = nothing_at (number_of l.numbers) (apart l.numbers) l.records l.places kept.filed r.sequence absent_first

  pub first_kept : AreKept (with_first_filed r rs l)
  first_kept = record {
    filed = filed (number_of l.numbers) (apart l.numbers) l.records l.places kept.filed r.sequence r absent_first;
    latest = first_filed l.records r rs latest_are;
  }

  pub first_all : all_local (with_first_filed r rs l) ≡ all_local l
  first_all = ap (λ xs. with_latest xs l.records) (sym first)
