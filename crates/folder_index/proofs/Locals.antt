-- The local records by sequence, as what is announced changes.
use Rattle.std.proofs.Common.{◌≡◌, ◌≢◌, ℕ, ◌<◌, ◌^◌, refl, sym, ap, subst, ◌∙◌, ◌⊎◌, inl, inr}
use Rattle.std.specs.Prelude.{bytes_eq, Bool, true, false, Option, Some, None}
use Rattle.std.specs.Cmp.{nat_cmp_total}
use Rattle.std.specs.FinMap.{IsAntisymmetric, empty, get, get-empty, insert, nat_cmp-IsAntisymmetric, remove}
use Rattle.std.specs.Ordering.{nat_cmp}
use Rattle.std.proofs.lemmas.Bool.{true≢false}
use Rattle.std.proofs.lemmas.Option.{none-some}
use Rattle.sync_record.specs.Devices.{Identity}
use Rattle.sync_record.specs.Records.{Name, FileRecord}
use Rattle.folder_core.specs.Announced.{Announced, IsNamed, Key, key, key_cmp}
use Rattle.folder_core.proofs.AnnouncedMaps.{insert_apart, insert_here, insert_other, insert_split, remove_other, remove_split}
use Rattle.folder_core.proofs.ListTests.{alike_bytes, inside, same_bytes}
use Rattle.folder_core.proofs.Orders.{exact_keys, keys_total}
use Rattle.folder_index.specs.Locals.{AreLocals}
use Rattle.folder_index.specs.Sequences.{Sequenced}

exact : IsAntisymmetric nat_cmp
exact = nat_cmp-IsAntisymmetric

abbrev sequence_of : FileRecord → ℕ
sequence_of r = r.sequence

abbrev name_of : FileRecord → Name
name_of r = r.name

abbrev key_name : Key → Name
key_name k = k.name

abbrev key_device : Key → Identity
key_device k = k.device

pub none_yet : (me : Identity) → AreLocals me empty empty
none_yet me = record {
  named = λ k r e. absurd (none-some r (sym (get-empty key_cmp k) ∙ e));
  has = λ n r e. absurd (none-some r (sym (get-empty key_cmp (key n me)) ∙ e));
  only = λ q r e. absurd (none-some r (sym (get-empty nat_cmp q) ∙ e));
}

module _ (me : Identity) (a : Announced) (records : Sequenced) (are : AreLocals me a records) where
  named_set : (d : Identity) (r : FileRecord) → IsNamed (insert a (key r.name d) r)
  named_set d r k x e = by (insert_split keys_total exact_keys a (key r.name d) k r x e)
    where
      by : ((k ≡ key r.name d) × (r ≡ x)) ⊎ (get a k ≡ Some x) → x.name ≡ k.name
      by (inl s) = ap name_of (sym s.1) ∙ sym (ap key_name s.0)
      by (inr old) = are.named k x old

  named_cleared : (k : Key) → IsNamed (remove a k)
  named_cleared k p x e = are.named p x (remove_split keys_total exact_keys a k p x e).1

  -- one local record of a sequence
  pub one_each : (m n : Name) (q r : FileRecord) → get a (key m me) ≡ Some q → get a (key n me) ≡ Some r → q.sequence ≡ r.sequence → q ≡ r
  one_each m n q r there here same = inside q r (sym (are.has m q there) ∙ ap (get records) same ∙ are.has n r here)

  -- the local record of a name
  pub one_named : (n : Name) (q r : FileRecord) → get a (key n me) ≡ Some q → get a (key n me) ≡ Some r → q ≡ r
  one_named n q r there here = inside q r (sym there ∙ here)

  -- another device's record
  module _ (d : Identity) (other : d ≢ me) where
    not_own : (m n : Name) → key m me ≢ key n d
    not_own m n same = other (sym (ap key_device same))

    pub other_set : (r : FileRecord) → AreLocals me (insert a (key r.name d) r) records
    other_set r = record {
      named = named_set d r;
      has = λ n x e. are.has n x (sym (insert_other keys_total exact_keys a (key r.name d) (key n me) r (not_own n r.name)) ∙ e);
      only = λ q x e. let o = are.only q x e in (o.0, o.1, insert_other keys_total exact_keys a (key r.name d) (key x.name me) r (not_own x.name r.name) ∙ o.2);
    }

    pub other_cleared : (n : Name) → AreLocals me (remove a (key n d)) records
    other_cleared n = record {
      named = named_cleared (key n d);
      has = λ m x e. are.has m x (sym (remove_other keys_total exact_keys a (key n d) (key m me) (not_own m n)) ∙ e);
      only = λ q x e. let o = are.only q x e in (o.0, o.1, remove_other keys_total exact_keys a (key n d) (key x.name me) (not_own x.name n) ∙ o.2);
    }

  -- a local record is taken away
  pub own_cleared : (n : Name) (o : FileRecord) → get a (key n me) ≡ Some o → AreLocals me (remove a (key n me)) (remove records o.sequence)
  own_cleared n o there = record {
    named = named_cleared (key n me);
    has = λ m x e.
        let old = remove_split keys_total exact_keys a (key n me) (key m me) x e in
        remove_other nat_cmp_total exact records o.sequence x.sequence
        (λ same. old.0 (ap (λ k. key k me) (sym (are.named (key m me) x old.1) ∙ ap name_of (one_each m n x o old.1 there same) ∙ are.named (key n me) o there)))
        ∙ are.has m x old.1;
    only = λ q x e.
        let old = remove_split nat_cmp_total exact records o.sequence q x e in
        let own = are.only q x old.1 in (
          own.0,
          own.1,
          remove_other keys_total exact_keys a (key n me) (key x.name me)
              (λ same. old.0 (sym own.0 ∙ ap sequence_of (one_named n x o (ap (get a) (sym same) ∙ own.2) there)))
              ∙ own.2,
        );
  }

  -- a local record is put under a sequence that no local record of another name has
  module _ (r : FileRecord) (low : r.sequence < 2 ^ 63) (free : (n : Name) (x : FileRecord) → get a (key n me) ≡ Some x → n ≢ r.name → x.sequence ≢ r.sequence) where
    pub free_sequence : ((x : FileRecord) → get a (key r.name me) ≡ Some x → x.sequence ≢ r.sequence) → get records r.sequence ≡ None
    free_sequence unlike = by (get records r.sequence) refl
      where
        either : (x : FileRecord) → (x.sequence ≡ r.sequence) × (r.sequence < 2 ^ 63) × (get a (key x.name me) ≡ Some x) → (t : Bool) → bytes_eq x.name r.name ≡ t → ⊥
        either x own true t = unlike x (ap (λ n. get a (key n me)) (sym (same_bytes x.name r.name t)) ∙ own.2) own.0
        either x own false t = free x.name x own.2 (λ s. true≢false (sym (alike_bytes x.name r.name s) ∙ t)) own.0

        by : (o : Option FileRecord) → get records r.sequence ≡ o → get records r.sequence ≡ None
        by None e = e
        by (Some x) e = absurd (either x (are.only r.sequence x e) (bytes_eq x.name r.name) refl)

    own_kept : (n : Name) (x : FileRecord) → get (insert a (key r.name me) r) (key n me) ≡ Some x → (get (insert records r.sequence r) x.sequence ≡ Some x) × ((r ≡ x) ⊎ ((n ≢ r.name) × (get a (key n me) ≡ Some x)))
    own_kept n x e = by (insert_apart keys_total exact_keys a (key r.name me) (key n me) r x e)
      where
        by : ((key n me ≡ key r.name me) × (r ≡ x)) ⊎ ((key n me ≢ key r.name me) × (get a (key n me) ≡ Some x)) → (get (insert records r.sequence r) x.sequence ≡ Some x) × ((r ≡ x) ⊎ ((n ≢ r.name) × (get a (key n me) ≡ Some x)))
        by (inl s) = (ap (λ (y : FileRecord). get (insert records r.sequence r) y.sequence) (sym s.1) ∙ insert_here nat_cmp_total exact records r.sequence r ∙ ap Some s.1, inl s.1)
        by (inr old) =
            let other : n ≢ r.name = λ s. old.0 (ap (λ m. key m me) s) in
            (insert_other nat_cmp_total exact records r.sequence x.sequence r (free n x old.1 other) ∙ are.has n x old.1, inr (other, old.1))

    own_only : (q : ℕ) (x : FileRecord) → get (insert records r.sequence r) q ≡ Some x → (q ≢ r.sequence → get records q ≡ Some x → key x.name me ≢ key r.name me) → (x.sequence ≡ q) × (q < 2 ^ 63) × (get (insert a (key r.name me) r) (key x.name me) ≡ Some x)
    own_only q x e other = by (insert_apart nat_cmp_total exact records r.sequence q r x e)
      where
        by : ((q ≡ r.sequence) × (r ≡ x)) ⊎ ((q ≢ r.sequence) × (get records q ≡ Some x)) → (x.sequence ≡ q) × (q < 2 ^ 63) × (get (insert a (key r.name me) r) (key x.name me) ≡ Some x)
        by (inl s) = (
          ap sequence_of (sym s.1) ∙ sym s.0,
          subst (λ p. p < 2 ^ 63) (sym s.0) low,
          ap (λ (y : FileRecord). get (insert a (key r.name me) r) (key y.name me)) (sym s.1) ∙ insert_here keys_total exact_keys a (key r.name me) r ∙ ap Some s.1,
        )
        by (inr there) =
            let own = are.only q x there.1 in
            (own.0, own.1, insert_other keys_total exact_keys a (key r.name me) (key x.name me) r (other there.0 there.1) ∙ own.2)

    -- of a name without one
    pub own_set : get a (key r.name me) ≡ None → AreLocals me (insert a (key r.name me) r) (insert records r.sequence r)
    own_set none = record {
      named = named_set me r;
      has = λ n x e. (own_kept n x e).0;
      only = λ q x e. own_only q x e (λ unlike there same. none-some x (sym none ∙ ap (get a) (sym same) ∙ (are.only q x there).2));
    }

    module _ (o : FileRecord) (was : get a (key r.name me) ≡ Some o) where
      -- a record that was there is not of the sequence of the one that is replaced
      unlike_was : (q : ℕ) (x : FileRecord) → get records q ≡ Some x → q ≢ o.sequence → key x.name me ≢ key r.name me
      unlike_was q x there unlike same = let own = are.only q x there in unlike (sym own.0 ∙ ap sequence_of (one_named r.name x o (ap (get a) (sym same) ∙ own.2) was))

      -- in place of one of another sequence
      pub own_replaced : o.sequence ≢ r.sequence → AreLocals me (insert a (key r.name me) r) (remove (insert records r.sequence r) o.sequence)
      own_replaced unlike = record {
        named = named_set me r;
        has = λ n x e. let k = own_kept n x e in remove_other nat_cmp_total exact (insert records r.sequence r) o.sequence x.sequence (other n x k.1) ∙ k.0;
        only = λ q x e.
            let left = remove_split nat_cmp_total exact (insert records r.sequence r) o.sequence q x e in
            own_only q x left.1 (λ _ there. unlike_was q x there left.0);
      }
        where
          other : (n : Name) (x : FileRecord) → (r ≡ x) ⊎ ((n ≢ r.name) × (get a (key n me) ≡ Some x)) → x.sequence ≢ o.sequence
          other n x (inl same) e = unlike (sym (ap sequence_of same ∙ e))
          other n x (inr old) e = old.0 (sym (are.named (key n me) x old.1) ∙ ap name_of (one_each n r.name x o old.1 was e) ∙ are.named (key r.name me) o was)

      -- in place of one of its sequence
      pub own_exchanged : o.sequence ≡ r.sequence → AreLocals me (insert a (key r.name me) r) (insert records r.sequence r)
      own_exchanged same = record {
        named = named_set me r;
        has = λ n x e. (own_kept n x e).0;
        only = λ q x e. own_only q x e (λ unlike there. unlike_was q x there (λ s. unlike (s ∙ same)));
      }
