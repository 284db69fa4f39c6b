-- What `stat`, `list` and `read_at` say, and which call a failing store fails.
use Rattle.std.proofs.Common.{◌≡◌, ℕ, ◌+◌, ◌-◌, ◌<◌, ◌≤◌, Bool, true, false, cond, inl, inr, ◌⊎◌, List, [], ◌∷◌, ◌++◌, map, take, drop, length, suc, Option, Some, None, Result, Ok, Err, refl, sym, ap, subst, ◌∙◌, arith}
use Rattle.std.specs.Prelude.{◌≢◌, ◌↔◌, ⊤, min, bytes_eq, is_none, AllPairs, Contains, IsNone, if◌then◌else◌}
use Rattle.std.specs.Cmp.Lexicographic.{slice_cmp}
use Rattle.std.specs.Cmp.{IsEquivalence}
use Rattle.std.specs.List.{IsDistinct}
use Rattle.std.specs.List.Sorted.{IsStrictlySortedBy}
use Rattle.std.specs.Map.{keys_of}
use Rattle.std.specs.Ordering.{nat_cmp}
use Rattle.std.proofs.lemmas.Bool.{false≢true, ne_eqb}
use Rattle.std.proofs.lemmas.List.{drop-drop, get_or-map, length-take, length-take-le, take-append-drop}
use Rattle.std.proofs.lemmas.Map.Keys.{IsDistinct-from_sorted}
use Rattle.std.proofs.lemmas.Map.Made.{AllPairs-from_IsDistinct}
use Rattle.std.proofs.lemmas.Map.Text.{is_eq-slice_cmp}
use Rattle.std.proofs.lemmas.Map.Views.{Contains-from_lookup, lookup-from_Contains}
use Rattle.std.proofs.lemmas.Option.{none-some}
use Rattle.std.proofs.lemmas.Slice.Eq.{bytes_eq-Decides}
use Rattle.std.proofs.Math.ListN.{drop_of_length-le}
use Rattle.sync_names.specs.Refusal.{refusal}
use Rattle.file_store.specs.declared.failing.FailingStore.{FailingStore}
use Rattle.file_store.specs.declared.failing.FailureTime.TheVariants.{Before, After}
use Rattle.file_store.specs.declared.node.Kind.{Kind}
use Rattle.file_store.specs.declared.node.Kind.TheVariants as kind
use Rattle.file_store.specs.declared.node.Listed.{Listed}
use Rattle.file_store.specs.declared.node.Listing.{Listing}
use Rattle.file_store.specs.declared.node.Node.{Node}
use Rattle.file_store.specs.declared.node.Node.TheVariants.{Directory, File}
use Rattle.file_store.specs.declared.node.Stat.{Stat}
use Rattle.file_store.specs.declared.node.Stat.TheVariants as stat
use Rattle.file_store.specs.declared.refusal.StoreRefusal.{StoreRefusal}
use Rattle.file_store.specs.declared.refusal.StoreRefusal.TheVariants.{StoreFault}
use Rattle.file_store.specs.Calls.{Lists, Reads, Stats, stat_of}
use Rattle.file_store.specs.Failing.{after_one, calls_left, failure_time, is_next, wrapped}
use Rattle.file_store.specs.Laws.{FailsOneOf, IsOfKind, ReadsOn, read_ends, read_more, SaysWhatIsThere}
use Rattle.file_store.specs.Listings.{kind_at}
use Rattle.file_store.specs.Names.{Name}
use Rattle.file_store.specs.Trees.{Tree, bytes_of, is_directory, is_file}
use Rattle.file_store.proofs.BetweenLemmas.{same_bytes, same_name}
use Rattle.file_store.proofs.ParentLemmas.{turned}

-- which answer of `stat` it is, its size and its time
abbrev says_missing : Stat → Bool
says_missing stat.Missing = true
says_missing stat.Directory = false
says_missing (stat.File size modified) = false
says_missing stat.Other = false

abbrev says_directory : Stat → Bool
says_directory stat.Missing = false
says_directory stat.Directory = true
says_directory (stat.File size modified) = false
says_directory stat.Other = false

abbrev says_file : Stat → Bool
says_file stat.Missing = false
says_file stat.Directory = false
says_file (stat.File size modified) = true
says_file stat.Other = false

abbrev says_other : Stat → Bool
says_other stat.Missing = false
says_other stat.Directory = false
says_other (stat.File size modified) = false
says_other stat.Other = true

abbrev said_size : Stat → ℕ
said_size stat.Missing = 0
said_size stat.Directory = 0
said_size (stat.File size modified) = size
said_size stat.Other = 0

abbrev said_time : Stat → ℕ
said_time stat.Missing = 0
said_time stat.Directory = 0
said_time (stat.File size modified) = modified
said_time stat.Other = 0

abbrev time_of : Option Node → ℕ
time_of None = 0
time_of (Some Directory) = 0
time_of (Some (File bytes modified)) = modified

what_is_there : (there : Option Node) → SaysWhatIsThere (stat_of there) there
what_is_there None = record {
  missing = (λ e. refl, λ e. refl);
  directory = (λ e. absurd (false≢true (ap says_directory e)), λ e. absurd (none-some Directory e));
  file = λ size modified. (λ e. absurd (false≢true (ap says_file e)), λ h. absurd (none-some (File h.0 modified) h.1));
  other = λ e. false≢true (ap says_other e);
}
what_is_there (Some Directory) = record {
  missing = (λ e. absurd (false≢true (ap says_missing e)), λ e. absurd (none-some Directory (sym e)));
  directory = (λ e. refl, λ e. refl);
  file = λ size modified. (λ e. absurd (false≢true (ap says_file e)), λ h. absurd (false≢true (ap is_file h.1)));
  other = λ e. false≢true (ap says_other e);
}
what_is_there (Some (File bytes modified)) = record {
  missing = (λ e. absurd (false≢true (ap says_missing e)), λ e. absurd (none-some (File bytes modified) (sym e)));
  directory = (λ e. absurd (false≢true (ap says_directory e)), λ e. absurd (false≢true (ap is_directory e)));
  file = λ size time. (
    λ e. (bytes, (λ t. Some (File bytes (ap said_time e t))), ap said_size e),
    λ h. λ t. stat.File ((ap (λ o. length (bytes_of o)) h.1 ∙ h.2) t) (ap time_of h.1 t),
  );
  other = λ e. false≢true (ap says_other e);
}

pub stat_says : (old new : Tree) (n : Name) (said : Stat) → Stats ⊤ old n (Ok said) new → SaysWhatIsThere said (old.names n)
stat_says old new n said h = subst (λ s. SaysWhatIsThere s (old.names n)) (sym h.value) (what_is_there (old.names n))

abbrev is_file_kind : Option Kind → Bool
is_file_kind None = false
is_file_kind (Some kind.Directory) = false
is_file_kind (Some kind.File) = true

kind_said : (o : Option Node) (k : Kind) → kind_at o ≡ Some k → IsOfKind k o
kind_said None k e = absurd (none-some k e)
kind_said (Some Directory) kind.Directory e = refl
kind_said (Some Directory) kind.File e = absurd (false≢true (ap is_file_kind e))
kind_said (Some (File bytes modified)) kind.Directory e = absurd (false≢true (ap is_file_kind (sym e)))
kind_said (Some (File bytes modified)) kind.File e = (bytes, modified, refl)

kind_there : (o : Option Node) (k : Kind) → IsOfKind k o → kind_at o ≡ Some k
kind_there o kind.Directory h = ap kind_at h
kind_there o kind.File h = ap kind_at h.2

safe_said : {X : Type 0} (r : Option X) (o : Option Node) (k : Kind) → (if is_none r then kind_at o else None) ≡ Some k → IsNone r × IsOfKind k o
safe_said None o k e = (refl, kind_said o k e)
safe_said (Some x) o k e = absurd (none-some k e)

safe_there : {X : Type 0} (r : Option X) (o : Option Node) (k : Kind) → IsNone r × IsOfKind k o → (if is_none r then kind_at o else None) ≡ Some k
safe_there None o k h = kind_there o k h.1
safe_there (Some x) o k h = absurd (false≢true (sym h.0))

abbrev pair_of : Listed → Name × Kind
pair_of e = (e.name, e.kind)

abbrev pub names_of : List Listed → List Name
names_of es = map (λ e. e.name) es

abbrev pairs_of : List Listed → List (Name × Kind)
pairs_of es = map (λ e. (e.name, e.kind)) es

keys_are : (es : List Listed) → keys_of (pairs_of es) ≡ names_of es
keys_are [] = refl
keys_are (e ∷ es) = ap (λ l. e.name ∷ l) (keys_are es)

lengths_are : (es : List Listed) → length (pairs_of es) ≡ length es
lengths_are [] = refl
lengths_are (e ∷ es) = ap suc (lengths_are es)

same_laws : IsEquivalence bytes_eq
same_laws = record { refl = same_bytes; symm = turned; congr = λ x y z e. ap (λ m. bytes_eq m z) (same_name x y e) }

ascending_are_distinct : (ns : List Name) → IsStrictlySortedBy (slice_cmp nat_cmp) ns → IsDistinct bytes_eq ns
ascending_are_distinct ns h = subst (λ f. IsDistinct f ns) (λ t x y. is_eq-slice_cmp x y t) (IsDistinct-from_sorted (slice_cmp nat_cmp) ns h)

module _ (old new : Tree) (listing : Listing) (h : Lists ⊤ old (Ok listing) new) where
  pub listing_entries : (e : Listed) → Contains listing.entries.items e ↔ (IsNone (refusal e.name) × IsOfKind e.kind (old.names e.name))
  listing_entries e = (
    λ c. safe_said (refusal e.name) (old.names e.name) e.kind
        (sym (h.value.each e.name) ∙ lookup-from_Contains same_laws e.name e.kind (pairs_of listing.entries.items) distinct
        (c.0, subst (λ m. c.0 < m) (sym (lengths_are listing.entries.items)) c.1, get_or-map pair_of listing.entries.items c.0 e (e.name, e.kind) c.1 ∙ ap pair_of c.2)),
    λ k. let c = Contains-from_lookup same_name e.name e.kind (pairs_of listing.entries.items) (h.value.each e.name ∙ safe_there (refusal e.name) (old.names e.name) e.kind k) in
        let within = subst (λ m. c.0 < m) (lengths_are listing.entries.items) c.1 in
        (c.0, within, (λ t. listed_of ((sym (get_or-map pair_of listing.entries.items c.0 e (e.name, e.kind) within) ∙ c.2) t))),
  )
    where
      distinct : IsDistinct bytes_eq (keys_of (pairs_of listing.entries.items))
      distinct = subst (IsDistinct bytes_eq) (sym (keys_are listing.entries.items)) (ascending_are_distinct (names_of listing.entries.items) h.value.order.entries)

      listed_of : Name × Kind → Listed
      listed_of p = record { name = p.0; kind = p.1 }

  pub listing_once : AllPairs (λ a b. a ≢ b) (names_of listing.entries.items)
  listing_once = AllPairs-from_IsDistinct bytes_eq-Decides (names_of listing.entries.items) (ascending_are_distinct (names_of listing.entries.items) h.value.order.entries)

-- an empty buffer, or an offset past the end
none_left : (before bytes : List ℕ) (offset : ℕ) → min (length before) (length bytes - offset) ≡ 0 → (before ≡ []) ⊎ (length bytes ≤ offset)
none_left [] bytes offset e = inl refl
none_left (b ∷ bs) bytes offset e = inr (omega arith)

take_none : (xs : List ℕ) (k : ℕ) → length xs ≡ 0 → length (take k xs) ≡ 0
take_none xs k none = let l = length-take k xs in omega arith

module _ (old new : Tree) (n : Name) (offset k : ℕ) (before after : List ℕ) (h : Reads ⊤ old n offset before after (Ok k) new) where
  pub read_buffer : after ≡ take k (drop offset (bytes_of (old.names n))) ++ drop k before
  read_buffer = sym (take-append-drop k after) ∙ (λ t. h.bytes t ++ h.rest t)

  pub read_none : k ≤ length after → length after ≡ length before → (k ≡ 0) ↔ ((before ≡ []) ⊎ (length (bytes_of (old.names n)) ≤ offset))
  read_none within same = (
    λ e. none_left before (bytes_of (old.names n)) offset (h.none e),
    λ e. elim e [
      | inl none ↦ let none' : length before ≡ 0 = ap length none in omega arith
      | inr past ↦
          let b = bytes_of (old.names n) in
          let nothing : length (take k after) ≡ 0 = ap length h.bytes ∙ take_none (drop offset b) k (ap length (drop_of_length-le b past)) in
          let taken : length (take k after) ≡ k = length-take-le k after within in
          omega arith
    ],
  )

pub reads_whole : (t : Tree) (n : Name) (bytes : List ℕ) → ReadsOn t n 0 bytes → bytes ≡ bytes_of (t.names n)
reads_whole t n bytes h = reads_rest 0 bytes h
  where
    reads_rest : (offset : ℕ) (bytes : List ℕ) → ReadsOn t n offset bytes → bytes ≡ drop offset (bytes_of (t.names n))
    reads_rest o bs (read_ends offset before after some h) = elim (none_left before (bytes_of (t.names n)) offset (h.none refl)) [
      | inl none ↦ absurd (some none)
      | inr past ↦ sym (drop_of_length-le (bytes_of (t.names n)) past)
    ]
    reads_rest o bs (read_more offset k before after rest h more) =
        let b = bytes_of (t.names n) in
        (λ i. h.bytes i ++ reads_rest (offset + k) rest more i) ∙ ap (λ r. take k (drop offset b) ++ r) (sym (drop-drop k offset b)) ∙ take-append-drop k (drop offset b)

not_next : (o : Option ℕ) → o ≢ Some 0 → is_next o ≡ false
not_next None h = refl
not_next (Some left) h = ne_eqb left 0 (λ e. h (ap Some e))

one_less : (left : ℕ) → after_one (Some (left + 1)) ≡ Some left
one_less left =
    let more : ne_zero left = ne_eqb (left + 1) 0 (λ e. omega arith) in
    let less : (left + 1) - 1 ≡ left = omega arith in
    ap (λ b. cond b None (Some ((left + 1) - 1))) more ∙ ap Some less
  where
    ne_zero : ℕ → Type 0
    ne_zero left = is_next (Some (left + 1)) ≡ false

module _ {S V : Type 0} (old new : FailingStore S) (result answer : Result V StoreRefusal) (done : S) (h : FailsOneOf old new result answer done) where
  pub fails_before : calls_left old ≡ Some 0 → failure_time old ≡ Before → (result ≡ Err StoreFault) × (wrapped new ≡ wrapped old)
  fails_before e time = (h.due (ap is_next e), h.before (ap is_next e) time)

  pub fails_after : calls_left old ≡ Some 0 → failure_time old ≡ After → (result ≡ Err StoreFault) × (wrapped new ≡ done)
  fails_after e time = (h.due (ap is_next e), (h.after (ap is_next e) time).1.1)

  pub does_others : calls_left old ≢ Some 0 → (result ≡ answer) × (wrapped new ≡ done)
  does_others no' = h.other (not_next (calls_left old) no')

  pub counts_down : (left : ℕ) → calls_left old ≡ Some (left + 1) → calls_left new ≡ Some left
  counts_down left e = h.left ∙ ap after_one e ∙ one_less left

  pub fails_once : (calls_left old ≡ Some 0) ⊎ (calls_left old ≡ None) → calls_left new ≡ None
  fails_once (inl e) = h.left ∙ ap after_one e
  fails_once (inr e) = h.left ∙ ap after_one e
