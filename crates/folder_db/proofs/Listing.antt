-- What an index announces, as the list of a plain folder.
use Rattle.std.proofs.Common.{◌≡◌, ℕ, ◌+◌, List, [], ◌∷◌, length, refl, sym, ap, subst, ◌∙◌, inl, inr, arith}
use Rattle.std.specs.Prelude.{Option, filter, map}
use Rattle.std.specs.FinMap.{entries, entries_sorted, from_sorted, get, is_sorted}
use Rattle.sync_record.specs.Devices.{Identity}
use Rattle.sync_record.specs.Records.{Name, FileRecord}
use Rattle.folder_core.specs.declared.announcement.Announcement.{Announcement as Entry}
use Rattle.folder_core.specs.declared.plain.pull.OpenPull.{OpenPull}
use Rattle.folder_core.specs.Announced.{Announced, IsNamed, KeyedRecord, is_of, key, key_cmp}
use Rattle.folder_core.specs.Plain.{IsPlain, Rises, commits, filed, folder_of, pulls_of}
use Rattle.folder_core.specs.PlainReads.{record_from}
use Rattle.folder_core.specs.States.{IsFolder}
use Rattle.folder_core.proofs.ListFilters.{filter_map}
use Rattle.folder_core.proofs.ListTests.{In, in_get}
use Rattle.folder_core.proofs.Orders.{exact_keys, is_true, keys_total, listed}
use Rattle.folder_core.proofs.PlainGroup.{is_named}
use Rattle.folder_core.proofs.PlainOwn.{local_is}
use Rattle.folder_index.specs.Indexes.{IndexState}
use Rattle.folder_db.specs.Indexed.{IsIndexed, folder_with}

abbrev pub unfiled : KeyedRecord → Entry
unfiled e = record { device = e.0.device; «record» = e.1 }

-- by key
abbrev pub listing : Announced → List Entry
listing a = map unfiled (entries a)

filed-unfiled : (es : List KeyedRecord) → ((e : KeyedRecord) → In e es → e.1.name ≡ e.0.name) → map filed (map unfiled es) ≡ es
filed-unfiled [] named = refl
filed-unfiled (e ∷ es) named = λ i. (key (named e (inl refl) i) e.0.device, e.1) ∷ filed-unfiled es (λ x j. named x (inr j)) i

pub unfiled-filed : (es : List Entry) → map unfiled (map filed es) ≡ es
unfiled-filed [] = refl
unfiled-filed (e ∷ es) = ap (λ xs. e ∷ xs) (unfiled-filed es)

module _ (a : Announced) (named : IsNamed a) where
  pub filed-listing : map filed (listing a) ≡ entries a
  filed-listing = filed-unfiled (entries a) (λ e i. named e.0 e.1 (in_get keys_total exact_keys a e i))

  pub listing-rises : Rises (listing a)
  listing-rises = ap (is_sorted key_cmp) filed-listing ∙ is_true _ (entries_sorted a)

  pub announced-is : from_sorted (map filed (listing a)) ≡ a
  announced-is = ap from_sorted filed-listing ∙ sym (listed keys_total exact_keys a)

  -- the entries of a name
  pub group-is : (n : Name) (xs : List Entry) → map filed xs ≡ filter (is_of n) (entries a) → xs ≡ filter (is_named n) (listing a)
  group-is n xs is =
      sym (unfiled-filed xs)
      ∙ ap (map unfiled) (is ∙ ap (filter (is_of n)) (sym filed-listing) ∙ filter_map filed (is_of n) (listing a))
      ∙ unfiled-filed (filter (λ e. is_of n (filed e)) (listing a))

-- a folder in an index is the plain folder of that list
module _ (s : IndexState) (last : ℕ) (ps : List OpenPull) (copies : List (Option FileRecord)) (is : IsIndexed s last ps copies) where
  abbrev pub es : List Entry
  es = listing s.announced

  abbrev pub room : ℕ
  room = length es + commits ps

  pub rises-is : Rises es
  rises-is = listing-rises s.announced is.folder.named

  pub state-is : folder_of s.me es last (pulls_of ps) ≡ folder_with s last (pulls_of ps)
  state-is = ap (λ (a : Announced). record { me = s.me; announced = a; last = last; pulls = pulls_of ps }) (announced-is s.announced is.folder.named)

  pub plain-is : IsPlain s.me es room last ps
  plain-is = record {
    rises = rises-is;
    pulls_rise = is.pulls_rise;
    folder = subst IsFolder (sym state-is) is.folder;
    ready = is.ready;
    room = omega arith;
  }

  -- this device's record of a name
  pub own-found : (n : Name) (me : Identity) → me ≡ s.me → (found : Option FileRecord) → found ≡ get s.announced (key n me) → found ≡ record_from s.me (filter (is_named n) es)
  own-found n me same found there =
      there
      ∙ (λ i. get (sym (announced-is s.announced is.folder.named) i) (key n (same i)))
      ∙ sym (local_is s.me es last (pulls_of ps) rises-is n)

  -- the same from a copy of its parts
  pub copied-state : (me : Identity) → me ≡ s.me → (all : List Entry) → map filed all ≡ entries s.announced → (qs : List OpenPull) → qs ≡ ps → folder_of me all last (pulls_of qs) ≡ folder_with s last (pulls_of ps)
  copied-state me me-is all all-are qs qs-are =
      (λ i. record { me = me-is i; announced = from_sorted (all-are i); last = last; pulls = pulls_of (qs-are i) })
      ∙ ap (λ (a : Announced). record { me = s.me; announced = a; last = last; pulls = pulls_of ps }) (sym (listed keys_total exact_keys s.announced))

pub listing_rises : (a : Announced) (all : List Entry) → map filed all ≡ entries a → Rises all
listing_rises a all are = ap (is_sorted key_cmp) are ∙ is_true _ (entries_sorted a)
