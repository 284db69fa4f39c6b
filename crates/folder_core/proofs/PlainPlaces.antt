-- Where the plain folder finds a block is one of its places.
use Rattle.std.proofs.Common.{◌≡◌, ℕ, ◌+◌, ◌<◌, Bool, true, false, List, [], ◌∷◌, ◌++◌, length, take, get_or, refl, sym, ap, ◌∙◌}
use Rattle.std.specs.Prelude.{bytes_eq, ◌&&◌, cond, Some, None, filter, find, flat_map, map}
use Rattle.std.proofs.lemmas.Bool.{and_parts}
use Rattle.std.proofs.lemmas.Grind.{flat_map-append}
use Rattle.std.proofs.lemmas.List.{map-append, take_more}
use Rattle.std.proofs.lemmas.List.Elements.{filter-append}
use Rattle.std.proofs.lemmas.Option.{none-some}
use Rattle.folder_core.specs.declared.announcement.Announcement.{Announcement as Entry}
use Rattle.folder_core.specs.declared.place.Place.{Place}
use Rattle.sync_blocks.specs.declared.block.Block.{Block}
use Rattle.sync_record.specs.Devices.{Identity}
use Rattle.sync_record.specs.Records.{FileRecord, is_live_file}
use Rattle.folder_core.specs.Codes.{Pulls}
use Rattle.folder_core.specs.Plain.{Rises, folder_of}
use Rattle.folder_core.specs.Reads.{places}
use Rattle.folder_core.proofs.PlainOwn.{locals_are}
use Rattle.folder_core.specs.PlainReads.{block_from, is_from, place, places_from, records_from}
use Rattle.folder_core.proofs.ListTests.{found_in, in_filter, in_map, In}
use Rattle.folder_core.proofs.ReadAnswers.{in_flat_map}

none_kept : {A : Type 0} (p : A → Bool) (xs : List A) → None ≡ find p xs → filter p xs ≡ []
none_kept p [] none = refl
none_kept p (x ∷ xs) none =
    elim (p x) as (λ b. None ≡ cond b (Some x) (find p xs) → cond b (x ∷ filter p xs) (filter p xs) ≡ []) [
      | true ↦ λ n. absurd (none-some x n)
      | false ↦ λ n. none_kept p xs n
    ] none

module _ (d : Identity) (hash : List ℕ) where
  abbrev is_wanted : Block → Bool
  is_wanted b = bytes_eq b.hash hash

  abbrev places_in : FileRecord → List Place
  places_in r = map (place r) (filter is_wanted r.blocks)

  abbrev recorded : Entry → FileRecord
  recorded e = e.record

  split : (xs ys : List Entry) → places_from d hash (xs ++ ys) ≡ places_from d hash xs ++ places_from d hash ys
  split xs ys =
      ap (λ rs. flat_map places_in (filter is_live_file rs))
      (ap (map recorded) (filter-append (is_from d) xs ys) ∙ map-append recorded (filter (is_from d) xs) (filter (is_from d) ys))
      ∙ ap (flat_map places_in) (filter-append is_live_file (records_from d xs) (records_from d ys))
      ∙ flat_map-append places_in (filter is_live_file (records_from d xs)) (filter is_live_file (records_from d ys))

  none_here : (e : Entry) → None ≡ block_from d hash e → places_from d hash (e ∷ []) ≡ []
  none_here e none =
      elim (is_from d e) as (λ b. None ≡ cond (b && is_live_file e.record) (find is_wanted e.record.blocks) None → flat_map places_in (filter is_live_file (map recorded (cond b (e ∷ []) []))) ≡ []) [
        | true ↦ λ n. elim (is_live_file e.record) as (λ b. None ≡ cond b (find is_wanted e.record.blocks) None → flat_map places_in (cond b (e.record ∷ []) []) ≡ []) [
          | true ↦ λ n. ap (λ bs. map (place e.record) bs ++ []) (none_kept is_wanted e.record.blocks n)
          | false ↦ λ n. refl
        ] n
        | false ↦ λ n. refl
      ] none

  -- one more entry without such a block
  pub none_more : (es : List Entry) (i : ℕ) (e : Entry) → i < length es → e ≡ get_or es i e → places_from d hash (take i es) ≡ [] → None ≡ block_from d hash e → places_from d hash (take (i + 1) es) ≡ []
  none_more es i e short here before none =
      ap (places_from d hash) (take_more es i e short ∙ ap (λ x. take i es ++ x ∷ []) (sym here))
      ∙ split (take i es) (e ∷ [])
      ∙ (λ j. before j ++ none_here e none j)

  -- an entry with such a block has a place
  pub place_here : (es : List Entry) (e : Entry) (b : Block) → In e es → Some b ≡ block_from d hash e → In (place e.record b) (places_from d hash es)
  place_here es e b i some =
      elim (is_from d e && is_live_file e.record) as (λ t. (is_from d e && is_live_file e.record) ≡ t → Some b ≡ cond t (find is_wanted e.record.blocks) None → In (place e.record b) (places_from d hash es)) [
        | true ↦ λ t s.
            let p = and_parts _ _ t in
            let w = found_in is_wanted e.record.blocks b (sym s) in
            in_flat_map places_in (filter is_live_file (records_from d es)) e.record (place e.record b)
            (in_filter is_live_file (records_from d es) e.record (in_map recorded (filter (is_from d) es) e (in_filter (is_from d) es e i p.0)) p.1)
            (in_map (place e.record) (filter is_wanted e.record.blocks) b (in_filter is_wanted e.record.blocks b w.0 w.1))
        | false ↦ λ t s. absurd (none-some b (sym s))
      ] refl some

-- the folder's places
pub places_are : (me : Identity) (hash : List ℕ) (es : List Entry) (last : ℕ) (pulls : Pulls) → Rises es → places_from me hash es ≡ places (folder_of me es last pulls) hash
places_are me hash es last pulls rises = ap (λ rs. flat_map (places_in me hash) (filter is_live_file rs)) (locals_are me es last pulls rises)
