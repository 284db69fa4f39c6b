-- Lists that a loop has gone through one element further.
use Rattle.std.proofs.Common.{◌≡◌, ℕ, ◌+◌, ◌<◌, List, [], ◌∷◌, ◌++◌, append_assoc, get_or, length, map, max, take, sym, ap, ◌∙◌}
use Rattle.std.specs.Prelude.{◌==◌, bytes_eq, filter, flat_map, fold, if◌then◌else◌}
use Rattle.std.proofs.lemmas.Grind.{flat_map-append}
use Rattle.std.proofs.lemmas.List.{append-nil, map-append}
use Rattle.std.proofs.lemmas.List.Elements.{filter-append}
use Rattle.std.proofs.lemmas.List.Sums.{fold-append}
use Rattle.node_journal.specs.declared.frame.Frame.{Frame}
use Rattle.node_journal.specs.declared.part.Part.{Part}
use Rattle.sync_record.specs.Infos.{natural, record_of}
use Rattle.node_replay.specs.Recovered.{firsts}
use Rattle.node_replay.specs.Told.{lasts_told, number_after, parts_of, plan_of, plans_told, records_told}
use Rattle.node_replay.proofs.All.{more}

module _ {A : Type 0} (xs : List A) (i : ℕ) (x : A) (lt : i < length xs) (is : x ≡ get_or xs i x) where
  pub map-more : {B : Type 0} (f : A → B) → map f (take (i + 1) xs) ≡ map f (take i xs) ++ f x ∷ []
  map-more f = ap (map f) (more xs i x lt is) ∙ map-append f (take i xs) (x ∷ [])

  pub flat-more : {B : Type 0} (g : A → List B) → flat_map g (take (i + 1) xs) ≡ flat_map g (take i xs) ++ g x
  flat-more g = ap (flat_map g) (more xs i x lt is) ∙ flat_map-append g (take i xs) (x ∷ []) ∙ ap (λ l. flat_map g (take i xs) ++ l) (append-nil (g x))

  pub ids-more : (id : A → List ℕ) (ids : List (List ℕ)) → firsts ((ids ++ map id (take i xs)) ++ id x ∷ []) ≡ firsts (ids ++ map id (take (i + 1) xs))
  ids-more id ids = ap firsts (append_assoc ids (map id (take i xs)) (id x ∷ []) ∙ ap (λ l. ids ++ l) (sym (map-more id)))

module _ (frames : List Frame) (i : ℕ) (f : Frame) (lt : i < length frames) (is : f ≡ get_or frames i f) where
  pub told-more : (ids : List (List ℕ)) → firsts ((ids ++ map (λ p. p.id) (flat_map (λ f. f.folders) (take i frames))) ++ map (λ p. p.id) f.folders)
      ≡ firsts (ids ++ map (λ p. p.id) (flat_map (λ f. f.folders) (take (i + 1) frames)))
  told-more ids =
      let old = flat_map (λ (g : Frame). g.folders) (take i frames) in
      ap firsts (append_assoc ids (map (λ (p : Part). p.id) old) (map (λ (p : Part). p.id) f.folders)
      ∙ ap (λ l. ids ++ l) (sym (map-append (λ (p : Part). p.id) old f.folders)
      ∙ ap (map (λ (p : Part). p.id)) (sym (flat-more frames i f lt is (λ g. g.folders)))))

  pub parts-more : (id : List ℕ) → parts_of id (take (i + 1) frames) ≡ parts_of id (take i frames) ++ filter (λ p. bytes_eq p.id id) f.folders
  parts-more id =
      ap (filter (λ (p : Part). bytes_eq p.id id)) (flat-more frames i f lt is (λ g. g.folders))
      ∙ filter-append (λ (p : Part). bytes_eq p.id id) (flat_map (λ g. g.folders) (take i frames)) f.folders

-- what one part more tells
module _ (parts : List Part) (p : Part) where
  pub records-push : records_told (parts ++ p ∷ []) ≡ records_told parts ++ map record_of p.records
  records-push = flat_map-append (λ (p : Part). map record_of p.records) parts (p ∷ []) ∙ ap (λ l. records_told parts ++ l) (append-nil (map record_of p.records))

  pub plans-push : plans_told (parts ++ p ∷ []) ≡ plans_told parts ++ map plan_of p.plans
  plans-push = flat_map-append (λ (p : Part). map plan_of p.plans) parts (p ∷ []) ∙ ap (λ l. plans_told parts ++ l) (append-nil (map plan_of p.plans))

  pub number-push : (before : ℕ) → number_after before (parts ++ p ∷ []) ≡ (if p.index_id == 0 then number_after before parts else p.index_id)
  number-push before = fold-append (λ n (p : Part). if p.index_id == 0 then n else p.index_id) before parts (p ∷ [])

  pub last-push : (before : ℕ) → fold max before (lasts_told (parts ++ p ∷ [])) ≡ max (fold max before (lasts_told parts)) (natural p.last)
  last-push before =
      ap (fold max before) (map-append (λ (p : Part). natural p.last) parts (p ∷ []))
      ∙ fold-append max before (lasts_told parts) (natural p.last ∷ [])
