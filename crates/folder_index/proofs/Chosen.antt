-- The best of a name, and whether it is needed, are told by the records of the name.
use Rattle.std.proofs.Common.{◌≡◌, ◌≢◌, ℕ, zero, suc, ◌<◌, ◌≤◌, Bool, true, false, List, [], ◌∷◌, length, refl, sym, ap, ◌∙◌, arith}
use Rattle.std.specs.Prelude.{◌&&◌, ◌||◌, cond, map, not, is_some, option_map, Option, Some, None, slice_get, slice_index_or}
use Rattle.std.specs.FinMap.{contains_key, entries, get, insert, remove}
use Rattle.std.specs.Option.{option_map_or}
use Rattle.std.proofs.lemmas.Bool.{and_from}
use Rattle.std.proofs.lemmas.Option.{none-some}
use Rattle.sync_record.specs.Contents.{same_content}
use Rattle.sync_record.specs.Devices.{Identity}
use Rattle.sync_record.specs.Validity.{is_valid}
use Rattle.sync_record.proofs.SameContent.{reflexive}
use Rattle.sync_version.specs.Computed.{same_version}
use Rattle.sync_version.proofs.Lemmas.{same_version_tells}
use Rattle.sync_record.specs.Records.{Name, FileRecord, is_live}
use Rattle.folder_core.specs.declared.announcement.Announcement.{Announcement as Entry}
use Rattle.folder_core.specs.Announced.{Announced, IsBest, IsCandidate, Key, KeyedRecord, best, key}
use Rattle.folder_core.specs.States.{is_needed, same_local_version}
use Rattle.folder_core.specs.Plain.{devices_with}
use Rattle.folder_core.proofs.ListTests.{inside}
use Rattle.folder_core.proofs.AnnouncedMaps.{insert_other, remove_other}
use Rattle.folder_core.proofs.BestRule.{best-found, best-only}
use Rattle.folder_core.proofs.Orders.{exact_keys, keys_total}
use Rattle.folder_index.specs.Indexes.{IndexState, counted, folder, needs, without_record}
use Rattle.folder_index.proofs.Since.{same_option}

-- what devices announce of a name is the same
abbrev pub SameOf : Name → Announced → Announced → Type 0
SameOf n a b = (d : Identity) → get a (key n d) ≡ get b (key n d)

abbrev turned : (n : Name) (a b : Announced) → SameOf n a b → SameOf n b a
turned n a b same d = sym (same d)

candidate_too : (n : Name) (a b : Announced) → SameOf n a b → (d : Identity) (r : FileRecord) → IsCandidate a n d r → IsCandidate b n d r
candidate_too n a b same d r is = record {
  announced = sym (same d) ∙ is.announced;
  valid = is.valid;
  undominated = λ e q there. is.undominated e q (same e ∙ there);
}

best_too : (n : Name) (a b : Announced) → SameOf n a b → (d : Identity) (r : FileRecord) → IsBest a n d r → IsBest b n d r
best_too n a b same d r is = record {
  candidate = candidate_too n a b same d r is.candidate;
  preferred = λ e q there. is.preferred e q (candidate_too n b a (turned n a b same) e q there);
}

found_too : (n : Name) (a b : Announced) → SameOf n a b → (e : KeyedRecord) → best (entries a) n ≡ Some e → best (entries b) n ≡ Some e
found_too n a b same e is =
    let f = best-found a n e is in
    best-only b n e.0.device e.1 (best_too n a b same e.0.device e.1 f.1) ∙ (λ i. Some (key (sym f.0 i) e.0.device, e.1))

pub same_best : (n : Name) (a b : Announced) → SameOf n a b → best (entries a) n ≡ best (entries b) n
same_best n a b same = same_option (best (entries a) n) (best (entries b) n) (found_too n a b same) (found_too n b a (turned n a b same))

pub same_needs : (n : Name) (s t : IndexState) → s.me ≡ t.me → SameOf n s.announced t.announced → needs s n ≡ needs t n
same_needs n s t me same =
    by (best (entries s.announced) n) refl
    ∙ ap (λ o. option_map_or (is_needed (folder t)) o false) (same_best n s.announced t.announced same)
  where
    local_too : (m : Name) → m ≡ n → get s.announced (key m s.me) ≡ get t.announced (key m t.me)
    local_too m is = (λ i. get s.announced (key (is i) (me i))) ∙ same t.me ∙ (λ i. get t.announced (key (sym is i) t.me))

    by : (o : Option KeyedRecord) → best (entries s.announced) n ≡ o → option_map_or (is_needed (folder s)) o false ≡ option_map_or (is_needed (folder t)) o false
    by None e = refl
    by (Some b) e = ap (λ o. not (same_local_version (option_map (λ r. r.version) o) (Some b.1.version)) && (is_live b.1 || is_some o)) (local_too b.0.name (best-found s.announced n b e).0)

-- a record of another name
module _ (n m : Name) (other : n ≢ m) where
  unlike : (d e : Identity) → key n d ≢ key m e
  unlike d e is = other (ap (λ (k : Key). k.name) is)

  pub same_set : (s : IndexState) (e : Identity) (r : FileRecord) → SameOf n (insert s.announced (key m e) r) s.announced
  same_set s e r d = insert_other keys_total exact_keys s.announced (key m e) (key n d) r (unlike d e)

  pub same_removed : (s : IndexState) (e : Identity) → SameOf n (remove s.announced (key m e)) s.announced
  same_removed s e d = remove_other keys_total exact_keys s.announced (key m e) (key n d) (unlike d e)

  pub same_cleared : (s : IndexState) (e : Identity) → SameOf n (without_record e m s).announced s.announced
  same_cleared s e = by (contains_key s.announced (key m e))
    where
      by : (b : Bool) → SameOf n (cond b (record { me = s.me; announced = remove s.announced (key m e); choices = counted s.choices; promised = s.promised }) s).announced s.announced
      by true = same_removed s e
      by false = λ d. refl

  pub same_me : (s : IndexState) (e : Identity) → (without_record e m s).me ≡ s.me
  same_me s e = elim (contains_key s.announced (key m e)) as (λ b. (cond b (record { me = s.me; announced = remove s.announced (key m e); choices = counted s.choices; promised = s.promised }) s).me ≡ s.me) [ true ↦ refl | false ↦ refl ]

-- ---- the devices that have the best

at_only : (e b : Entry) (i : ℕ) → slice_get (e ∷ []) i ≡ Some b → e ≡ b
at_only e b zero at = inside e b at
at_only e b (suc i) at = absurd (none-some b at)

-- one that is alone has itself
pub only_has : (es : List Entry) (only b : Entry) (i : ℕ) → 1 ≤ length es → length es < 2 → only ≡ slice_index_or es 0 only → slice_get es i ≡ Some b → is_valid only.record ≡ true → only.device ∷ [] ≡ devices_with es b.record
only_has [] only b i some few first at valid = absurd (omega arith)
only_has (e ∷ f ∷ es) only b i some few first at valid = absurd (omega arith)
only_has (e ∷ []) only b i some few first at valid =
    let v = e.record.version in
    let has : (is_valid e.record && same_version v v && same_content e.record e.record) ≡ true =
    and_from _ _ (and_from _ _ (ap (λ (x : Entry). is_valid x.record) (sym first) ∙ valid) ((same_version_tells v v).1 refl)) (reflexive e.record) in
    ap (λ (x : Entry). x.device ∷ []) first
    ∙ (λ k. map (λ (f : Entry). f.device) (cond (sym has k) (e ∷ []) []))
    ∙ ap (λ (x : Entry). devices_with (e ∷ []) x.record) (at_only e b i at)
