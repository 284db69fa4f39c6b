-- What the folders of a text make of a state.
use Rattle.std.proofs.Common.{◌≡◌, ◌≢◌, ℕ, true, false, List, [], ◌∷◌, ◌++◌, length, get_or, map, take, drop, None, refl, sym, ap, subst, ◌∙◌, arith}
use Rattle.std.specs.List.{AllByRecursion, list_any}
use Rattle.std.specs.Prelude.{AllPairs, bytes_eq}
use Rattle.std.proofs.lemmas.Bool.{true≢false}
use Rattle.std.proofs.lemmas.List.{take-append-drop}
use Rattle.bep_wire.specs.Fields.{fields}
use Rattle.bep_messages.specs.Values.{value}
use Rattle.folder_core.proofs.ListTests.{In, alike_bytes, any_in, in_any, in_map, of_map as maps_from, same_bytes}
use Rattle.folder_core.proofs.ReadLists.{Apart}
use Rattle.folder_core.proofs.RestoreFolders.{apart-pairs_by, pairs-apart_by}
use Rattle.sync_record.specs.Devices.{Identity}
use Rattle.node_state.specs.declared.edition.Edition.{Edition}
use Rattle.node_state.specs.declared.edition.Edition.TheVariants.{First, Second}
use Rattle.node_state.specs.declared.state.State.{State}
use Rattle.node_state.specs.declared.state.StoredFolder.{StoredFolder}
use Rattle.node_state.specs.Meaning.{IsAllowed, Means, Told, line, stored, told, told_first, told_second}
use Rattle.node_state.specs.Reading.{HoldsFirst, IsGoodFolder, folder_fault, folder_told, held}
use Rattle.node_state.specs.Tables.{folder_table, first_folder_table}
use Rattle.node_state.proofs.Apart.{not-apart, push-apart}
use Rattle.node_state.proofs.Goes.{Goes}
use Rattle.node_state.proofs.Parts.{all_and, all_map, firsts, map_both, of_map, seconds}
use Rattle.node_state.proofs.Rows.{body-readable, folders-readable}

abbrev pub id_of : StoredFolder → List ℕ
id_of f = f.id

told_id : Told → List ℕ
told_id t = t.id

abbrev pub ids : List StoredFolder → List (List ℕ)
ids fs = map id_of fs

abbrev pub itself : StoredFolder → StoredFolder
itself f = f

pub map-itself : (fs : List StoredFolder) → map itself fs ≡ fs
map-itself [] = refl
map-itself (f ∷ fs) = ap (λ gs. f ∷ gs) (map-itself fs)

-- ---- folders of which no two have one id

in-ids : (fs : List StoredFolder) (id : List ℕ) → list_any (λ f. bytes_eq f.id id) fs ≡ true → In id (ids fs)
in-ids fs id t =
    let m = any_in (λ (f : StoredFolder). bytes_eq f.id id) fs t in
    let x : StoredFolder = m.0 in
    subst (λ e. In e (ids fs)) (same_bytes x.id id m.2) (in_map id_of fs x m.1)

not-ids : (fs : List StoredFolder) (id : List ℕ) → list_any (λ f. bytes_eq f.id id) fs ≡ false → ¬ (In id (ids fs))
not-ids fs id f i =
    let n = maps_from id_of fs id i in
    let x : StoredFolder = n.0 in
    true≢false (sym (in_any (λ (g : StoredFolder). bytes_eq g.id id) fs x n.1 (alike_bytes x.id id n.2)) ∙ f)

ids-append : (fs gs : List StoredFolder) → ids (fs ++ gs) ≡ ids fs ++ ids gs
ids-append [] gs = refl
ids-append (f ∷ fs) gs = ap (λ l. f.id ∷ l) (ids-append fs gs)

pub ids-push : (fs new : List StoredFolder) (f : StoredFolder) → Apart (ids fs) → list_any (λ g. bytes_eq g.id f.id) fs ≡ false → new ≡ fs ++ f ∷ [] → Apart (ids new)
ids-push fs new f apart other e =
    subst (λ gs. Apart (ids gs)) (sym e) (subst Apart (sym (ids-append fs (f ∷ []))) (push-apart (ids fs) f.id apart (not-ids fs f.id other)))

pub ids-once : (fs : List StoredFolder) → Apart (ids fs) → AllPairs (λ f g. f.id ≢ g.id) fs
ids-once fs apart = apart-pairs_by id_of fs apart

module _ (me : Identity) (edition : Edition) (body : List ℕ) where
  abbrev pub folder_at : List ℕ → StoredFolder
  folder_at b = stored me (folder_told edition b)

  abbrev pub GoesOn : List StoredFolder → List ℕ → Type 0
  GoesOn fs after = Goes (IsGoodFolder me edition) folder_at itself 1 body fs after

  pub ids-repeat : (fs : List StoredFolder) (after b rest : List ℕ) (f : StoredFolder) → GoesOn fs after → HoldsFirst 1 after b rest → f ≡ folder_at b
      → list_any (λ g. bytes_eq g.id f.id) fs ≡ true → ¬ (AllPairs (λ f g. f.id ≢ g.id) (map folder_at (held 1 body)))
  ids-repeat fs after b rest f so_far is same old once =
      let whole : map folder_at (held 1 body) ≡ fs ++ f ∷ map folder_at (held 1 rest) =
      so_far.value ∙ ap (λ (l : List (List ℕ)). map itself fs ++ map folder_at l) is.0 ∙ ap (λ (gs : List StoredFolder). gs ++ folder_at b ∷ map folder_at (held 1 rest)) (map-itself fs)
      ∙ ap (λ (g : StoredFolder). fs ++ g ∷ map folder_at (held 1 rest)) (sym same) in
      not-apart (ids fs) (ids (map folder_at (held 1 rest))) f.id (in-ids fs f.id old)
      (subst Apart (ap ids whole ∙ ids-append fs (f ∷ map folder_at (held 1 rest))) (pairs-apart_by id_of (map folder_at (held 1 body)) once))

-- where a folder was found there is one
module _ (me : Identity) (edition : Edition) (body : List ℕ) where
  pub some-folder : (fs : List StoredFolder) (after b rest : List ℕ) → GoesOn me edition body fs after → HoldsFirst 1 after b rest → held 1 body ≢ []
  some-folder fs after b rest so_far is none =
      not-none (map itself fs) (folder_at me edition body b) (map (folder_at me edition body) (held 1 rest))
      (sym (ap (map (folder_at me edition body)) none) ∙ so_far.value ∙ ap (λ (l : List (List ℕ)). map itself fs ++ map (folder_at me edition body) l) is.0)
    where
      not-none : (xs : List StoredFolder) (y : StoredFolder) (ys : List StoredFolder) → [] ≡ xs ++ y ∷ ys → ⊥
      not-none [] y ys e = cc
      not-none (x ∷ xs) y ys e = cc

-- ---- first lines

twelfth : (e : Edition) (b : List ℕ) → ℕ
twelfth e b = get_or (line e ++ b) 11 0

not-second : (b c : List ℕ) → line First ++ b ≡ line Second ++ c → ⊥
not-second b c e = let n : 49 ≡ 50 = ap (λ (l : List ℕ). get_or l 11 0) e in omega (arith, n)

pub line-unique : (e d : Edition) (b c : List ℕ) → line e ++ b ≡ line d ++ c → (e ≡ d) × (b ≡ c)
line-unique First First b c e = (refl, ap (λ (l : List ℕ). drop 13 l) e)
line-unique First Second b c e = absurd (not-second b c e)
line-unique Second First b c e = absurd (not-second c b (sym e))
line-unique Second Second b c e = (refl, ap (λ (l : List ℕ). drop 13 l) e)

-- what comes after a beginning
pub after-line : (first text body : List ℕ) → bytes_eq (take (length first) text) first ≡ true → body ≡ drop (length first) text → text ≡ first ++ body
after-line first text body t e =
    sym (take-append-drop (length first) text) ∙ ap (λ (l : List ℕ). l ++ drop (length first) text) (same_bytes (take (length first) text) first t) ∙ ap (λ (l : List ℕ). first ++ l) (sym e)

-- ---- the whole

told-held : (edition : Edition) (body : List ℕ) → told edition body ≡ map (folder_told edition) (held 1 body)
told-held First body = map_both (value first_folder_table) told_first (held 1 body)
told-held Second body = map_both (value folder_table) told_second (held 1 body)

module _ (me : Identity) (edition : Edition) (body : List ℕ) where
  abbrev pub folders : List StoredFolder
  folders = map (λ b. stored me (folder_told edition b)) (held 1 body)

  folders-are : map (stored me) (told edition body) ≡ folders
  folders-are = ap (map (stored me)) (told-held edition body) ∙ map_both (folder_told edition) (stored me) (held 1 body)

  once-told : AllPairs (λ f g. f.id ≢ g.id) folders → AllPairs (λ f g. f.id ≢ g.id) (told edition body)
  unfolding told_id
  once-told once =
      apart-pairs_by told_id (told edition body) (subst Apart (ap ids (sym folders-are) ∙ map_both (stored me) id_of (told edition body)) (pairs-apart_by id_of folders once))

  once-folders : AllPairs (λ f g. f.id ≢ g.id) (told edition body) → AllPairs (λ f g. f.id ≢ g.id) folders
  unfolding told_id
  once-folders once =
      apart-pairs_by id_of folders (subst Apart (sym (ap ids (sym folders-are) ∙ map_both (stored me) id_of (told edition body))) (pairs-apart_by told_id (told edition body) once))

  pub means : (text : List ℕ) (s : State) → text ≡ line edition ++ body → (fields body).fault ≡ None → AllByRecursion (IsGoodFolder me edition) (held 1 body)
      → AllPairs (λ f g. f.id ≢ g.id) folders → s.folders ≡ folders → Means me text s
  means text s begins ended good once is = record {
    edition = edition;
    body = body;
    begins = begins;
    readable = body-readable edition body ended (firsts (λ b. folder_fault edition b ≡ None) (λ b. IsAllowed me (folder_told edition b)) (held 1 body) good);
    allowed = subst (AllByRecursion (IsAllowed me)) (sym (told-held edition body))
        (all_map (IsAllowed me) (folder_told edition) (held 1 body) (seconds (λ b. folder_fault edition b ≡ None) (λ b. IsAllowed me (folder_told edition b)) (held 1 body) good));
    once = once-told once;
    is = is ∙ sym folders-are;
  }

  pub record Right : Type 0 where
    pub ended : (fields body).fault ≡ None
    pub good : AllByRecursion (IsGoodFolder me edition) (held 1 body)
    pub once : AllPairs (λ f g. f.id ≢ g.id) folders

  right : (readable : ((fields body).fault ≡ None) × AllByRecursion (λ b. folder_fault edition b ≡ None) (held 1 body)) → AllByRecursion (IsAllowed me) (told edition body)
      → AllPairs (λ f g. f.id ≢ g.id) (told edition body) → Right
  right readable allowed once = record {
    ended = readable.0;
    good = all_and (λ b. folder_fault edition b ≡ None) (λ b. IsAllowed me (folder_told edition b)) (held 1 body) readable.1
        (of_map (IsAllowed me) (folder_told edition) (held 1 body) (subst (AllByRecursion (IsAllowed me)) (told-held edition body) allowed));
    once = once-folders once;
  }

pub meant : (me : Identity) (edition : Edition) (body text : List ℕ) (s : State) → text ≡ line edition ++ body → Means me text s → Right me edition body
meant me edition body text s begins m =
    let u = line-unique m.edition edition m.body body (sym m.begins ∙ begins) in
    let h : Right me m.edition m.body = right me m.edition m.body (folders-readable m.edition m.body m.readable) m.allowed m.once in
    subst (λ (b : List ℕ). Right me edition b) u.1 (subst (λ (e : Edition). Right me e m.body) u.0 h)

pub meant-is : (me : Identity) (edition : Edition) (body text : List ℕ) (s : State) → text ≡ line edition ++ body → Means me text s → s.folders ≡ folders me edition body
meant-is me edition body text s begins m =
    let u = line-unique m.edition edition m.body body (sym m.begins ∙ begins) in
    let h : s.folders ≡ folders me m.edition m.body = m.is ∙ folders-are me m.edition m.body in
    subst (λ (b : List ℕ). s.folders ≡ folders me edition b) u.1 (subst (λ (e : Edition). s.folders ≡ folders me e m.body) u.0 h)
