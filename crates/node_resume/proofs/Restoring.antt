-- A folder without the records of some devices is a folder too, and is restored from what is left.
use Rattle.std.proofs.Common.{◌≡◌, ℕ, ℤ, ◌<◌, ◌^◌, to_z, Bool, true, false, List, [], ◌∷◌, refl, sym, ap, subst, ◌∙◌, arith}
use Rattle.std.specs.Int.{w64}
use Rattle.std.specs.Prelude.{cond, fold, if◌then◌else◌, max, pos, filter, map, Option, Some, None}
use Rattle.std.specs.FinMap.{get, entries, empty, retain_keys, get-empty, get-retain_keys, len-entries, len-empty}
use Rattle.std.specs.FinMap.Entries.{where_key}
use Rattle.std.proofs.lemmas.Int.{to_z_pos}
use Rattle.std.proofs.lemmas.Option.{none-some}
use Rattle.sync_record.specs.Devices.{Identity, bytes_cmp}
use Rattle.sync_record.specs.Records.{FileRecord}
use Rattle.folder_core.specs.declared.announcement.Announcement.{Announcement}
use Rattle.folder_core.specs.Announced.{Key, key, key_cmp, by_device, is_by}
use Rattle.folder_core.specs.Plain.{filed}
use Rattle.folder_core.specs.PlainRestores.{given}
use Rattle.folder_core.specs.Reads.{known}
use Rattle.folder_core.specs.Restores.{MayRestore, records_of, restored_folder}
use Rattle.folder_core.specs.States.{FolderState, IsFolder, Pull}
use Rattle.folder_core.proofs.ListTests.{alike_bytes}
use Rattle.folder_core.proofs.Orders.{entries-retain_keys, exact_keys, keys_total}
use Rattle.folder_core.proofs.PullCommits.{none_counted}
use Rattle.folder_core.proofs.RestoreFolders.{may-again, restored-again}

none_there : {A B : Type 0} (x : A) → None ≡ Some x → B
none_there x e = absurd (none-some x e)

there : (b : Bool) (o : Option FileRecord) (r : FileRecord) → cond b o None ≡ Some r → o ≡ Some r
there true o r e = e
there false o r e = none_there r e

module _ (s : FolderState) (p : Identity → Bool) where
  -- the records of the devices that pass, and no open pull
  abbrev pub rest : FolderState
  rest = record s { announced = retain_keys s.announced (λ k. p k.device); pulls = empty }

  still : (k : Key) (r : FileRecord) → get rest.announced k ≡ Some r → get s.announced k ≡ Some r
  still k r g =
      there (p k.device) (get s.announced k) r
      (sym (get-retain_keys s.announced (λ k. p k.device) k (λ x t. ap (λ (y : Key). p y.device) (sym (exact_keys k x t)))) ∙ g)

  pub rest-folder : IsFolder s → IsFolder rest
  rest-folder folder = record {
    named = λ k r g. folder.named k r (still k r g);
    valid = λ n r g. folder.valid n r (still (key n s.me) r g);
    numbered = record {
      in_range = λ n r g. folder.numbered.in_range n r (still (key n s.me) r g);
      distinct = λ m n q r g h same. folder.numbered.distinct m n q r (still (key m s.me) q g) (still (key n s.me) r h) same;
    };
    unmoved = λ n q g. none_there q (sym (get-empty bytes_cmp n) ∙ g);
    targets = λ n q g. none_there q (sym (get-empty bytes_cmp n) ∙ g);
    room =
        let none = none_counted (entries (empty {R = bytes_cmp})) (sym (len-entries empty) ∙ len-empty bytes_cmp Pull) in
        let fits = folder.room in
        omega arith;
  }

  given-kept : (es : List Announcement) → map given (filter (λ a. p a.device) es) ≡ map by_device (where_key key_cmp (λ k. p k.device) (map filed es))
  given-kept [] = refl
  given-kept (e ∷ es) =
      elim (p e.device) as (λ b. map given (cond b (e ∷ filter (λ a. p a.device) es) (filter (λ a. p a.device) es))
      ≡ map by_device (cond b (filed e ∷ where_key key_cmp (λ k. p k.device) (map filed es)) (where_key key_cmp (λ k. p k.device) (map filed es)))) [
        | true ↦ ap (λ ps. given e ∷ ps) (given-kept es)
        | false ↦ given-kept es
      ]

  module _ (folder : IsFolder s) (es : List Announcement) (is : map filed es ≡ entries s.announced) where
    kept-records : map given (filter (λ a. p a.device) es) ≡ records_of rest
    kept-records =
        given-kept es ∙ ap (λ rs. map by_device (where_key key_cmp (λ k. p k.device) rs)) is
        ∙ ap (map by_device) (sym (entries-retain_keys keys_total exact_keys s.announced (λ k. p k.device)))

    pub may-rest : MayRestore s.me (map given (filter (λ a. p a.device) es)) (pos s.last)
    may-rest = subst (λ ps. MayRestore s.me ps (pos s.last)) (sym kept-records) (may-again rest (rest-folder folder))

    pub rest-restored : restored_folder s.me (map given (filter (λ a. p a.device) es)) (pos s.last) ≡ rest
    rest-restored = ap (λ ps. restored_folder s.me ps (pos s.last)) kept-records ∙ restored-again rest (rest-folder folder)

-- ---- as they are found in the code

pub known-own : (s : FolderState) (d : Identity) → d ≡ s.me → known s d ≡ s.last
known-own s d own =
    ap (λ b. if b then s.last else fold max 0 (map (λ e. e.1.sequence) (filter (is_by d) (entries s.announced)))) (alike_bytes d s.me own)

pub last-number : (s : FolderState) → IsFolder s → (n : ℕ) → n ≡ s.last → to_z w64 n ≡ pos s.last
last-number s folder n e =
    let room = folder.room in
    let fits : n < 2 ^ 63 = omega (arith, e) in
    to_z_pos w64 n fits ∙ ap pos e

abbrev Given : Type 0
Given = Identity × (List Announcement × ℤ)

module _ (s : FolderState) (p : Identity → Identity → Bool) (folder : IsFolder s) (es : List Announcement) (is : map filed es ≡ entries s.announced) where
  module _ (me : Identity) (own : me ≡ s.me) (kept : List Announcement) (kept_is : kept ≡ filter (λ a. p me a.device) es) (z : ℤ) (last : z ≡ pos s.last) where
    given-is : ◌≡◌ {A = Given} (me, (kept, z)) (s.me, (filter (λ a. p s.me a.device) es, pos s.last))
    given-is = λ j. (own j, ((kept_is ∙ ap (λ (d : Identity). filter (λ a. p d a.device) es) own) j, last j))

    pub may : MayRestore me (map given kept) z
    may = subst (λ (q : Given). MayRestore q.0 (map given q.1.0) q.1.1) (sym given-is) (may-rest s (p s.me) folder es is)

    pub restored-is : restored_folder me (map given kept) z ≡ rest s (p s.me)
    restored-is = ap (λ (q : Given). restored_folder q.0 (map given q.1.0) q.1.1) given-is ∙ rest-restored s (p s.me) folder es is
