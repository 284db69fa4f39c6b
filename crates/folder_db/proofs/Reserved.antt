-- The names for which room is reserved, as pulls and records change.
use Rattle.std.proofs.Common.{◌≡◌, ℕ, zero, suc, Bool, true, false, List, [], ◌∷◌, refl, sym, ap, ◌∙◌}
use Rattle.std.specs.Prelude.{bytes_eq, ◌&&◌, ◌||◌, cond, is_some, not, slice_get, slice_set, Option, Some, None}
use Rattle.std.specs.Cmp.{Equal-is}
use Rattle.std.specs.FinMap as map
use Rattle.std.specs.FinMap.{get, get-remove}
use Rattle.std.specs.FinSet.{contains, contains-empty, contains-remove, remove, same_set, empty}
use Rattle.std.specs.List.{insert as insert-at}
use Rattle.std.specs.Option.{option_map_or}
use Rattle.std.specs.Ordering.{eq_by_cmp}
use Rattle.sync_record.specs.Devices.{Identity, bytes_cmp}
use Rattle.sync_record.specs.Records.{Name}
use Rattle.sync_version.specs.Versions.{Vector}
use Rattle.folder_core.specs.Codes.{Pulls}
use Rattle.folder_core.specs.Plain.{IsPlain, pulls_of}
use Rattle.folder_core.specs.PlainScans.{first_of, has_commit, tests_of}
use Rattle.folder_core.specs.States.{Pull, is_committing}
use Rattle.folder_core.specs.declared.announcement.Announcement.{Announcement as Entry}
use Rattle.folder_core.specs.declared.answer.Answer.{Answer}
use Rattle.folder_core.specs.declared.answer.Answer.TheVariants.{Busy}
use Rattle.folder_core.specs.declared.plain.pull.OpenPull.{OpenPull}
use Rattle.folder_core.proofs.ListTests.{inside}
use Rattle.folder_core.proofs.Orders.{bytes_total, exact_names}
use Rattle.folder_core.proofs.PlainScan as plain
use Rattle.folder_index.specs.Indexes.{Names}

-- the name has an open commit
abbrev pub commits_at : Pulls → Name → Bool
commits_at pulls n = option_map_or is_committing (get pulls n) false

abbrev pub AreReserved : Names → Pulls → Type 0
AreReserved names pulls = (n : Name) → contains names n ≡ commits_at pulls n

moved : (b : Bool) (x y : Option Pull) → option_map_or is_committing (cond b x y) false ≡ cond b (option_map_or is_committing x false) (option_map_or is_committing y false)
moved true x y = refl
moved false x y = refl

removed-at : (pulls : Pulls) (n m : Name) → commits_at (map.remove pulls n) m ≡ cond (eq_by_cmp bytes_cmp m n) false (commits_at pulls m)
removed-at pulls n m = ap (λ o. option_map_or is_committing o false) (get-remove bytes_total pulls n m) ∙ moved (eq_by_cmp bytes_cmp m n) None (get pulls m)

same-at : (m n : Name) → eq_by_cmp bytes_cmp m n ≡ true → m ≡ n
same-at m n t = exact_names m n ((Equal-is (bytes_cmp m n)).0 t)

unchanged : (pulls : Pulls) (n m : Name) (b : Bool) → eq_by_cmp bytes_cmp m n ≡ b → commits_at pulls n ≡ false → commits_at pulls m ≡ cond b false (commits_at pulls m)
unchanged pulls n m true t none = ap (commits_at pulls) (same-at m n t) ∙ none
unchanged pulls n m false t none = refl

-- a commit ends, and its name is reserved no longer
pub ended-reserved : (names : Names) (pulls : Pulls) (n : Name) → AreReserved names pulls → AreReserved (remove names n) (map.remove pulls n)
ended-reserved names pulls n are m =
    contains-remove bytes_total names n m
    ∙ ap (λ b. not (eq_by_cmp bytes_cmp m n) && b) (are m)
    ∙ neither (eq_by_cmp bytes_cmp m n) (commits_at pulls m)
    ∙ sym (removed-at pulls n m)
  where
    neither : (a b : Bool) → (not a && b) ≡ cond a false b
    neither true b = refl
    neither false b = refl

-- a pull without a commit is closed
pub closed-reserved : (names : Names) (pulls : Pulls) (n : Name) → AreReserved names pulls → commits_at pulls n ≡ false → AreReserved names (map.remove pulls n)
closed-reserved names pulls n are none m = are m ∙ unchanged pulls n m (eq_by_cmp bytes_cmp m n) refl none ∙ sym (removed-at pulls n m)

-- what is not reserved need not be given up
pub none-removed : (names : Names) (n : Name) → contains names n ≡ false → remove names n ≡ names
none-removed names n none = same_set bytes_total exact_names (remove names n) names (λ m.
    contains-remove bytes_total names n m ∙ by m (eq_by_cmp bytes_cmp m n) refl)
  where
    by : (m : Name) (b : Bool) → eq_by_cmp bytes_cmp m n ≡ b → (not b && contains names m) ≡ contains names m
    by m true t = sym (ap (contains names) (same-at m n t) ∙ none)
    by m false t = refl

pub nothing-reserved : AreReserved empty map.empty
nothing-reserved n = contains-empty bytes_cmp n ∙ sym (ap (λ o. option_map_or is_committing o false) (map.get-empty bytes_cmp n))

-- ---- the same of the list of open pulls

abbrev first-test : List (Bool × Answer) → Bool
first-test [] = false
first-test (t ∷ ts) = t.0

pub commits-listed : (me : Identity) (es : List Entry) (capacity last : ℕ) (ps : List OpenPull) → IsPlain me es capacity last ps → (n : Name) → commits_at (pulls_of ps) n ≡ has_commit n ps
commits-listed me es capacity last ps kept n = ap first-test (plain.tests-are me es capacity last ps kept n None false)

-- the first test of a scan that is recorded fails
pub not-committing : (b : Bool) (version expected : Option Vector) (u : Bool) (id : ℕ) (full : Bool) → None ≡ first_of (tests_of b version expected u id full) → b ≡ false
not-committing true version expected u id full e = absurd (let f : None ≡ Some Busy = e in cc)
not-committing false version expected u id full e = refl

nothing-ready : (b : Bool) (c : Bool) → ((b && false) || c) ≡ c
nothing-ready true c = refl
nothing-ready false c = refl

pub insert-commit : (m : Name) (ps : List OpenPull) (i : ℕ) (p : OpenPull) → p.ready ≡ None → has_commit m (insert-at ps i p) ≡ has_commit m ps
insert-commit m [] zero p none = ap (λ o. (bytes_eq p.target.name m && is_some o) || false) none ∙ nothing-ready (bytes_eq p.target.name m) false
insert-commit m [] (suc i) p none = ap (λ o. (bytes_eq p.target.name m && is_some o) || false) none ∙ nothing-ready (bytes_eq p.target.name m) false
insert-commit m (q ∷ ps) zero p none = ap (λ o. (bytes_eq p.target.name m && is_some o) || has_commit m (q ∷ ps)) none ∙ nothing-ready (bytes_eq p.target.name m) (has_commit m (q ∷ ps))
insert-commit m (q ∷ ps) (suc i) p none = ap (λ b. (bytes_eq q.target.name m && is_some q.ready) || b) (insert-commit m ps i p none)

-- a pull is set in the place of one of its name
pub set-commit : (m : Name) (ps : List OpenPull) (i : ℕ) (p q : OpenPull) → slice_get ps i ≡ Some q → p.target.name ≡ q.target.name → is_some p.ready ≡ true → has_commit m (slice_set ps i p) ≡ (bytes_eq q.target.name m || has_commit m ps)
set-commit m [] i p q there same ready = absurd (let e : None ≡ Some q = there in cc)
set-commit m (x ∷ ps) zero p q there same ready =
    (λ i. (bytes_eq (same i) m && ready i) || has_commit m ps)
    ∙ either (bytes_eq q.target.name m) (is_some x.ready) (has_commit m ps)
    ∙ ap (λ (y : OpenPull). bytes_eq q.target.name m || ((bytes_eq y.target.name m && is_some x.ready) || has_commit m ps)) (sym (inside x q there))
  where
    either : (a b c : Bool) → ((a && true) || c) ≡ (a || ((a && b) || c))
    either true b c = refl
    either false b c = refl
set-commit m (x ∷ ps) (suc i) p q there same ready =
    ap (λ b. (bytes_eq x.target.name m && is_some x.ready) || b) (set-commit m ps i p q there same ready)
    ∙ swapped (bytes_eq x.target.name m && is_some x.ready) (bytes_eq q.target.name m) (has_commit m ps)
  where
    swapped : (a b c : Bool) → (a || (b || c)) ≡ (b || (a || c))
    swapped true true c = refl
    swapped true false c = refl
    swapped false b c = refl
