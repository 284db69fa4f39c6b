-- What a pull is begun for.
use Rattle.std.proofs.Common.{◌≡◌, ℕ, ℤ, pos, Bool, true, false, not, ◌&&◌, ◌||◌, List, [], ◌∷◌, Option, Some, None, Result, Ok, Err, inl, inr, refl, sym, ap, subst}
use Rattle.std.specs.Prelude.{if◌then◌else◌, IsOk, IsTrue, find, filter, is_some}
use Rattle.std.specs.FinMap.{entries, get}
use Rattle.std.specs.Ordering.{int_eq}
use Rattle.std.proofs.lemmas.Bool.{false≢true}
use mathlib.Core.List.{IsPrefix}
use Rattle.folder_core.specs.Announced.{KeyedRecord, best, is_best, is_candidate, is_of}
use Rattle.folder_core.specs.States.{FolderState, is_needed}
use Rattle.folder_core.specs.Steps.{begin_pull, next_ticket, step, with_pull}
use Rattle.folder_core.specs.declared.pull_stage.PullStage.TheVariants.{Pulling}
use Rattle.folder_core.specs.declared.answer.Answer.{Answer}
use Rattle.folder_core.specs.declared.answer.Answer.TheVariants.{Begun, Busy, Closed, HistoryFull, NotNeeded, Unsupported}
use Rattle.folder_core.specs.declared.change.Change.{Change}
use Rattle.folder_core.specs.declared.change.Change.TheVariants.{BeginPull}
use Rattle.folder_core.specs.declared.pull_info.PullInfo.{PullInfo}
use Rattle.folder_calls.specs.Histories.{state_after}
use Rattle.folder_calls.specs.Shared.{CallerView, Gets, own_entry}
use Rattle.folder_calls.specs.declared.entry.Entry.{Entry}
use Rattle.sync_record.specs.Assemblies.{is_plain}
use Rattle.sync_record.specs.Records.{FileRecord, Name, is_directory, is_file, is_live, is_live_file, kind_by, kind_of}
use Rattle.sync_record.specs.declared.kind.Kind.TheVariants as kind
use Rattle.file_store.specs.Trees.{Tree}
use Rattle.sync_record.specs.Validity.{is_valid}
use Rattle.sync_pull.specs.Ends.{Closes, stopped}
use Rattle.sync_pull.specs.Faults.{FailsFor, StopsFor}
use Rattle.file_store.specs.Asked.{Call}
use Rattle.sync_pull.specs.Pulled.{Comes, IsPullable, PullFails}
use Rattle.sync_pull.specs.Sources.{Gives, HasNoSource}
use Rattle.sync_pull.specs.declared.answer.PullAnswer.{PullAnswer}
use Rattle.sync_pull.specs.declared.answer.PullFailure.{PullFailure}
use Rattle.sync_pull.specs.declared.answer.PullFailure.TheVariants.{StoreFault, NoSource, LocalChanged, ConflictNameTaken, NotEmpty, BadParent}
use Rattle.sync_pull.specs.declared.answer.Stop.{Stop}
use Rattle.sync_pull.proofs.FailLemmas.{closed-fails, fails-weaker, stop-weaker}
use Rattle.sync_pull.proofs.ChainLemmas.{longer}

pub second : (a b : Bool) → IsTrue (a && b) → IsTrue b
second true b h = h
second false b h = absurd (false≢true h)

pub first : (a b : Bool) → IsTrue (a && b) → IsTrue a
first true b h = refl
first false b h = absurd (false≢true h)

ok-err : {X E : Type 0} (x : X) (e : E) → Ok x ≡ Err e → ⊥
ok-err x e h = cc

pub not-ok : {X E : Type 0} (r : Result X E) (e : E) → r ≡ Err e → IsOk r → ⊥
not-ok (Ok x) e is h = ok-err x e is
not-ok (Err x) e is h = absurd (false≢true h)

-- what is found among those that were let through was let through
some-is : {X : Type 0} (x y : X) → Some x ≡ Some y → x ≡ y
some-is x y e = cc

none-some : {X : Type 0} (y : X) → None ≡ Some y → ⊥
none-some y e = cc

found-passes : {X : Type 0} (p q : X → Bool) (xs : List X) (y : X) → find p (filter q xs) ≡ Some y → q y ≡ true
found-passes p q [] y e = absurd (none-some y e)
found-passes p q (x ∷ xs) y e = by (found-passes p q xs y) (q x) refl (subst (λ l. find p l ≡ Some y) (filtered (q x) refl) e)
  where
    filtered : (b : Bool) → q x ≡ b → filter q (x ∷ xs) ≡ (if b then x ∷ filter q xs else filter q xs)
    filtered b is = ap (λ c. if c then x ∷ filter q xs else filter q xs) is

    here : (find p (filter q xs) ≡ Some y → q y ≡ true) → (b : Bool) → q x ≡ true → (if b then Some x else find p (filter q xs)) ≡ Some y → q y ≡ true
    here rest true passes h = subst (λ z. q z ≡ true) (some-is x y h) passes
    here rest false passes h = rest h

    by : (find p (filter q xs) ≡ Some y → q y ≡ true) → (b : Bool) → q x ≡ b → find p (if b then x ∷ filter q xs else filter q xs) ≡ Some y → q y ≡ true
    by rest true is h = here rest (p x) is h
    by rest false is h = rest h

-- the best of a name is valid
best-valid : (es : List KeyedRecord) (n : Name) (b : KeyedRecord) → best es n ≡ Some b → IsTrue (is_valid b.1)
best-valid es n b e = first (is_valid b.1) _ (first (is_candidate es b) _ (found-passes (is_of n) (is_best es) es b e))

-- where the tests of a begin have passed, the best is what a pull may be begun for
passed : (live file directory deleted : Bool) → live ≡ not deleted → (live && not (file || directory)) ≡ false → IsTrue ((deleted || directory) || (live && file))
passed true true directory true e h = refl
passed true true true false e h = refl
passed true true false false e h = refl
passed true false true true e h = refl
passed true false true false e h = refl
passed true false false deleted e h = absurd (false≢true (sym h))
passed false file directory true e h = refl
passed false file directory false e h = absurd (false≢true e)

both : (a b : Bool) → IsTrue a → IsTrue b → IsTrue (a && b)
both true b x y = y
both false b x y = absurd (false≢true x)

busy-begun : (t : PullInfo) → Busy ≡ Begun t → ⊥
busy-begun t e = cc

not_needed-begun : (t : PullInfo) → NotNeeded ≡ Begun t → ⊥
not_needed-begun t e = cc

unsupported-begun : (t : PullInfo) → Unsupported ≡ Begun t → ⊥
unsupported-begun t e = cc

full-begun : (t : PullInfo) → HistoryFull ≡ Begun t → ⊥
full-begun t e = cc

begun-is : (t u : PullInfo) → Begun t ≡ Begun u → t ≡ u
begun-is t u e = cc

begun-for : (s : FolderState) (n : Name) (t : PullInfo) (found : Option KeyedRecord) → best (entries s.announced) n ≡ found → (begin_pull s n found).0 ≡ Begun t → IsPullable t.target
begun-for s n t None is h = absurd (none (is_some (get s.pulls n)) h)
  where
    none : (busy : Bool) → (if◌then◌else◌ {A = Answer × FolderState} busy (Busy, s) (NotNeeded, s)).0 ≡ Begun t → ⊥
    none true h = busy-begun t h
    none false h = not_needed-begun t h
begun-for s n t (Some b) is h = by (with_pull s (next_ticket s n b.1) Pulling) (is_some (get s.pulls n)) (not (is_needed s b)) (is_live b.1 && not (is_file b.1 || is_directory b.1)) refl h
  where
    by : (after : FolderState) (busy needless other : Bool) → (is_live b.1 && not (is_file b.1 || is_directory b.1)) ≡ other
        → (if◌then◌else◌ {A = Answer × FolderState} busy (Busy, s) (if◌then◌else◌ {A = Answer × FolderState} needless (NotNeeded, s) (if◌then◌else◌ {A = Answer × FolderState} other (Unsupported, s) (Begun (next_ticket s n b.1), after)))).0 ≡ Begun t → IsPullable t.target
    by after true needless other e h = absurd (busy-begun t h)
    by after false true other e h = absurd (not_needed-begun t h)
    by after false false true e h = absurd (unsupported-begun t h)
    by after false false false e h =
        let ticket : next_ticket s n b.1 ≡ t = begun-is (next_ticket s n b.1) t h in
        subst (λ (u : PullInfo). IsPullable u.target) ticket
        (both (is_valid b.1) (is_plain b.1 || is_live_file b.1) (best-valid (entries s.announced) n b is) (passed (is_live b.1) (is_file b.1) (is_directory b.1) b.1.deleted refl e))

-- the target of a ticket
pub begun-pullable : (old new : CallerView) (n : Name) (t : PullInfo) → Gets old (BeginPull n) (Begun t) new → IsPullable t.target
begun-pullable old new n t gets =
    let made = gets.answered in
    let s = state_after old.opening made.point.seen in
    begun-for s n t (best (entries s.announced) n) refl (by s _ (sym made.answer_is))
  where
    by : (s : FolderState) (over : Bool) → (if◌then◌else◌ {A = Answer × FolderState} over (HistoryFull, s) (step s (BeginPull n))).0 ≡ Begun t → (step s (BeginPull n)).0 ≡ Begun t
    by s true h = absurd (full-begun t h)
    by s false h = h

-- what was seen before a pull was given up is seen after it
pub closed-longer : (old new : CallerView) (c : Change) (seen : List Entry) → Gets old c Closed new → IsPrefix seen old.seen → IsPrefix seen new.seen
closed-longer old new c seen gets x =
    let made = gets.answered in
    let more : IsPrefix made.point.seen new.seen = (own_entry old c Closed ∷ [], sym (ap (λ (v : CallerView). v.seen) made.appended)) in
    longer seen made.point.seen new.seen (longer seen old.seen made.point.seen x made.sees.longer) more

kind-file : (number : ℤ) → kind_by number ≡ kind.File → int_eq number (pos 0) ≡ true
kind-file number e = by (int_eq number (pos 0)) (int_eq number (pos 1)) refl e
  where
    by : (file directory : Bool) → int_eq number (pos 0) ≡ file → (if file then kind.File else (if directory then kind.Directory else kind.Other)) ≡ kind.File → int_eq number (pos 0) ≡ true
    by true directory is h = is
    by false true is h = absurd (directory-file h)
      where
        directory-file : kind.Directory ≡ kind.File → ⊥
        directory-file e = cc
    by false false is h = absurd (other-file h)
      where
        other-file : kind.Other ≡ kind.File → ⊥
        other-file e = cc

-- a live file
pub pullable-file : (r : FileRecord) → IsPullable r → r.deleted ≡ false → kind_of r ≡ kind.File → IsTrue (is_valid r && is_live_file r)
pullable-file r h live file =
    both (is_valid r) (is_live_file r) (first (is_valid r) _ h) (both (is_live r) (is_file r) (ap not live) (kind-file r.type_number file))

-- what is live and no file is a directory
pub pullable-other : (r : FileRecord) → IsPullable r → r.deleted ≡ false → kind_of r ≡ kind.Other → ⊥
pullable-other r h live other = by (int_eq r.type_number (pos 0)) (int_eq r.type_number (pos 1)) r.deleted live other (second (is_valid r) _ h)
  where
    file-other : kind.File ≡ kind.Other → ⊥
    file-other e = cc

    directory-other : kind.Directory ≡ kind.Other → ⊥
    directory-other e = cc

    by : (file directory deleted : Bool) → deleted ≡ false → (if file then kind.File else (if directory then kind.Directory else kind.Other)) ≡ kind.Other
        → IsTrue ((deleted || directory) || (not deleted && file)) → ⊥
    by true directory deleted live e t = file-other e
    by false true deleted live e t = directory-other e
    by false false true live e t = false≢true (sym live)
    by false false false live e t = false≢true t

-- ---- why a pull that is closed failed

pub no-source-on : {B : Type 0} (gives : Gives B) (n : Name) (source : B) (mid new : CallerView) (target : FileRecord) (old : CallerView) (c : Change) → Gets mid c Closed new
    → HasNoSource gives n source mid target old → HasNoSource gives n source new target old
no-source-on gives n source mid new target old c gets h = record {
  live = h.live;
  point = h.point;
  since = h.since;
  until = closed-longer mid new c h.point.seen gets h.until;
  lacks = h.lacks;
}

pub sourceless-as : (most : ℤ) (moment : ℕ) (n : Name) (keeps counted P Q : Type 0) (t : PullInfo) (old new : Tree) → (P → Q) → (f : PullFailure)
    → PullFails most moment n keeps counted P t old new f → PullFails most moment n keeps counted Q t old new f
sourceless-as most moment n keeps counted P Q t old new w StoreFault h = h
sourceless-as most moment n keeps counted P Q t old new w NoSource h = w h
sourceless-as most moment n keeps counted P Q t old new w LocalChanged h = h
sourceless-as most moment n keeps counted P Q t old new w ConflictNameTaken h = h
sourceless-as most moment n keeps counted P Q t old new w NotEmpty h = h
sourceless-as most moment n keeps counted P Q t old new w BadParent h = h

-- a pull that is closed fails for what it stopped for, as that stands once it is closed
pub closing-fails : (why last : PullFailure → Type 0) (old new : CallerView) (c : Change) (s : Stop) (p : PullAnswer) → (Gets old c Closed new → (f : PullFailure) → why f → last f)
    → StopsFor why s → Closes old c (stopped s) p new → FailsFor last p
closing-fails why last old new c s p w h (inl e) = closed-fails last old new c s p (stop-weaker why last (w e.1) s h) (inl e)
closing-fails why last old new c s p w h (inr e) = subst (FailsFor last) (sym e.0) tt

-- a pull comes to the same where it is said less of what lacks a source
pub comes-as : (most : ℤ) (moment : ℕ) (n : Name) (keeps counted : Type 0) (P Q : FileRecord → CallerView → Type 0) (dropped : Type 0) (refused : Tree → Call → Type 0) (result : PullAnswer)
    (old : CallerView) (before : Tree) (new : CallerView) (after : Tree) → ((target : FileRecord) (view : CallerView) → P target view → Q target view)
    → Comes most moment n keeps counted P dropped refused result old before new after → Comes most moment n keeps counted Q dropped refused result old before new after
comes-as most moment n keeps counted P Q dropped refused result old before new after w (inl h) = inl h
comes-as most moment n keeps counted P Q dropped refused result old before new after w (inr h) = inr (
  h.0,
  h.1,
  h.2,
  record {
    ends = h.3.ends;
    done = h.3.done;
    reasons = fails-weaker _ _ (sourceless-as most moment n keeps counted (P h.0.target h.1) (Q h.0.target h.1) h.0 before after (w h.0.target h.1)) result h.3.reasons;
    kept = h.3.kept;
    left = h.3.left;
    entered = h.3.entered;
    saved = h.3.saved;
    free = h.3.free;
    temporary = h.3.temporary;
    alone = h.3.alone;
  },
)
