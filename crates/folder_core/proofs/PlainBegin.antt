-- What the begin of a pull makes of a plain folder is the rules' step.
use Rattle.std.proofs.Common.{◌≡◌, ℕ, suc, Bool, true, false, List, [], ◌∷◌, refl, sym, ap, subst, ◌∙◌, arith}
use Rattle.std.specs.Prelude.{All, IfOk, bytes_eq, cond, is_ok, is_some, not, ◌||◌, Option, Some, None, Result, Ok, Err, filter, map, option_map}
use Rattle.std.specs.Bool.{passes}
use Rattle.std.specs.Cmp.Lexicographic.{texts_ties}
use Rattle.std.specs.FinMap as fin
use Rattle.std.specs.FinMap.{entries, entries-from_sorted, find, from_sorted, get, get-from_sorted, is_sorted}
use Rattle.std.specs.FinMap.Entries.{is_sorted-put}
use Rattle.std.specs.List.{insert, list_any}
use Rattle.std.specs.Result.{result_err}
use Rattle.std.proofs.lemmas.Option.{none-some}
use Rattle.sync_record.specs.Devices.{Identity, bytes_cmp}
use Rattle.sync_record.specs.Records.{Name, FileRecord}
use Rattle.folder_core.specs.declared.announcement.Announcement.{Announcement as Entry}
use Rattle.folder_core.specs.declared.plain.pull.OpenPull.{OpenPull}
use Rattle.folder_core.specs.declared.plain.pulls.BeginObstacle.{BeginObstacle}
use Rattle.folder_core.specs.declared.plain.pulls.BeginObstacle.TheVariants as begin
use Rattle.folder_core.specs.declared.pull_stage.PullStage.TheVariants.{Pulling}
use Rattle.folder_core.specs.Announced.{best, key_cmp}
use Rattle.folder_core.specs.Plain.{IsPlain, IsReady, PullsRise, commits, filed, folder_of, opened, pulled, pulls_of}
use Rattle.folder_core.specs.PlainPulls.{begin_refusal, begin_tests_of, best_in, is_unsupported, position_of}
use Rattle.folder_core.specs.PlainReads.{is_needed_over, record_from}
use Rattle.folder_core.specs.PlainScans.{first_of}
use Rattle.folder_core.specs.States.{FolderState, IsFolder, local}
use Rattle.folder_core.specs.declared.answer.Answer.{Answer}
use Rattle.folder_core.specs.declared.answer.Answer.TheVariants.{Begun, Busy, NotNeeded, Unsupported}
use Rattle.folder_core.specs.declared.change.Change.TheVariants.{BeginPull}
use Rattle.folder_core.specs.declared.pull_info.PullInfo.{PullInfo}
use Rattle.folder_core.specs.Steps.{begin_pull, first_answer, is_accepted, least_free, next_ticket, step, with_pull}
use Rattle.folder_core.proofs.ChangeFolders.{step-folder}
use Rattle.folder_core.proofs.ListTests.{none_of}
use Rattle.folder_core.proofs.Orders.{bytes_total, exact_names, entries_listed, insert_listed, is_true}
use Rattle.folder_core.proofs.PlainFound.{best_is, named_best}
use Rattle.folder_core.proofs.PlainGroup.{is_named}
use Rattle.folder_core.proofs.PlainNumber.{numbers_of}
use Rattle.folder_core.proofs.PlainOpen.{insert-there}
use Rattle.folder_core.proofs.PlainOpened.{commits-cons, one}
use Rattle.folder_core.proofs.PlainOwn.{local_is}
use Rattle.folder_core.proofs.PlainTests.{first-none, first-some}

-- ---- whether a pull of the name is open

abbrev pub is_open : Name → List OpenPull → Bool
is_open n ps = list_any (λ p. bytes_eq n p.target.name) ps

open_found : (n : Name) (ps : List OpenPull) → is_some (find bytes_cmp n (map pulled ps)) ≡ is_open n ps
open_found n [] = refl
open_found n (p ∷ ps) =
    (λ i. is_some (cond (sym (texts_ties n p.target.name) i) (Some (opened p)) (find bytes_cmp n (map pulled ps))))
    ∙ by (bytes_eq n p.target.name) (open_found n ps)
  where
    by : (b : Bool) → is_some (find bytes_cmp n (map pulled ps)) ≡ is_open n ps → is_some (cond b (Some (opened p)) (find bytes_cmp n (map pulled ps))) ≡ (b || is_open n ps)
    by true rest = refl
    by false rest = rest

pub open-is : (n : Name) (ps : List OpenPull) → PullsRise ps → is_some (get (pulls_of ps) n) ≡ is_open n ps
open-is n ps rise = ap is_some (get-from_sorted bytes_cmp (map pulled ps) n (passes _ rise)) ∙ open_found n ps

-- ---- one more pull, which has nothing ready

map_numbers : (ps : List OpenPull) → map (λ e. e.1.number) (map pulled ps) ≡ numbers_of ps
map_numbers [] = refl
map_numbers (p ∷ ps) = ap (λ ns. p.number ∷ ns) (map_numbers ps)

none_more : (p : OpenPull) (ps : List OpenPull) → p.ready ≡ None → commits (p ∷ ps) ≡ commits ps
none_more p ps none = let a = commits-cons p ps in let b : one p ≡ 0 = ap (λ o. cond (is_some o) 1 0) none in omega arith

pub insert-commits : (ps : List OpenPull) (i : ℕ) (p : OpenPull) → p.ready ≡ None → commits (insert ps i p) ≡ commits ps
insert-commits [] ℕ.zero p none = none_more p [] none
insert-commits [] (suc i) p none = none_more p [] none
insert-commits (q ∷ ps) ℕ.zero p none = none_more p (q ∷ ps) none
insert-commits (q ∷ ps) (suc i) p none =
    let a = commits-cons q ps in
    let b = commits-cons q (insert ps i p) in
    let c = insert-commits ps i p none in
    omega arith

ready_cons : (p : OpenPull) (ps : List OpenPull) → IsReady p → All IsReady ps → All IsReady (p ∷ ps)
ready_cons p ps here each ℕ.zero d below = here
ready_cons p ps here each (suc k) d below = each k d (omega arith)

pub insert-ready : (ps : List OpenPull) (i : ℕ) (p : OpenPull) → IsReady p → All IsReady ps → All IsReady (insert ps i p)
insert-ready [] ℕ.zero p here each = ready_cons p [] here each
insert-ready [] (suc i) p here each = ready_cons p [] here each
insert-ready (q ∷ ps) ℕ.zero p here each = ready_cons p (q ∷ ps) here each
insert-ready (q ∷ ps) (suc i) p here each = ready_cons q (insert ps i p) (each 0 q (omega arith)) (insert-ready ps i p here (λ k d l. each (suc k) d (omega arith)))

-- ---- the begin of a pull

-- an obstacle is no answer that is accepted
refused : (o : BeginObstacle) → is_accepted (begin_refusal o) ≡ false
refused begin.Busy = refl
refused begin.NotNeeded = refl
refused begin.Unsupported = refl

not_first : (a : Bool) (x : Answer) (ts : List (Bool × Answer)) → None ≡ first_of ((a, x) ∷ ts) → a ≡ false
not_first true x ts e = absurd (let f : None ≡ Some x = e in cc)
not_first false x ts e = refl

module _ (me : Identity) (es : List Entry) (capacity last : ℕ) (ps : List OpenPull) (old : IsPlain me es capacity last ps) (n : Name) where
  abbrev pub folder : FolderState
  folder = folder_of me es last (pulls_of ps)

  abbrev pub group : List Entry
  group = filter (is_named n) es

  abbrev pub chosen : Option Entry
  chosen = best_in group

  abbrev pub tests_with : Option Entry → List (Bool × Answer)
  tests_with o = begin_tests_of (is_open n ps) (local folder n) o

  -- what is found of the name among the entries
  pub own-is : (named : List Entry) → named ≡ group → (r : Option FileRecord) → r ≡ record_from me named → r ≡ local folder n
  own-is named is r found = found ∙ ap (record_from me) is ∙ local_is me es last (pulls_of ps) old.rises n

  -- the tests, from what the code has at hand
  pub tests-are : (found : List Entry) (own : Option FileRecord) (busy : Bool) → found ≡ group → own ≡ local folder n → busy ≡ is_open n ps → begin_tests_of busy own (best_in found) ≡ tests_with chosen
  tests-are found own busy g o b = (λ i. begin_tests_of (b i) (o i) (best_in (g i)))

  best-chosen : best (entries folder.announced) n ≡ option_map filed chosen
  best-chosen = ap (λ xs. best xs n) (entries-from_sorted key_cmp (map filed es) (passes _ old.rises)) ∙ best_is n es old.rises

  abbrev pub begun : FileRecord → Answer × FolderState
  begun r = (Begun (next_ticket folder n r), with_pull folder (next_ticket folder n r) Pulling)

  abbrev pub made : Option Entry → Answer × FolderState
  made None = (NotNeeded, folder)
  made (Some b) = begun b.record

  begin-tested : (o : Option Entry) → chosen ≡ o → step folder (BeginPull n) ≡ first_answer folder (tests_with o) (made o)
  begin-tested None is =
      ap (begin_pull folder n) (best-chosen ∙ ap (option_map filed) is)
      ∙ ap (λ b. first_answer folder ((b, Busy) ∷ []) (NotNeeded, folder)) (open-is n ps old.pulls_rise)
  begin-tested (Some b) is =
      ap (begin_pull folder n) (best-chosen ∙ ap (option_map filed) is)
      ∙ (λ i. first_answer folder (begin_tests_of (open-is n ps old.pulls_rise i) (local folder (named_best n es old.rises b (sym is) i)) (Some b)) (begun b.record))

  pub begin-refused : (o : BeginObstacle) → Some (begin_refusal o) ≡ first_of (tests_with chosen) → step folder (BeginPull n) ≡ (begin_refusal o, folder)
  begin-refused o told = begin-tested chosen refl ∙ first-some folder (tests_with chosen) (made chosen) (begin_refusal o) told

  begin-made : (b : Entry) → chosen ≡ Some b → None ≡ first_of (tests_with chosen) → step folder (BeginPull n) ≡ begun b.record
  begin-made b some told = begin-tested (Some b) some ∙ first-none folder (tests_with (Some b)) (begun b.record) (told ∙ ap (λ o. first_of (tests_with o)) some)

  pub begin-is_accepted : (b : Entry) → chosen ≡ Some b → None ≡ first_of (tests_with chosen) → is_accepted (step folder (BeginPull n)).0 ≡ true
  begin-is_accepted b some told = ap (λ (d : Answer × FolderState). is_accepted d.0) (begin-made b some told)

  pub begin-accepted : {A : Type 0} (f : A → Entry) (r : Result A BeginObstacle) → IfOk r (λ b. chosen ≡ Some (f b)) → option_map begin_refusal (result_err r) ≡ first_of (tests_with chosen) → is_ok r ≡ is_accepted (step folder (BeginPull n)).0
  begin-accepted f (Ok b) best told = sym (begin-is_accepted (f b) best told)
  begin-accepted f (Err o) best told = sym (ap (λ (d : Answer × FolderState). is_accepted d.0) (begin-refused o told) ∙ refused o)

  -- what is opened, and what its ticket says
  abbrev pub opened_pull : Option FileRecord → FileRecord → OpenPull
  opened_pull o r = record { number = least_free (numbers_of ps); base = o; target = r; ready = None }

  abbrev pub ticket : Option FileRecord → FileRecord → PullInfo
  ticket o r = record { number = least_free (numbers_of ps); name = n; base = o; target = r }

  module _ (b : Entry) (some : chosen ≡ Some b) (told : None ≡ first_of (tests_with chosen))
      (o : Option FileRecord) (base : o ≡ local folder n) (new : List OpenPull) (is : new ≡ insert ps (position_of b.record.name ps) (opened_pull o b.record)) where
    free : is_open n ps ≡ false
    free = not_first (is_open n ps) Busy ((not (is_needed_over (local folder n) b.record), NotNeeded) ∷ (is_unsupported b.record, Unsupported) ∷ []) (told ∙ ap (λ x. first_of (tests_with x)) some)

    put_there : map pulled new ≡ fin.put bytes_cmp b.record.name (opened (opened_pull o b.record)) (map pulled ps)
    put_there =
        ap (map pulled) is
        ∙ insert-there bytes_total exact_names pulled b.record.name (opened_pull o b.record) ps refl
        (none_of _ (open_found b.record.name ps ∙ ap (λ m. is_open m ps) (named_best n es old.rises b (sym some)) ∙ free))

    new_rise : PullsRise new
    new_rise = ap (is_sorted bytes_cmp) put_there ∙ is_true _ (is_sorted-put bytes_cmp bytes_total b.record.name (opened (opened_pull o b.record)) (map pulled ps) (passes _ old.pulls_rise))

    new_pulls : pulls_of new ≡ fin.insert (pulls_of ps) n (opened (opened_pull o b.record))
    new_pulls =
        ap from_sorted put_there
        ∙ sym (insert_listed bytes_total exact_names (map pulled ps) b.record.name (opened (opened_pull o b.record)) old.pulls_rise)
        ∙ ap (λ m. fin.insert (pulls_of ps) m (opened (opened_pull o b.record))) (named_best n es old.rises b (sym some))

    ticket-is : next_ticket folder n b.record ≡ ticket o b.record
    ticket-is =
        (λ i. record {
          number = least_free ((ap (map (λ e. e.1.number)) (entries_listed bytes_cmp (map pulled ps) old.pulls_rise) ∙ map_numbers ps) i);
          name = n;
          base = sym base i;
          target = b.record;
        })

    pub begin-begun : (t : PullInfo) → t ≡ ticket o b.record → step folder (BeginPull n) ≡ (Begun t, folder_of me es last (pulls_of new))
    begin-begun t same =
        begin-made b some told
        ∙ ap (λ u. (Begun u, with_pull folder u Pulling)) ticket-is
        ∙ (λ i. (Begun (sym same i), folder_of me es last (sym new_pulls i)))

    pub begin-plain : IsPlain me es capacity last new
    begin-plain = record {
      rises = old.rises;
      pulls_rise = new_rise;
      folder = subst IsFolder (ap (λ (d : Answer × FolderState). d.1) (begin-begun (ticket o b.record) refl)) (step-folder folder (BeginPull n) old.folder tt);
      ready = subst (All IsReady) (sym is) (insert-ready ps (position_of b.record.name ps) (opened_pull o b.record) (λ r e. absurd (none-some r e)) old.ready);
      room = let h = ap commits is ∙ insert-commits ps (position_of b.record.name ps) (opened_pull o b.record) refl in let k = old.room in omega arith;
    }
