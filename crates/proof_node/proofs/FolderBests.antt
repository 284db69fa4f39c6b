-- What a step of a folder counts.
use Rattle.std.proofs.Common.{◌≡◌, ℕ, ◌-◌, ◌^◌, ◌≤◌, List, length, min, refl, sym, ap, subst, ◌∙◌, arith}
use Rattle.std.specs.Prelude.{OnErr, OnOk, Option, Some, None, Result, Ok, Err}
use Rattle.std.specs.FinMap.{entries, get}
use Rattle.std.specs.FinSet as set
use Rattle.std.specs.FinSet.{contains-from_list}
use Rattle.std.specs.declared.alloc.AllocError.{AllocError}
use Rattle.sync_record.specs.Devices.{Identity}
use Rattle.sync_record.specs.Records.{FileRecord}
use Rattle.folder_core.specs.Announced.{Announced, announce, key, without}
use Rattle.folder_core.specs.Calls.{Changes, index_answer}
use Rattle.folder_core.specs.States.{FolderState}
use Rattle.folder_core.specs.Steps.{step}
use Rattle.folder_core.specs.declared.answer.Answer.{Answer}
use Rattle.folder_core.specs.declared.answer.Answer.TheVariants.{Applied, Recorded, Done}
use Rattle.folder_core.specs.declared.change.Change.{Change}
use Rattle.folder_core.specs.declared.change.Change.TheVariants.{ScanFound, ScanGone, IndexFull, IndexMore, Forget, BeginPull, EnterCommit, Finish, GiveUp, Abort}
use Rattle.folder_core.proofs.ChangeCases.{Cases, step-cases}
use Rattle.folder_core.proofs.Orders.{bytes_total}
use Rattle.folder_index.specs.Devices.{names_by}
use Rattle.folder_index.specs.Indexes.{IndexState}
use Rattle.folder_db.specs.Indexed.{IndexedState, choices_after, counted_more, names_in, names_with}
use Rattle.proof_node.specs.NewBests.{CountsNewBests, HaveNewBests, choices_of}
use Rattle.proof_node.proofs.NewBests.{announced-same, in-list, in-set, none-new, put-counted, replaced-same, without-same}

after-low : (a : Answer) (n : ℕ) → min n (2 ^ 64 - 1) ≤ choices_after (Some a) n
after-low (Recorded q) n = omega arith
after-low (Done q) n = omega arith
after-low _ n = omega arith

module _ (s : FolderState) where
  low : (c : Change) (a : Answer) (n : ℕ) → min n (2 ^ 64 - 1) ≤ choices_of s c a n
  low (IndexFull d records) a n = omega arith
  low (IndexMore d records) a n = omega arith
  low (Forget d) a n = omega arith
  low (ScanFound m expected found moment) a n = after-low a n
  low (ScanGone m expected moment) a n = after-low a n
  low (BeginPull m) a n = after-low a n
  low (EnterCommit t) a n = after-low a n
  low (Finish t assembled) a n = after-low a n
  low (GiveUp t) a n = after-low a n
  low (Abort t) a n = after-low a n

  -- what is announced stays
  stayed : (was is : ℕ) → min was (2 ^ 64 - 1) ≤ is → CountsNewBests s.announced was s.announced is
  stayed was is enough names h = let few = none-new s.announced s.announced names h (λ n e. refl) in omega arith

  abbrev index : IndexState
  index = record { me = s.me; announced = s.announced; choices = 0; promised = set.empty }

  abbrev Counts : Change → Answer × FolderState → Type 0
  Counts c out = (choices : ℕ) → CountsNewBests s.announced choices out.1.announced (choices_of s c out.0 choices)

  full : (d : Identity) (rs : List FileRecord) (n : ℕ) → CountsNewBests s.announced n (announce d rs (without d s.announced)) (counted_more n (set.len (names_with rs (names_by d (entries s.announced)))))
  full d rs n names h =
      let few = in-set s.announced (announce d rs (without d s.announced)) names h (names_with rs (names_by d (entries s.announced))) (λ m f. replaced-same d m rs s.announced (sym (contains-from_list bytes_total _ m) ∙ f)) in
      omega arith

  more : (d : Identity) (rs : List FileRecord) (n : ℕ) → CountsNewBests s.announced n (announce d rs s.announced) (counted_more n (set.len (names_in rs)))
  more d rs n names h =
      let few = in-set s.announced (announce d rs s.announced) names h (names_in rs) (λ m f. announced-same d m rs s.announced (sym (contains-from_list bytes_total _ m) ∙ f)) in
      omega arith

  gone : (d : Identity) (n : ℕ) → CountsNewBests s.announced n (without d s.announced) (counted_more n (length (names_by d (entries s.announced))))
  gone d n names h =
      let few = in-list s.announced (without d s.announced) names h (names_by d (entries s.announced)) (λ m f. without-same d m s.announced f) in
      omega arith

  cases : Cases s Counts
  cases = record {
    tested = λ c a refused n. stayed n (choices_of s c a n) (low c a n);
    found = λ m expected f moment tests n. put-counted s.me index _ n;
    gone = λ m expected moment r there tests n. put-counted s.me index _ n;
    full = λ d rs n. full d rs n;
    more = λ d rs n. more d rs n;
    forgotten = λ d n. gone d n;
    begun = λ m b is tests n. stayed n n (omega arith);
    entered = λ t p is tests n. stayed n n (omega arith);
    finished = λ t assembled p is n. put-counted s.me index _ n;
    given_up = λ t p is n. stayed n n (omega arith);
    aborted = λ t p is n. stayed n n (omega arith);
  }

  pub counts : (c : Change) → Counts c (step s c)
  counts c = step-cases s Counts cases c

  -- ---- calls

  accepted : (c : Change) (a : Answer) (t : FolderState) (was is : ℕ) → step s c ≡ (a, t) → is ≡ choices_of s c a was → CountsNewBests s.announced was t.announced is
  accepted c a t was is change e names h =
      let few = counts c was names (subst (λ (x : Announced). HaveNewBests s.announced x names) (ap (λ (p : Answer × FolderState). p.1.announced) (sym change)) h) in
      let same : choices_of s c (step s c).0 was ≡ is = ap (λ (p : Answer × FolderState). choices_of s c p.0 was) change ∙ sym e in
      omega arith

  -- what is out of memory changes nothing and counts nothing
  out-of-memory : (t : FolderState) (was is : ℕ) → t ≡ s → is ≡ was → CountsNewBests s.announced was t.announced is
  out-of-memory t was is same e names h =
      let few = none-new s.announced t.announced names h (λ n d. ap (λ (x : FolderState). get x.announced (key n d)) same) in
      omega arith

  pub made : (c : Change) (o : Option Answer) (t : FolderState) (was is : ℕ) → Changes s c o t → ((a : Answer) → choices_of s c a was ≡ choices_after (Some a) was) → is ≡ choices_after o was
      → CountsNewBests s.announced was t.announced is
  made c None t was is change same e = out-of-memory t was is change e
  made c (Some a) t was is change same e = accepted c a t was is change (e ∙ sym (same a))

pub index-made : (c : Change) (old new : IndexedState) (r : Result (Unit {0}) AllocError) → Changes old.folder c (index_answer r) new.folder
    → OnOk r (new.choices ≡ choices_of old.folder c Applied old.choices) → OnErr r (new ≡ old) → CountsNewBests old.folder.announced old.choices new.folder.announced new.choices
index-made c old new (Ok done) change ok err = accepted old.folder c Applied new.folder old.choices new.choices change ok
index-made c old new (Err fault) change ok err = out-of-memory old.folder new.folder old.choices new.choices (ap (λ (x : IndexedState). x.folder) err) (ap (λ (x : IndexedState). x.choices) err)
