-- What a store is called for in a pull, one call after another.
use Rattle.std.proofs.Common.{◌≡◌, inl, subst, sym, List, ℕ, Option, None, Some, Result}
use Rattle.file_store.specs.Asked.{Call, Value, ListAll, StatAt, ReadAt, MakeTemp, WriteAt, CommitTemp, DropTemp, Rename, Remove, MakeDir, RemoveDir}
use Rattle.file_store.specs.Names.{Name}
use Rattle.file_store.specs.Sequences.{CallsOnly, IsLook, IsOfTemp, LooksOnly, called, not_called}
use Rattle.file_store.specs.declared.refusal.StoreRefusal.{StoreRefusal}
use Rattle.file_store.proofs.SequenceLemmas.{called_on, called_wider}
use Rattle.std.specs.Prelude.{◌+◌, ◌≤◌, ◌<◌, ◌∷◌, ◌++◌, [], Ok, drop, length, take}
use Rattle.std.proofs.Common.{arith, get_or, ap, ◌∙◌, suc}
use Rattle.std.proofs.Math.Seq.{drop-cons, take-suc}
use Rattle.file_store.specs.FullReads.{FillsAll}
use Rattle.sync_blocks.specs.declared.block.Block.{Block}
use Rattle.sync_record.specs.Records.{FileRecord}
use Rattle.sync_pull.specs.Bytes.{AreOf, HasBlock}
use Rattle.std.specs.Prelude.{◌↔◌}
use Rattle.sync_pull.proofs.BytesLemmas.{rest-decides}
use Rattle.std.specs.Prelude.{ℤ, ⊤}
use Rattle.folder_core.specs.declared.answer.Answer.TheVariants.{Entered}
use Rattle.folder_core.specs.declared.change.Change.TheVariants.{EnterCommit}
use Rattle.folder_core.specs.declared.pull_info.PullInfo.{PullInfo}
use Rattle.folder_calls.specs.Shared.{CallerView, Gets, Sees}
use Rattle.sync_pull.specs.Chains.{AsksAndSees}
use Rattle.sync_pull.specs.Ends.{enters}
use Rattle.sync_pull.specs.Plans.{IsPlanned, copy_name}
use Rattle.sync_pull.specs.Pulled.{IfDone, IfDoneElse}
use Rattle.sync_pull.specs.declared.answer.PullAnswer.{PullAnswer}
use Rattle.sync_pull.specs.declared.answer.PullAnswer.TheVariants.{Done, NotNeeded, Busy, Unsupported, LocalMoved, Superseded, Refused, Failed}
use Rattle.sync_pull.specs.declared.replace.CopyPlan.{CopyPlan}
use Rattle.sync_pull.specs.declared.replace.CopyPlan.TheVariants.{Due, NotDue}
use Rattle.sync_pull.proofs.ChainLemmas.{sees-itself}
use Rattle.sync_pull.proofs.EndsLemmas.{sees-first}
use Rattle.sync_pull.specs.Moments.{ChecksFirst, EntersFirst, GivesBlocks, IsOfPlace, IsOfPull, SaysFile, checked, copy_of, empty, entered, not_entered, one_more, unchanged, whole}

-- a look is of each kind
pub look_temp : (n : Name) (call : Call) → IsLook call → IsOfTemp n call
look_temp n ListAll is = tt
look_temp n (StatAt m) is = tt
look_temp n (ReadAt m offset before after) is = tt
look_temp n (MakeTemp m) is = absurd is
look_temp n (WriteAt m offset piece) is = absurd is
look_temp n (CommitTemp m) is = is
look_temp n (DropTemp m) is = absurd is
look_temp n (Rename from to) is = is
look_temp n (Remove m) is = is
look_temp n (MakeDir m) is = is
look_temp n (RemoveDir m) is = is

pub look_place : (n : Name) (copy : Option Name) (call : Call) → IsLook call → IsOfPlace n copy call
look_place n copy ListAll is = tt
look_place n copy (StatAt m) is = tt
look_place n copy (ReadAt m offset before after) is = tt
look_place n copy (MakeTemp m) is = is
look_place n copy (WriteAt m offset piece) is = is
look_place n copy (CommitTemp m) is = absurd is
look_place n copy (DropTemp m) is = absurd is
look_place n copy (Rename from to) is = absurd is
look_place n copy (Remove m) is = absurd is
look_place n copy (MakeDir m) is = absurd is
look_place n copy (RemoveDir m) is = absurd is

-- a call that needs no copy
pub place_copy : (n : Name) (copy : Option Name) (call : Call) → IsOfPlace n None call → IsOfPlace n copy call
place_copy n copy ListAll is = tt
place_copy n copy (StatAt m) is = tt
place_copy n copy (ReadAt m offset before after) is = tt
place_copy n copy (MakeTemp m) is = is
place_copy n copy (WriteAt m offset piece) is = is
place_copy n copy (CommitTemp m) is = is
place_copy n copy (DropTemp m) is = is
place_copy n copy (Rename from to) is = absurd is
place_copy n copy (Remove m) is = is
place_copy n copy (MakeDir m) is = is
place_copy n copy (RemoveDir m) is = is

-- a call of a pull
pub place_pull : (n copy : Name) (call : Call) → IsOfPlace n (Some copy) call → IsOfPull n copy call
place_pull n copy ListAll is = tt
place_pull n copy (StatAt m) is = tt
place_pull n copy (ReadAt m offset before after) is = tt
place_pull n copy (MakeTemp m) is = is
place_pull n copy (WriteAt m offset piece) is = is
place_pull n copy (CommitTemp m) is = is
place_pull n copy (DropTemp m) is = is
place_pull n copy (Rename from to) is = is
place_pull n copy (Remove m) is = inl is
place_pull n copy (MakeDir m) is = is
place_pull n copy (RemoveDir m) is = is

module _ {S : Type 0} (gives : S → (call : Call) → Result (Value call) StoreRefusal → S → Type 0) (n : Name) where
  pub looks_temp : (old new : S) → LooksOnly gives old new → CallsOnly gives (IsOfTemp n) old new
  looks_temp = called_wider gives IsLook (IsOfTemp n) (look_temp n)

  pub looks_place : (copy : Option Name) (old new : S) → LooksOnly gives old new → CallsOnly gives (IsOfPlace n copy) old new
  looks_place copy = called_wider gives IsLook (IsOfPlace n copy) (look_place n copy)

  pub places_copy : (copy : Option Name) (old new : S) → CallsOnly gives (IsOfPlace n None) old new → CallsOnly gives (IsOfPlace n copy) old new
  places_copy copy = called_wider gives (IsOfPlace n None) (IsOfPlace n copy) (place_copy n copy)

  pub places_pull : (copy : Name) (old new : S) → CallsOnly gives (IsOfPlace n (Some copy)) old new → CallsOnly gives (IsOfPull n copy) old new
  places_pull copy = called_wider gives (IsOfPlace n (Some copy)) (IsOfPull n copy) (place_pull n copy)

-- for the search: no call, one, and one after others
pub still : {S : Type 0} (gives : S → (call : Call) → Result (Value call) StoreRefusal → S → Type 0) (kind : Call → Type 0) (s : S) → CallsOnly gives kind s s
still gives kind s = not_called

pub once : {S : Type 0} (gives : S → (call : Call) → Result (Value call) StoreRefusal → S → Type 0) (kind : Call → Type 0) (old new : S) (call : Call) (answer : Result (Value call) StoreRefusal)
    → gives old call answer new → kind call → CallsOnly gives kind old new
once gives kind old new call answer given is = called old new call answer not_called is given

pub then_once : {S : Type 0} (gives : S → (call : Call) → Result (Value call) StoreRefusal → S → Type 0) (kind : Call → Type 0) (old mid new : S) (call : Call) (answer : Result (Value call) StoreRefusal)
    → gives mid call answer new → CallsOnly gives kind old mid → kind call → CallsOnly gives kind old new
then_once gives kind old mid new call answer given before is = called mid new call answer before is given

pub then_on : {S : Type 0} (gives : S → (call : Call) → Result (Value call) StoreRefusal → S → Type 0) (kind : Call → Type 0) (old mid new : S)
    → CallsOnly gives kind mid new → CallsOnly gives kind old mid → CallsOnly gives kind old new
then_on gives kind old mid new after before = called_on gives kind old mid new before after

module _ {S : Type 0} (gives : S → (call : Call) → Result (Value call) StoreRefusal → S → Type 0) (n : Name) where
  -- looks
  pub looked_stat : (m : Name) (old new : S) (answer : Result (Value (StatAt m)) StoreRefusal) → gives old (StatAt m) answer new → LooksOnly gives old new
  looked_stat m old new answer given = called old new (StatAt m) answer not_called tt given

  pub looked_on : (m : Name) (old mid new : S) (answer : Result (Value (StatAt m)) StoreRefusal) → gives old (StatAt m) answer mid → LooksOnly gives mid new → LooksOnly gives old new
  looked_on m old mid new answer given after = called_on gives IsLook old mid new (looked_stat m old mid answer given) after

  -- an empty file, and one with its blocks
  pub empty_said : (r : FileRecord) (s : S) (size : ℕ) → size ≡ 0 → SaysFile gives n r s size s
  empty_said r s size none = subst (λ k. SaysFile gives n r s k s) (sym none) empty

  pub whole_said : (r : FileRecord) (old new : S) (size : ℕ) → GivesBlocks gives n old r.blocks size new → SaysFile gives n r old size new
  whole_said r old new size given = whole size new given

  -- one block more
  pub block_more : (old mid new : S) (bs : List Block) (i at : ℕ) (b : Block) → i < length bs → b ≡ get_or bs i b → GivesBlocks gives n old (take i bs) at mid
      → (count : ℕ) × (before bytes : List ℕ) × FillsAll gives n at mid before (Ok count) new bytes × (b.size ≤ count) × HasBlock b bytes
      → GivesBlocks gives n old (take (i + 1) bs) (at + b.size) new
  block_more old mid new bs i at b within is so given =
      let one : i + 1 ≡ suc i = omega arith in
      let more : take (i + 1) bs ≡ take i bs ++ b ∷ [] = ap (λ k. take k bs) one ∙ take-suc bs i b within ∙ ap (λ x. take i bs ++ x ∷ []) (sym is) in
      subst (λ l. GivesBlocks gives n old l (at + b.size) new) (sym more)
      (one_more (take i bs) b at given.0 mid new given.1 given.2 so given.3 given.4 given.5)

-- the commit was entered
pub entered_asks : (old view : CallerView) (t c : PullInfo) → Gets old (EnterCommit t) (Entered c) view → c ≡ t → AsksAndSees old (enters t ∷ []) view
entered_asks old view t c got is = (old, view, sees-itself old, subst (λ x. Gets old (EnterCommit t) (Entered x) view) is got, sees-itself view)

-- nothing is to be done where a pull is not done
pub still_undone : (p : PullAnswer) (still : Type 0) → IfDoneElse p ⊤ still → IfDone p ⊥ → still
still_undone (Done k) still h undone = absurd undone
still_undone NotNeeded still h undone = h
still_undone Busy still h undone = h
still_undone Unsupported still h undone = h
still_undone LocalMoved still h undone = h
still_undone Superseded still h undone = h
still_undone (Refused r) still h undone = h
still_undone (Failed f) still h undone = h

module _ {S : Type 0} (gives : S → (call : Call) → Result (Value call) StoreRefusal → S → Type 0) (n : Name) where
  -- more calls after those that were checked
  pub checks_then : (base : Option FileRecord) (kind : Call → Type 0) (undone after : Type 0) (old mid new : S) → (undone → after) → ChecksFirst gives n base kind undone old mid
      → CallsOnly gives (IsOfTemp n) mid new → CallsOnly gives kind mid new → ChecksFirst gives n base kind after old new
  checks_then base kind undone after old mid new so (unchanged is calls) temp more = unchanged (so is) (called_on gives (IsOfTemp n) old mid new calls temp)
  checks_then base kind undone after old mid new so (checked said says calls) temp more = checked said says (called_on gives kind said mid new calls more)

  -- none, for what is done after all is of no other kind
  pub checks_so : (base : Option FileRecord) (kind : Call → Type 0) (undone after : Type 0) (old new : S) → (undone → after) → ChecksFirst gives n base kind undone old new
      → ChecksFirst gives n base kind after old new
  checks_so base kind undone after old new so (unchanged is calls) = unchanged (so is) calls
  checks_so base kind undone after old new so (checked said says calls) = checked said says calls

  -- calls of another kind that has them
  pub checks_wider : (base : Option FileRecord) (kind other : Call → Type 0) (undone : Type 0) (old new : S) → ((call : Call) → kind call → other call)
      → ChecksFirst gives n base kind undone old new → ChecksFirst gives n base other undone old new
  checks_wider base kind other undone old new wider (unchanged is calls) = unchanged is calls
  checks_wider base kind other undone old new wider (checked said says calls) = checked said says (called_wider gives kind other wider said new calls)

  -- and calls after them, none where it is undone
  checks_on : (base : Option FileRecord) (kind : Call → Type 0) (undone : Type 0) (old placed new : S) → ChecksFirst gives n base kind undone old placed
      → CallsOnly gives kind placed new → (undone → new ≡ placed) → ChecksFirst gives n base kind undone old new
  checks_on base kind undone old placed new (unchanged is calls) more still = unchanged is (subst (λ s. CallsOnly gives (IsOfTemp n) old s) (sym (still is)) calls)
  checks_on base kind undone old placed new (checked said says calls) more still = checked said says (called_on gives kind said placed new calls more)

  module _ (shown : S → CallerView → Type 0) (t : PullInfo) (kind : Call → Type 0) (undone : Type 0) where
    -- what is called for before
    pub enters_from : (first old : CallerView) (before mid after : S) → Sees first old → CallsOnly gives (IsOfTemp n) before mid
        → EntersFirst gives shown n t kind undone old mid after → EntersFirst gives shown n t kind undone first before after
    enters_from first old before mid after sees temp (not_entered is calls) = not_entered is (called_on gives (IsOfTemp n) before mid after temp calls)
    enters_from first old before mid after sees temp (entered view point calls asks at checks) =
        entered view point (called_on gives (IsOfTemp n) before mid point temp calls) (sees-first first old view (enters t ∷ []) sees asks) at checks

    -- and after
    pub enters_on : (old : CallerView) (before placed after : S) → EntersFirst gives shown n t kind undone old before placed → CallsOnly gives kind placed after
        → (undone → after ≡ placed) → EntersFirst gives shown n t kind undone old before after
    enters_on old before placed after (not_entered is calls) more still = not_entered is (subst (λ s. CallsOnly gives (IsOfTemp n) before s) (sym (still is)) calls)
    enters_on old before placed after (entered view mid calls asks at checks) more still =
        entered view mid calls asks at (checks_on t.base kind undone mid placed after checks more still)

  pub enters_wider : (shown : S → CallerView → Type 0) (t : PullInfo) (kind other : Call → Type 0) (undone : Type 0) (old : CallerView) (before after : S)
      → ((call : Call) → kind call → other call) → EntersFirst gives shown n t kind undone old before after → EntersFirst gives shown n t other undone old before after
  enters_wider shown t kind other undone old before after wider (not_entered is calls) = not_entered is calls
  enters_wider shown t kind other undone old before after wider (entered view mid calls asks at checks) =
      entered view mid calls asks at (checks_wider t.base kind other undone mid after wider checks)

-- the calls of a commit are of those of a pull, by the plan
pub plan_pull : (most : ℤ) (moment : ℕ) (n : Name) (base : Option FileRecord) (target : FileRecord) (plan : CopyPlan) → IsPlanned most moment n base target plan
    → (call : Call) → IsOfPlace n (copy_of plan) call → IsOfPull n (copy_name n moment base) call
plan_pull most moment n base target NotDue planned call is = place_pull n (copy_name n moment base) call (place_copy n (Some (copy_name n moment base)) call is)
plan_pull most moment n base target (Due None) planned call is = place_pull n (copy_name n moment base) call (place_copy n (Some (copy_name n moment base)) call is)
plan_pull most moment n base target (Due (Some copy)) planned call is = subst (λ q. IsOfPull n q call) planned.1 (place_pull n copy call is)

-- the next block, and those after it
pub drop-next : (bs : List Block) (i : ℕ) (b : Block) → i < length bs → b ≡ get_or bs i b → drop i bs ≡ b ∷ drop (i + 1) bs
drop-next bs i b within is =
    let one : suc i ≡ i + 1 = omega arith in
    drop-cons bs i b within ∙ ap (λ c. c ∷ drop (suc i) bs) (sym is) ∙ ap (λ k. b ∷ drop k bs) one

-- and the rest of a file after it
pub rest_more : (bs : List Block) (i at : ℕ) (b : Block) (file all : List ℕ) (P : Type 0) → HasBlock b (drop at file) → i < length bs → b ≡ get_or bs i b → file ≡ all
    → (P ↔ AreOf (drop i bs) (drop at all)) → P ↔ AreOf (drop (i + 1) bs) (drop (at + b.size) all)
rest_more bs i at b file all P has within is same e =
    rest-decides b (drop (i + 1) bs) at all P (subst (λ l. P ↔ AreOf l (drop at all)) (drop-next bs i b within is) e) (subst (λ f. HasBlock b (drop at f)) same has)

pub block_next : {S : Type 0} (gives : S → (call : Call) → Result (Value call) StoreRefusal → S → Type 0) (n : Name) (old mid new : S) (bs : List Block) (i at : ℕ) (b : Block)
    → ((count : ℕ) × (before bytes : List ℕ) × FillsAll gives n at mid before (Ok count) new bytes × (b.size ≤ count) × HasBlock b bytes)
    → i < length bs → b ≡ get_or bs i b → GivesBlocks gives n old (take i bs) at mid → GivesBlocks gives n old (take (i + 1) bs) (at + b.size) new
block_next gives n old mid new bs i at b given within is so = block_more gives n old mid new bs i at b within is so given
