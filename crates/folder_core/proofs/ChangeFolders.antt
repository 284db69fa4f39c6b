-- Each change of a folder leaves a folder.
use Rattle.std.proofs.Common.{◌≡◌, ◌≢◌, ◌+◌, ◌-◌, ◌^◌, ◌≤◌, Bool, true, false, List, [], ◌∷◌, refl, sym, ap, ◌∙◌, arith, ◌⊎◌, inl, inr}
use Rattle.std.specs.Prelude.{bytes_eq, cond, not, nat_lt, Option, Some, None, option_map, IsTrue}
use Rattle.std.specs.Option.{option_map_or}
use Rattle.std.specs.FinMap.{get, insert, entries, empty, len-entries, len-empty, get-empty}
use Rattle.std.proofs.lemmas.Bool.{leb-false, not-false, and_parts, true≢false}
use Rattle.std.proofs.lemmas.Option.{none-some}
use Rattle.sync_version.proofs.Lemmas.{same_version_tells}
use Rattle.sync_version.specs.Versions.{Vector}
use Rattle.sync_record.specs.Devices.{Identity, bytes_cmp}
use Rattle.sync_record.specs.Records.{Name, FileRecord}
use Rattle.sync_record.specs.Validity.{is_valid}
use Rattle.folder_core.specs.declared.pull_stage.PullStage.TheVariants.{Pulling, Committing}
use Rattle.folder_core.specs.Announced.{Announced, Key, key, key_cmp, announce, without}
use Rattle.folder_core.specs.States.{FolderState, Pull, local, local_version, same_local_version, is_committing, same_stage, open_commits, max_sequence, is_sequence_full, IsFolder}
use Rattle.folder_core.specs.declared.change.Change.{Change}
use Rattle.folder_core.specs.declared.finding.Finding.{Finding}
use Rattle.folder_core.specs.declared.finding.FoundContent.{FoundContent}
use Rattle.folder_core.specs.declared.finding.FoundContent.TheVariants.{Directory as FoundDirectory, File as FoundFile}
use Rattle.folder_core.specs.Steps.{step, is_pull_committing, with_local, without_pull, is_recordable, found_record, committed_record, next_version, next_ticket, MayChange}
use Rattle.folder_core.proofs.Orders.{keys_total, exact_keys, bytes_total, exact_names}
use Rattle.folder_core.proofs.AnnouncedMaps.{insert_split, insert_other, remove_split}
use Rattle.folder_core.proofs.PullCommits.{commits-put, commits-remove, commits-finish, none_counted}
use Rattle.folder_core.proofs.PullOpen.{pull_of-is}
use Rattle.folder_core.proofs.AnnouncedIndexes.{get-announce, get-without, get-without_other, get-index_other}
use Rattle.folder_core.proofs.BestRule.{best-found}
use Rattle.folder_core.proofs.ChangeNumbers.{with_local-numbered, same-numbered}
use Rattle.folder_core.proofs.ChangeCases.{step-cases, found_now, gone_now}

committing : (p : Pull) → p.stage ≡ Committing → is_committing p ≡ true
committing p e = ap (λ st. same_stage st Committing) e

not_pulling : Pulling ≡ Committing → ⊥
not_pulling e = true≢false (sym (ap (λ st. same_stage st Committing) e))

pub same_local : (a b : Option Vector) → same_local_version a b ≡ true → a ≡ b
same_local None None e = refl
same_local None (Some b) e = absurd (true≢false (sym e))
same_local (Some a) None e = absurd (true≢false (sym e))
same_local (Some a) (Some b) e = ap Some ((same_version_tells a b).0 e)

-- a local record that is recorded
module _ (s : FolderState) (old : IsFolder s) (r : FileRecord) (valid : is_valid r ≡ true) where
  abbrev put_here : FileRecord
  put_here = record r { sequence = s.last + 1 }

  local-named : (k : Key) (q : FileRecord) → get (with_local s r).announced k ≡ Some q → q.name ≡ k.name
  local-named k q e = by (insert_split keys_total exact_keys s.announced (key r.name s.me) k put_here q e)
    where
      by : ((k ≡ key r.name s.me) × (put_here ≡ q)) ⊎ (get s.announced k ≡ Some q) → q.name ≡ k.name
      by (inl x) = ap (λ (f : FileRecord). f.name) (sym x.1) ∙ ap (λ (y : Key). y.name) (sym x.0)
      by (inr x) = old.named k q x

  local-valid : (n : Name) (q : FileRecord) → local (with_local s r) n ≡ Some q → is_valid q ≡ true
  local-valid n q e = by (insert_split keys_total exact_keys s.announced (key r.name s.me) (key n s.me) put_here q e)
    where
      by : ((key n s.me ≡ key r.name s.me) × (put_here ≡ q)) ⊎ (get s.announced (key n s.me) ≡ Some q) → is_valid q ≡ true
      by (inl x) = ap is_valid (sym x.1) ∙ valid
      by (inr x) = old.valid n q x

  local-other : (n : Name) → n ≢ r.name → local_version (with_local s r) n ≡ local_version s n
  local-other n other = ap (option_map (λ x. x.version)) (insert_other keys_total exact_keys s.announced (key r.name s.me) (key n s.me) put_here (λ t. other (ap (λ (y : Key). y.name) t)))

  with_local-folder : is_pull_committing s r.name ≡ false → is_sequence_full s ≡ false → IsFolder (with_local s r)
  with_local-folder idle full = record {
    named = local-named;
    valid = local-valid;
    numbered = with_local-numbered s old.numbered r;
    unmoved = λ n p g c. local-other n (λ here. true≢false (sym (committing p c) ∙ ap (λ o. option_map_or is_committing o false) (sym g ∙ ap (get s.pulls) here) ∙ idle)) ∙ old.unmoved n p g c;
    targets = old.targets;
    room = let h = leb-false (max_sequence - s.last) (open_commits s) full in omega arith;
  }

  pub finished-folder : (n : Name) (p : Pull) → get s.pulls n ≡ Some p → is_committing p ≡ true → r.name ≡ n → IsFolder (without_pull (with_local s r) n)
  finished-folder n p g c here = record {
    named = local-named;
    valid = local-valid;
    numbered = let new = with_local-numbered s old.numbered r in record { in_range = new.in_range; distinct = new.distinct };
    unmoved = λ m q f stage. let x = remove_split bytes_total exact_names s.pulls n m q f in local-other m (λ t. x.0 (t ∙ here)) ∙ old.unmoved m q x.1 stage;
    targets = λ m q f. old.targets m q (remove_split bytes_total exact_names s.pulls n m q f).1;
    room = let h = commits-finish s n p g c in let k = old.room in omega arith;
  }

-- what is found makes a valid record
pub found-valid : (s : FolderState) (n : Name) (v : Vector) (f : Finding) (c : FoundContent) → is_recordable c ≡ true → is_valid (found_record s n v (record f { content = c })) ≡ true
found-valid s n v f FoundDirectory e = refl
found-valid s n v f (FoundFile size block_size blocks) e = (and_parts (nat_lt size (2 ^ 63)) _ e).1

pub found-name : (s : FolderState) (n : Name) (v : Vector) (f : Finding) (c : FoundContent) → (found_record s n v (record f { content = c })).name ≡ n
found-name s n v f FoundDirectory = refl
found-name s n v f (FoundFile size block_size blocks) = refl

-- other devices' records
module _ (s : FolderState) (old : IsFolder s) where
  indexed-folder : (a : Announced) → ((k : Key) (r : FileRecord) → get a k ≡ Some r → r.name ≡ k.name) → ((n : Name) → get a (key n s.me) ≡ local s n) → IsFolder (record s { announced = a })
  indexed-folder a named same = record {
    named = named;
    valid = λ n r e. old.valid n r (sym (same n) ∙ e);
    numbered = same-numbered s old.numbered a same;
    unmoved = λ n p g c. ap (option_map (λ x. x.version)) (same n) ∙ old.unmoved n p g c;
    targets = old.targets;
    room = old.room;
  }

  pulls-folder : (n : Name) (p : Pull) → (p.stage ≡ Committing → local_version s n ≡ p.base) → (p.target.name ≡ n) → is_valid p.target ≡ true → s.last + open_commits (record s { pulls = insert s.pulls n p }) ≤ max_sequence → IsFolder (record s { pulls = insert s.pulls n p })
  pulls-folder n p unmoved name valid room = record {
    named = old.named;
    valid = old.valid;
    numbered = record { in_range = old.numbered.in_range; distinct = old.numbered.distinct };
    unmoved = λ m q g c. stays m q c (insert_split bytes_total exact_names s.pulls n m p q g);
    targets = λ m q g. aims m q (insert_split bytes_total exact_names s.pulls n m p q g);
    room = room;
  }
    where
      stays : (m : Name) (q : Pull) → q.stage ≡ Committing → ((m ≡ n) × (p ≡ q)) ⊎ (get s.pulls m ≡ Some q) → local_version s m ≡ q.base
      stays m q c (inl x) = ap (local_version s) x.0 ∙ unmoved (ap (λ (y : Pull). y.stage) x.1 ∙ c) ∙ ap (λ (y : Pull). y.base) x.1
      stays m q c (inr g) = old.unmoved m q g c

      aims : (m : Name) (q : Pull) → ((m ≡ n) × (p ≡ q)) ⊎ (get s.pulls m ≡ Some q) → (q.target.name ≡ m) × IsTrue (is_valid q.target)
      aims m q (inl x) = (ap (λ (y : Pull). y.target.name) (sym x.1) ∙ name ∙ sym x.0, ap (λ (y : Pull). is_valid y.target) (sym x.1) ∙ valid)
      aims m q (inr g) = old.targets m q g

  closed-folder : (n : Name) → IsFolder (without_pull s n)
  closed-folder n = record {
    named = old.named;
    valid = old.valid;
    numbered = record { in_range = old.numbered.in_range; distinct = old.numbered.distinct };
    unmoved = λ m q g. old.unmoved m q (remove_split bytes_total exact_names s.pulls n m q g).1;
    targets = λ m q g. old.targets m q (remove_split bytes_total exact_names s.pulls n m q g).1;
    room = let h = commits-remove s n in let k = old.room in omega arith;
  }

named-announce : (d : Identity) (rs : List FileRecord) (a : Announced) → ((k : Key) (r : FileRecord) → get a k ≡ Some r → r.name ≡ k.name) → (k : Key) (r : FileRecord) → get (announce d rs a) k ≡ Some r → r.name ≡ k.name
named-announce d [] a old k r e = old k r e
named-announce d (q ∷ rs) a old k r e = named-announce d rs (insert a (key q.name d) q) (λ j p f. by j p (insert_split keys_total exact_keys a (key q.name d) j q p f)) k r e
  where
    by : (j : Key) (p : FileRecord) → ((j ≡ key q.name d) × (q ≡ p)) ⊎ (get a j ≡ Some p) → p.name ≡ j.name
    by j p (inl x) = ap (λ (f : FileRecord). f.name) (sym x.1) ∙ ap (λ (y : Key). y.name) (sym x.0)
    by j p (inr x) = old j p x

named-without : (d : Identity) (a : Announced) → ((k : Key) (r : FileRecord) → get a k ≡ Some r → r.name ≡ k.name) → (k : Key) (r : FileRecord) → get (without d a) k ≡ Some r → r.name ≡ k.name
named-without d a old k r e = by (not (bytes_eq k.device d)) (sym (get-without d a k) ∙ e)
  where
    by : (b : Bool) → cond b (get a k) None ≡ Some r → r.name ≡ k.name
    by true f = old k r f
    by false f = absurd (let g : None ≡ Some r = f in cc)

pub step-folder : (s : FolderState) (c : Change) → IsFolder s → MayChange s.me c → IsFolder (step s c).1
step-folder s c old = step-cases s (λ x d. MayChange s.me x → IsFolder d.1) (record {
  tested = λ _ a _ _. old;
  found = λ n expected f moment fail may.
      let r = found_now s n f moment in
      with_local-folder s old r (found-valid s n (next_version s n moment) f f.content may)
      (ap (is_pull_committing s) (found-name s n (next_version s n moment) f f.content) ∙ fail.0) fail.1.1.1.1.0;
  gone = λ n expected moment r is fail _.
      with_local-folder s old (gone_now s n r moment) refl
      (ap (is_pull_committing s) (old.named (key n s.me) r is) ∙ fail.0) fail.1.1.1.1.0;
  full = λ d rs may.
      indexed-folder s old (announce d rs (without d s.announced))
      (named-announce d rs (without d s.announced) (named-without d s.announced old.named))
      (λ n. get-index_other d rs s.announced s.me n may);
  more = λ d rs may.
      indexed-folder s old (announce d rs s.announced) (named-announce d rs s.announced old.named)
      (λ n. get-announce d rs s.announced s.me n may);
  forgotten = λ d may.
      indexed-folder s old (without d s.announced) (named-without d s.announced old.named)
      (λ n. get-without_other d s.announced s.me n may);
  begun = λ n b is fail _.
      let ticket = next_ticket s n b.1 in
      let c = (best-found s.announced n b is).1.candidate in
      let p : Pull = record { number = ticket.number; base = option_map (λ r. r.version) ticket.base; target = b.1; stage = Pulling } in
      pulls-folder s old n p (λ e. absurd (not_pulling e)) (old.named (key n b.0.device) b.1 c.announced) c.valid
      (let h = commits-put s n p in let k = old.room in omega arith);
  entered = λ t p is fail _.
      let open_pull = pull_of-is s t Pulling p is in
      let target = old.targets t.name p open_pull.0 in
      let q : Pull = record p { stage = Committing } in
      pulls-folder s old t.name q
      (λ _. same_local (local_version s t.name) p.base (not-false (same_local_version (local_version s t.name) p.base) fail.0)) target.0 target.1
      (let h = commits-put s t.name q in let k = leb-false (max_sequence - s.last) (open_commits s) fail.1.1.0 in omega arith);
  finished = λ t assembled p is _.
      let open_pull = pull_of-is s t Committing p is in
      let target = old.targets t.name p open_pull.0 in
      finished-folder s old (committed_record p.base p.target) target.1 t.name p open_pull.0 open_pull.1 target.0;
  given_up = λ t p _ _. closed-folder s old t.name;
  aborted = λ t p _ _. closed-folder s old t.name;
}) c

none_there : {A : Type 0} (x : A) (P : Type 0) → None ≡ Some x → P
none_there x P e = absurd (none-some x e)

-- a folder in which nothing is
pub empty-folder : (me : Identity) → IsFolder (record { me = me; announced = empty; last = 0; pulls = empty })
empty-folder me = record {
  named = λ k r e. none_there r _ (sym (get-empty key_cmp k) ∙ e);
  valid = λ n r e. none_there r _ (sym (get-empty key_cmp (key n me)) ∙ e);
  numbered = record {
    in_range = λ n r e. none_there r _ (sym (get-empty key_cmp (key n me)) ∙ e);
    distinct = λ m n q r e f is. none_there q _ (sym (get-empty key_cmp (key m me)) ∙ e);
  };
  unmoved = λ n p g. none_there p _ (sym (get-empty bytes_cmp n) ∙ g);
  targets = λ n p g. none_there p _ (sym (get-empty bytes_cmp n) ∙ g);
  room = let none = none_counted (entries (empty {R = bytes_cmp})) (sym (len-entries empty) ∙ len-empty bytes_cmp Pull) in omega arith;
}
