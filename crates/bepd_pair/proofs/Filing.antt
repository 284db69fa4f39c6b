-- What commands do to a store in memory.
use Rattle.std.proofs.Common.{◌≡◌, inl, inr, ℕ, true, false, cond, List, [], Option, Some, None, Result, Ok, Err, length, refl, sym, ap, ap₂, ◌∙◌, subst}
use Rattle.std.proofs.lemmas.Bool.{true≢false}
use Rattle.std.specs.Prelude.{IsNone, IsSome, unwrap_or}
use Rattle.std.specs.Result.{IsErrAnd}
use Rattle.file_store.specs.Calls.{Commits, IsAllowed, MakesDir, MakeTempRefused, Removes, RemovesDir, Writes, committed, dir_made, removed, stat_of, temp_made, temp_written}
use Rattle.file_store.specs.Contents.{overwritten}
use Rattle.file_store.specs.Maps.{put_at}
use Rattle.file_store.specs.Names.{Name}
use Rattle.file_store.specs.Trees.{Tree, is_directory, is_file, modified_at, or_directory, tree_of, with_parents}
use Rattle.file_store.specs.declared.node.Node.{Node}
use Rattle.file_store.specs.declared.node.Node.TheVariants.{Directory, File}
use Rattle.file_store.specs.declared.node.Stat.{Stat}
use Rattle.file_store.specs.declared.node.Stat.TheVariants as stat
use Rattle.file_store.specs.declared.refusal.StoreRefusal.{StoreRefusal}
use Rattle.file_store.specs.declared.refusal.StoreRefusal.TheVariants.{StoreFault, NotEmpty, BadParent, OutOfMemory}
use Rattle.file_store.proofs.BetweenLemmas.{not_own_parent}
use Rattle.file_store.proofs.LeavesLemmas.{put_read}
use Rattle.file_store.proofs.PutLemmas.{put_here, put_modified, put_twice}
use Rattle.sync_names.specs.Refusal.{refusal}
use Rattle.bepd_pair.specs.Files.{CannotBeRemoved, ChangesFiles, ChangesStore, IsNoPlaceForDirectory, IsNoPlaceForFile, directory_put, file_put}
use Rattle.bepd_pair.specs.Refusals.{refused_store}
use Rattle.bepd_pair.specs.declared.refused.Refused.{Refused}

-- ---- what a refusal that is passed on says

pub passed : {A : Type 0} (P : Result A StoreRefusal → Type 0) (r : Result A StoreRefusal) (e : StoreRefusal) → IsErrAnd r (λ x. x ≡ e) → P (Err e) → P r
passed P (Ok x) e is p = absurd is
passed P (Err f) e is p = subst (λ x. P (Err x)) (sym is) p

refused_as : (n : Name) (unfit : Type 0) (old done new : Tree) (e : StoreRefusal) → refusal n ≡ None → ChangesStore unfit old done (Err e) new
    → ChangesFiles n unfit old done (Err (refused_store e)) new
refused_as n unfit old done new StoreFault safe h = (safe, h.0, h.1)
refused_as n unfit old done new NotEmpty safe h = (safe, h.0, h.1)
refused_as n unfit old done new BadParent safe h = (safe, h.0, h.1)
refused_as n unfit old done new OutOfMemory safe h = tt

refused : (n : Name) (unfit : Type 0) (old done new : Tree) (r : Result (Unit {0}) Refused) (e : StoreRefusal) → IsErrAnd r (λ x. x ≡ refused_store e) → refusal n ≡ None
    → ChangesStore unfit old done (Err e) new → ChangesFiles n unfit old done r new
refused n unfit old done new (Ok x) e is safe h = absurd is
refused n unfit old done new (Err f) e is safe h = subst (λ x. ChangesFiles n unfit old done (Err x) new) (sym is) (refused_as n unfit old done new e safe h)

-- the same of a name that was parsed
pub refused_at : (m n : Name) (unfit : Name → Type 0) (done : Name → Tree) (old new : Tree) (r : Result (Unit {0}) Refused) (e : StoreRefusal) → m ≡ n → refusal n ≡ None → IsErrAnd r (λ x. x ≡ refused_store e)
    → ChangesStore (unfit m) old (done m) (Err e) new → ChangesFiles n (unfit n) old (done n) r new
refused_at m n unfit done old new r e same safe is h =
    refused n (unfit n) old (done n) new r e is safe (subst (λ k. ChangesStore (unfit k) old (done k) (Err e) new) same h)

-- ---- a file

pub written_out : (unfit : Type 0) (old done mid new : Tree) (n : Name) (bytes text : List ℕ) (e : StoreRefusal) → mid.temps n ≡ Some bytes → Writes ⊥ mid n 0 text (Err e) new
    → ChangesStore unfit old done (Err e) new
written_out unfit old done mid new n bytes text OutOfMemory there h = tt
written_out unfit old done mid new n bytes text StoreFault there (inl h) = absurd (true≢false (subst IsNone there h.0))
written_out unfit old done mid new n bytes text StoreFault there (inr h) = absurd h.0
written_out unfit old done mid new n bytes text NotEmpty there (inl h) = absurd h.0
written_out unfit old done mid new n bytes text NotEmpty there (inr h) = absurd h.0
written_out unfit old done mid new n bytes text BadParent there (inl h) = absurd h.0
written_out unfit old done mid new n bytes text BadParent there (inr h) = absurd h.0

pub committed_out : (unfit : Type 0) (old done mid new : Tree) (n : Name) (bytes : List ℕ) (e : StoreRefusal) → mid.temps n ≡ Some bytes → is_directory (mid.names n) ≡ false → Commits ⊥ mid n (Err e) new
    → ChangesStore unfit old done (Err e) new
committed_out unfit old done mid new n bytes OutOfMemory there free h = tt
committed_out unfit old done mid new n bytes StoreFault there free (m, inl (inl none, same)) = absurd (true≢false (subst IsNone there none))
committed_out unfit old done mid new n bytes StoreFault there free (m, inl (inr is, same)) = absurd (true≢false (sym is ∙ free))
committed_out unfit old done mid new n bytes StoreFault there free (m, inr h) = absurd h.0
committed_out unfit old done mid new n bytes NotEmpty there free (m, inl h) = absurd h.0
committed_out unfit old done mid new n bytes NotEmpty there free (m, inr h) = absurd h.0
committed_out unfit old done mid new n bytes BadParent there free (m, inl h) = absurd h.0
committed_out unfit old done mid new n bytes BadParent there free (m, inr h) = absurd h.0

-- the temporary file that was made and written
pub temp_there : (old mid : Tree) (n : Name) → mid ≡ temp_made old n → mid.temps n ≡ Some []
temp_there old mid n e = ap (λ (t : Tree). t.temps n) e ∙ put_here n (Some []) old.temps

pub written_there : (mid new : Tree) (n : Name) (text : List ℕ) → new ≡ temp_written mid n 0 text → new.temps n ≡ Some (overwritten (unwrap_or (mid.temps n) []) 0 text)
written_there mid new n text e = ap (λ (t : Tree). t.temps n) e ∙ put_here n (Some (overwritten (unwrap_or (mid.temps n) []) 0 text)) mid.temps

-- where no directory was, none was made at the name itself
parents_free : (f : Name → Option Node) (n : Name) → is_directory (f n) ≡ false → is_directory (with_parents n f n) ≡ false
parents_free f n free = ap (λ b. is_directory (cond b (or_directory (f n)) (f n))) (not_own_parent n) ∙ free

pub written_free : (old mid new : Tree) (n : Name) (text : List ℕ) → is_directory (old.names n) ≡ false → mid ≡ temp_made old n → new ≡ temp_written mid n 0 text → is_directory (new.names n) ≡ false
written_free old mid new n text free e f =
    ap (λ (t : Tree). is_directory (t.names n)) f ∙ ap (λ (t : Tree). is_directory (t.names n)) e ∙ parents_free old.names n free

pub no_place : (old : Tree) (n : Name) → is_directory (old.names n) ≡ false → IsAllowed (MakeTempRefused old n) → IsNoPlaceForFile old n → ⊥
no_place old n free allowed (inl there) = true≢false (sym there ∙ free)
no_place old n free allowed (inr bad) = allowed.parents bad

pub put_whole : (old a b d : Tree) (n : Name) (text : List ℕ) (m moment : ℕ) → a ≡ temp_made old n → b ≡ temp_written a n 0 text → d ≡ committed b n m
    → tree_of (modified_at n moment d.names) d.temps ≡ file_put old n text moment
put_whole old a b d n text m moment ea eb ed =
    let above = with_parents n old.names in
    let done : Tree = committed (temp_written (temp_made old n) n 0 text) n m in
    let is : d ≡ done = ed ∙ ap (λ (t : Tree). committed t n m) (eb ∙ ap (λ (t : Tree). temp_written t n 0 text) ea) in
    let there : done.names n ≡ Some (File text m) = put_read old n text m in
    let names : done.names ≡ put_at n (Some (File text m)) above = ap (λ v. put_at n v above) (sym (put_here n _ above) ∙ there) in
    let modified : put_at n (Some (File text moment)) done.names ≡ modified_at n moment done.names =
    put_modified n moment done.names (put_at n (Some (File text moment)) done.names) (File text m) (File text moment) refl refl there in
    let put : put_at n (Some (File text moment)) done.names ≡ put_at n (Some (File text moment)) above =
    ap (put_at n (Some (File text moment))) names ∙ put_twice n (Some (File text moment)) (Some (File text m)) above in
    let temps : done.temps ≡ put_at n None old.temps = put_twice n None _ _ ∙ put_twice n None (Some []) old.temps in
    ap (λ (t : Tree). tree_of (modified_at n moment t.names) t.temps) is ∙ ap₂ tree_of (sym modified ∙ put) temps

-- ---- what is there

-- what `stat` answered
abbrev pub IsStat : Stat → Option Node → Type 0
IsStat s o = let r : Result Stat StoreRefusal = Ok s in r ≡ Ok (stat_of o)

stat_is : (s : Stat) (o : Option Node) → IsStat s o → s ≡ stat_of o
stat_is s o e = cc

pub no_directory : (o : Option Node) (s : Stat) → IsStat s o → (s ≡ stat.Directory → ⊥) → is_directory o ≡ false
no_directory None s e not = refl
no_directory (Some Directory) s e not = absurd (not (stat_is s (Some Directory) e))
no_directory (Some (File bytes m)) s e not = refl

missing_not : stat.Missing ≡ stat.Directory → ⊥
missing_not e = cc

file_not : (k m : ℕ) → stat.File k m ≡ stat.Directory → ⊥
file_not k m e = cc

pub a_directory : (o : Option Node) (s : Stat) → IsStat s o → s ≡ stat.Directory → is_directory o ≡ true
a_directory None s e is = absurd (missing_not (sym (stat_is s None e) ∙ is))
a_directory (Some Directory) s e is = refl
a_directory (Some (File bytes m)) s e is = absurd (file_not (length bytes) m (sym (stat_is s (Some (File bytes m)) e) ∙ is))

-- a store whose tree is the same
pub from_same : (unfit : Tree → Type 0) (done : Tree → Tree) (old mid new : Tree) (r : Result (Unit {0}) StoreRefusal) → mid ≡ old → ChangesStore (unfit mid) mid (done mid) r new → ChangesStore (unfit old) old (done old) r new
from_same unfit done old mid new r e h = subst (λ t. ChangesStore (unfit t) t (done t) r new) e h

-- ---- a directory

is_there : (o : Option Node) → IsSome o → is_directory o ≡ false → is_file o ≡ true
is_there None s free = s
is_there (Some Directory) s free = absurd (true≢false free)
is_there (Some (File bytes m)) s free = refl

file_there : (o : Option Node) → is_file o ≡ true → IsSome o
file_there None h = h
file_there (Some Directory) h = refl
file_there (Some (File bytes m)) h = refl

pub directory_made : (old new : Tree) (n : Name) (r : Result (Unit {0}) StoreRefusal) → is_directory (old.names n) ≡ false → MakesDir ⊥ old n r new
    → ChangesStore (IsNoPlaceForDirectory old n) old (directory_put old n) r new
directory_made old new n (Ok x) free h = (
  λ unfit. elim unfit [ inl file ↦ h.0.fault (file_there (old.names n) file) | inr bad ↦ h.0.parents bad ],
  h.1 ∙ ap (λ b. cond b old (dir_made old n)) (sym free),
)
directory_made old new n (Err StoreFault) free (inl h) = (inl (is_there (old.names n) h.0 free), h.1)
directory_made old new n (Err StoreFault) free (inr h) = absurd h.0
directory_made old new n (Err NotEmpty) free (inl h) = absurd h.0
directory_made old new n (Err NotEmpty) free (inr h) = absurd h.0
directory_made old new n (Err BadParent) free (inl h) = (inr h.0, h.1)
directory_made old new n (Err BadParent) free (inr h) = absurd h.0
directory_made old new n (Err OutOfMemory) free h = tt

-- ---- what is removed

nothing_there : (o : Option Node) → is_file o ≡ false → is_directory o ≡ false → IsNone o
nothing_there None file free = refl
nothing_there (Some Directory) file free = free
nothing_there (Some (File bytes m)) file free = file

none_no_file : (o : Option Node) → IsNone o → is_file o ≡ false
none_no_file None h = refl
none_no_file (Some x) h = absurd (true≢false h)

none_no_directory : (o : Option Node) → IsNone o → is_directory o ≡ false
none_no_directory None h = refl
none_no_directory (Some x) h = absurd (true≢false h)

pub file_removed : (old new : Tree) (n : Name) (r : Result (Unit {0}) StoreRefusal) → is_directory (old.names n) ≡ false → Removes ⊥ old n r new
    → ChangesStore (CannotBeRemoved old n) old (removed old n) r new
file_removed old new n (Ok x) free h = (
  λ unfit. elim unfit [
    | inl none ↦ h.0.fault (none_no_file (old.names n) none)
    | inr full ↦ true≢false (sym full.0 ∙ free)
  ],
  h.1,
)
file_removed old new n (Err StoreFault) free (inl h) = (inl (nothing_there (old.names n) h.0 free), h.1)
file_removed old new n (Err StoreFault) free (inr h) = absurd h.0
file_removed old new n (Err NotEmpty) free (inl h) = absurd h.0
file_removed old new n (Err NotEmpty) free (inr h) = absurd h.0
file_removed old new n (Err BadParent) free (inl h) = absurd h.0
file_removed old new n (Err BadParent) free (inr h) = absurd h.0
file_removed old new n (Err OutOfMemory) free h = tt

pub directory_removed : (old new : Tree) (n : Name) (r : Result (Unit {0}) StoreRefusal) → is_directory (old.names n) ≡ true → RemovesDir ⊥ old n r new
    → ChangesStore (CannotBeRemoved old n) old (removed old n) r new
directory_removed old new n (Ok x) there h = (
  λ unfit. elim unfit [
    | inl none ↦ true≢false (sym there ∙ none_no_directory (old.names n) none)
    | inr full ↦ h.0.empty full
  ],
  h.1,
)
directory_removed old new n (Err StoreFault) there (inl h) = absurd (true≢false (sym there ∙ h.0))
directory_removed old new n (Err StoreFault) there (inr h) = absurd h.0
directory_removed old new n (Err NotEmpty) there (inl h) = (inr h.0, h.1)
directory_removed old new n (Err NotEmpty) there (inr h) = absurd h.0
directory_removed old new n (Err BadParent) there (inl h) = absurd h.0
directory_removed old new n (Err BadParent) there (inr h) = absurd h.0
directory_removed old new n (Err OutOfMemory) there h = tt
