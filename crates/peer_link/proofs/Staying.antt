-- Folders that a worker was given, as it leaves them.
use Rattle.std.proofs.Common.{◌≡◌, ℕ, Bool, ◌++◌, List, [], ◌∷◌, length, take, drop, refl, sym, ap, subst, ◌∙◌, append-nil}
use Rattle.std.specs.List.{AllZip}
use Rattle.std.proofs.lemmas.List.Elements.{length_all_zip}
use Rattle.folder_calls.specs.Shared.{CallerView, Sees}
use Rattle.file_store.specs.Trees.{Tree}
use Rattle.peer_conn.specs.Turns.{OnlySees}
use Rattle.peer_conn.specs.declared.indexer.IndexerFolder.{IndexerFolder}
use Rattle.peer_server.specs.Answered.{Stays}
use Rattle.peer_server.specs.declared.request.ServerFolder.{ServerFolder}
use Rattle.peer_conn.proofs.Slices.{written_back}

sees_itself : (v : CallerView) → Sees v v
sees_itself v = record { longer = ([], append-nil v.seen); own = refl; same = refl }

module _ {A : Type 0} (R : A → A → Type 0) where
  each_itself : ((x : A) → R x x) → (l : List A) → AllZip R l l
  each_itself r [] = tt
  each_itself r (x ∷ xs) = (r x, each_itself r xs)

  -- they were written through a slice of them
  pub through_slice : (olds slice news : List A) (len : ℕ) → slice ≡ olds → len ≡ length slice → AllZip R slice news → AllZip R olds (take len (news ++ drop (length news) olds))
  through_slice olds slice news len same long each =
      let kept : AllZip R olds news = subst (λ l. AllZip R l news) same each in
      let news_long : length news ≡ length olds = sym (length_all_zip R olds news kept) in
      subst (AllZip R olds) (sym (written_back olds news len news_long (long ∙ ap length same))) kept

module _ {W F : Type 0} (folder : W → F) (view : W → CallerView) where
  pub indexed_itself : (l : List (IndexerFolder W)) → AllZip (OnlySees folder view) l l
  indexed_itself = each_itself (OnlySees folder view) (λ f. record { id = refl; index_id = refl; folder_is = refl; sees = sees_itself (view f.calls) })

module _ {S W F : Type 0} (keeps : Bool) (tree : S → Tree) (folder : W → F) (view : W → CallerView) where
  pub served_itself : (l : List (ServerFolder S W)) → AllZip (Stays keeps tree folder view) l l
  served_itself = each_itself (Stays keeps tree folder view) (λ f. record { folder_is = refl; sees = sees_itself (view f.calls); kept = λ k. refl })
