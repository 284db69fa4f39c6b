-- A text has one meaning, and one of version 1 that of version 2 without peers.
use Rattle.std.proofs.Common.{◌≡◌, ◌≢◌, ◌++◌, ◌<◌, ℕ, List, [], ◌∷◌, map, refl, sym, ap, subst, ◌∙◌, arith}
use Rattle.std.specs.FinMap.{empty, entries, from_entries, get-entries, get-from_entries, same_map}
use Rattle.std.specs.List.{AllByRecursion}
use Rattle.std.specs.Prelude.{cond, filter, not}
use Rattle.std.proofs.lemmas.Bool.{ne_eqb}
use Rattle.folder_core.proofs.Orders.{bytes_total, exact_names}
use Rattle.folder_core.proofs.ReadLists.{Apart}
use Rattle.folder_core.proofs.RestoreFolders.{apart-pairs_by, pairs-apart_by}
use Rattle.sync_record.specs.Devices.{Identity}
use Rattle.node_state.specs.declared.edition.Edition.TheVariants.{First, Second}
use Rattle.node_state.specs.declared.state.State.{State}
use Rattle.node_state.specs.declared.state.StoredFolder.{StoredFolder}
use Rattle.node_state.specs.Meaning.{IsClosed, Means, stored, without_peers, written_folder, written_state}
use Rattle.node_state.specs.Peers.{Peers, is_kept}
use Rattle.node_state.specs.Reading.{AreOnce, IsGoodFolder, folder_told, held}
use Rattle.node_state.specs.Written.{first_line, kept_peers, second_line}
use Rattle.node_state.proofs.Parts.{good-of, parts-of}
use Rattle.node_state.proofs.States.{folders, id_of, ids, meant, meant-is, means}

pub one : (me : Identity) (text : List ℕ) (s t : State) → Means me text s → Means me text t → s ≡ t
one me text s t m n =
    let is = meant-is me n.edition n.body text s n.begins m in
    let same : s.folders ≡ t.folders = is ∙ sym (meant-is me n.edition n.body text t n.begins n) in
    ap (λ (fs : List StoredFolder). let r : State = record { folders = fs } in r) same

none_in : (me : Identity) (bs : List (List ℕ)) → AllByRecursion (λ (f : StoredFolder). f.peers ≡ empty) (map (λ b. stored me (folder_told First b)) bs)
none_in me [] = tt
none_in me (b ∷ bs) = (refl, none_in me bs)

pub none-kept : (me : Identity) (body : List ℕ) (s : State) → Means me (first_line ++ body) s → AllByRecursion (λ f. f.peers ≡ empty) s.folders
none-kept me body s m =
    subst (λ (fs : List StoredFolder). AllByRecursion (λ f. f.peers ≡ empty) fs) (sym (meant-is me First body (first_line ++ body) s refl m)) (none_in me (held 1 body))

no_pairs : AreOnce []
no_pairs i j d before below = absurd (let none : j < 0 = below in omega arith)

good-first : (me : Identity) (bs : List (List ℕ)) → AllByRecursion (IsGoodFolder me Second) bs → AllByRecursion (IsGoodFolder me First) bs
good-first me [] good = tt
good-first me (b ∷ bs) good =
    let p = parts-of me Second b good.0 in
    (good-of me First b (record { front = p.front; index_id = p.index_id; entries = p.entries; restores = p.restores; peers = tt; once = no_pairs }), good-first me bs good.1)

same-ids : (me : Identity) (bs : List (List ℕ)) → ids (map (λ b. stored me (folder_told Second b)) bs) ≡ ids (map (λ b. stored me (folder_told First b)) bs)
same-ids me [] = refl
same-ids me (b ∷ bs) = ap (λ (l : List (List ℕ)). (folder_told First b).id ∷ l) (same-ids me bs)

same-folders : (me : Identity) (bs : List (List ℕ)) → map without_peers (map (λ b. stored me (folder_told Second b)) bs) ≡ map (λ b. stored me (folder_told First b)) bs
same-folders me [] = refl
same-folders me (b ∷ bs) = ap (λ (l : List StoredFolder). stored me (folder_told First b) ∷ l) (same-folders me bs)

pub as-first : (me : Identity) (body : List ℕ) (s : State) → Means me (second_line ++ body) s → Means me (first_line ++ body) (record { folders = map without_peers s.folders })
as-first me body s m =
    let r = meant me Second body (second_line ++ body) s refl m in
    means me First body (first_line ++ body) (record { folders = map without_peers s.folders }) refl r.ended (good-first me (held 1 body) r.good)
    (apart-pairs_by id_of (folders me First body) (subst Apart (same-ids me (held 1 body)) (pairs-apart_by id_of (folders me Second body) r.once)))
    (ap (map without_peers) (meant-is me Second body (second_line ++ body) s refl m) ∙ same-folders me (held 1 body))

-- ---- a closed state

kept-all : (ps : List (Identity × ℕ)) → AllByRecursion (λ p. p.1 ≢ 0) ps → filter is_kept ps ≡ ps
kept-all [] all = refl
kept-all (p ∷ ps) all =
    ap (λ b. cond b (p ∷ filter is_kept ps) (filter is_kept ps)) (ap not (ne_eqb p.1 0 all.0)) ∙ ap (λ (l : List (Identity × ℕ)). p ∷ l) (kept-all ps all.1)

entries-again : (m : Peers) → from_entries (entries m) ≡ m
entries-again m = same_map bytes_total exact_names _ _ (λ q. get-from_entries bytes_total (entries m) q ∙ sym (get-entries m q))

closed-folder : (f : StoredFolder) → IsClosed f → written_folder f ≡ f
closed-folder f closed =
    let peers : from_entries (kept_peers f.peers) ≡ f.peers = ap (λ ps. from_entries ps) (kept-all (entries f.peers) closed.peers) ∙ entries-again f.peers in
    λ i. record f { folder = record f.folder { pulls = sym closed.pulls i }; peers = peers i }

closed-folders : (fs : List StoredFolder) → AllByRecursion IsClosed fs → map written_folder fs ≡ fs
closed-folders [] closed = refl
closed-folders (f ∷ fs) closed = let first = closed-folder f closed.0 in let rest = closed-folders fs closed.1 in λ i. first i ∷ rest i

pub closed-state : (s : State) → AllByRecursion IsClosed s.folders → written_state s ≡ s
closed-state s closed = ap (λ (fs : List StoredFolder). let r : State = record { folders = fs } in r) (closed-folders s.folders closed)
