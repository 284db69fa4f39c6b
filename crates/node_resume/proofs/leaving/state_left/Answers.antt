use Rattle.std.proofs.Common.{rules, ◌≡◌, ◌∙◌, ℕ, ◌<◌, ◌≤◌, ◌++◌, ◌∷◌, [], List, append_assoc, length, get_or, map, refl, sym, ap, arith}
use Rattle.std.proofs.lemmas.List.{get_or_default, length-map, map-append}
use Rattle.folder_core.specs.States.{FolderState}
use Rattle.folder_db.specs.declared.folder.IndexedFolder.{IndexedFolder}
use Rattle.node_config.specs.declared.config.FolderConfig.{FolderConfig}
use Rattle.node_state.specs.declared.state.StoredFolder.{StoredFolder}
use Rattle.node_state.specs.Peers.{Peers}
use Rattle.node_resume.specs.declared.shares.Share.{Share}
use Rattle.node_resume.specs.Left.{folders_left, peers_left, stored_at}
use Rattle.node_resume.proofs.Listed.{all-none, all-push, comes-below, place-of}
use Rattle.node_resume.proofs.leaving.state_left.Goals as goal

pub loop-folder-init : goal.loop-folder-init
loop-folder-init c = record {
  stored = c.new-folders.ensures ∙ sym (all-none (stored_at c.args.config.now (map (λ s. s.items) c.args.shares.now) (map (λ k. k.items) c.args.kept.now)) c.args.config.now.folders c.args.index_ids.now);
  divided = sym c.into_iter-folder-iterator.ensures.into_iter_gives.0;
}

pub bounds-as_slice-place : goal.bounds-as_slice-place
bounds-as_slice-place c =
    let xs : List FolderConfig = c.args.config.now.folders in
    let ys : List ℕ = c.args.index_ids.now in
    let zs : List FolderState = map (λ r. r.folder) c.loop-folder.yielded in
    let step : c.loop-folder.folder-iterator.rest.items ≡ c.in-Some.folder ∷ c.next.new.self.rest.items = search rules in
    let below = comes-below c.args.records.items c.loop-folder.yielded c.in-Some.folder c.next.new.self.rest.items (c.loop-folder.invariant.divided ∙ ap (λ l. c.loop-folder.yielded ++ l) step) in
    let ids = c.requires.index_ids in
    let all = c.requires.records in
    let came : length zs ≡ length c.loop-folder.yielded = length-map c.loop-folder.yielded (λ r. r.folder) in
    let count = place-of (stored_at c.args.config.now (map (λ s. s.items) c.args.shares.now) (map (λ k. k.items) c.args.kept.now)) xs ys zs c.loop-folder.folders c.loop-folder.invariant.stored (omega arith) (omega arith) in
    let a : length c.as_slice-place.result.now ≡ length c.loop-folder.folders = ap length c.as_slice-place.ensures in
    let b : length c.as_slice-in-loop-folder.result.now ≡ length xs = ap length c.as_slice-in-loop-folder.ensures in
    omega arith

pub bounds-index_ids-place : goal.bounds-index_ids-place
bounds-index_ids-place c =
    let xs : List FolderConfig = c.args.config.now.folders in
    let ys : List ℕ = c.args.index_ids.now in
    let zs : List FolderState = map (λ r. r.folder) c.loop-folder.yielded in
    let step : c.loop-folder.folder-iterator.rest.items ≡ c.in-Some.folder ∷ c.next.new.self.rest.items = search rules in
    let below = comes-below c.args.records.items c.loop-folder.yielded c.in-Some.folder c.next.new.self.rest.items (c.loop-folder.invariant.divided ∙ ap (λ l. c.loop-folder.yielded ++ l) step) in
    let ids = c.requires.index_ids in
    let all = c.requires.records in
    let came : length zs ≡ length c.loop-folder.yielded = length-map c.loop-folder.yielded (λ r. r.folder) in
    let count = place-of (stored_at c.args.config.now (map (λ s. s.items) c.args.shares.now) (map (λ k. k.items) c.args.kept.now)) xs ys zs c.loop-folder.folders c.loop-folder.invariant.stored (omega arith) (omega arith) in
    let a : length c.as_slice-place.result.now ≡ length c.loop-folder.folders = ap length c.as_slice-place.ensures in
    omega arith

pub loop-folder-preserved : goal.loop-folder-preserved
loop-folder-preserved c =
    let xs : List FolderConfig = c.args.config.now.folders in
    let ys : List ℕ = c.args.index_ids.now in
    let zs : List FolderState = map (λ r. r.folder) c.loop-folder.yielded in
    let shares : List (List Share) = map (λ s. s.items) c.args.shares.now in
    let kept : List (List ℕ) = map (λ k. k.items) c.args.kept.now in
    let step : c.loop-folder.folder-iterator.rest.items ≡ c.in-Some.folder ∷ c.next.new.self.rest.items = search rules in
    let below = comes-below c.args.records.items c.loop-folder.yielded c.in-Some.folder c.next.new.self.rest.items (c.loop-folder.invariant.divided ∙ ap (λ l. c.loop-folder.yielded ++ l) step) in
    let ids = c.requires.index_ids in
    let all = c.requires.records in
    let came : length zs ≡ length c.loop-folder.yielded = length-map c.loop-folder.yielded (λ r. r.folder) in
    let count = place-of (stored_at c.args.config.now shares kept) xs ys zs c.loop-folder.folders c.loop-folder.invariant.stored (omega arith) (omega arith) in
    let place : length c.as_slice-place.result.now ≡ length zs = ap length c.as_slice-place.ensures ∙ count in
    let lx : length zs < length xs = omega arith in
    let ly : length zs < length ys = omega arith in
    let x : FolderConfig = c.index-as_slice-place.result in
    let y : ℕ = get_or ys (length zs) 0 in
    let z : FolderState = c.in-Some.folder.folder in
    let ex : x ≡ get_or xs (length zs) x = c.index-as_slice-place.is ∙ (λ j. get_or (c.as_slice-in-loop-folder.ensures j) (place j) x) in
    let ey : y ≡ get_or ys (length zs) y = get_or_default ys (length zs) 0 y ly in
    let at = stored_at c.args.config.now shares kept in
    let made : ℕ → Peers → StoredFolder = λ n p. record { id = x.id; index_id = n; folder = z; peers = p } in
    let peers : c.in_ok-peers.peers ≡ peers_left (length zs) c.args.config.now.peers shares kept =
    c.in_ok-peers.ensures ∙ (λ j. peers_left (place j) (c.as_slice.ensures j) shares kept) in
    let same : c.in_ok-folder_left.field-0 ≡ at (length zs, (x, (y, z))) =
    c.in_ok-folder_left.ensures ∙ (λ j. made (get_or ys (place j) 0) (peers j)) in
    record {
      stored =
          c.in_ok-push.ensures.ok ∙ (λ j. c.loop-folder.invariant.stored j ++ same j ∷ [])
          ∙ sym (all-push at xs ys zs x y z lx ly ex ey)
          ∙ ap (λ (l : List FolderState). folders_left c.args.config.now ys shares l kept) (sym (map-append (λ (r : IndexedFolder). r.folder) c.loop-folder.yielded (c.in-Some.folder ∷ [])));
      divided =
          c.loop-folder.invariant.divided ∙ ap (λ l. c.loop-folder.yielded ++ l) step
          ∙ sym (append_assoc c.loop-folder.yielded (c.in-Some.folder ∷ []) c.next.new.self.rest.items);
    }
