-- What is stored under an id, and what a run takes over of it.
use Rattle.std.proofs.Common.{◌≡◌, ℕ, Bool, true, false, List, length, refl, sym, ap, subst, ◌∙◌, inl, inr}
use Rattle.std.specs.Prelude.{◌==◌, ◌||◌, ◌&&◌, ◌⊎◌, bytes_eq, cond, Option, Some, None}
use Rattle.std.specs.FinMap.{empty, get, get-empty, get-retain_keys}
use Rattle.std.specs.List.{enumerate_from}
use Rattle.std.proofs.lemmas.Bool.{and_from, and_parts, eqb-true, eq-eqb, false_from_ne_true, or_cases}
use Rattle.std.proofs.lemmas.List.{length-map}
use Rattle.std.proofs.lemmas.List.FromFn.{length-enumerate_from}
use Rattle.sync_record.specs.Devices.{Identity}
use Rattle.sync_record.specs.Records.{FileRecord, Name}
use Rattle.folder_core.specs.Announced.{Key, key, key_cmp}
use Rattle.folder_core.specs.States.{FolderState}
use Rattle.folder_core.proofs.ListTests.{In, alike_bytes, any_in, contains_in, in_any, in_contains, same_bytes}
use Rattle.folder_core.proofs.Orders.{exact_keys}
use Rattle.node_config.specs.declared.config.Config.{Config}
use Rattle.node_config.specs.declared.config.FolderConfig.{FolderConfig}
use Rattle.node_config.specs.declared.config.PeerConfig.{PeerConfig}
use Rattle.node_resume.specs.Resumed.{Resumed, has_place, is_kept, is_shared_with, resumed_all, resumed_from, shared_records, stored_of}
use Rattle.node_state.specs.declared.state.State.{State}
use Rattle.node_state.specs.declared.state.StoredFolder.{StoredFolder}
use Rattle.proof_node.specs.Takeovers.{IsSharedWith, IsStoredNowhere, IsStoredUnder, IsTakenOver}
use Rattle.proof_node.proofs.Places.{both-at, find-first, find-none, map-at, none-there, place-at}

-- ---- under an id

pub stored-under : (id : List ℕ) (fs : List StoredFolder) (f : StoredFolder) → IsStoredUnder id fs f → stored_of id fs ≡ Some f
stored-under id fs f h =
    find-first (λ (g : StoredFolder). bytes_eq g.id id) fs h.0 f h.1.at (alike_bytes f.id id h.1.is)
    (λ j g lt at. false_from_ne_true (bytes_eq g.id id) (λ t. h.1.first j g lt at (same_bytes g.id id t)))

pub stored-nowhere : (id : List ℕ) (fs : List StoredFolder) → IsStoredNowhere id fs → stored_of id fs ≡ None
stored-nowhere id fs h =
    find-none (λ (g : StoredFolder). bytes_eq g.id id) fs
    (λ i g at. false_from_ne_true (bytes_eq g.id id) (λ t. h i g at (same_bytes g.id id t)))

-- ---- at a place

module _ (config : Config) (state : State) (new : ℕ) (is_left : Bool) where
  abbrev at : ℕ × FolderConfig → Resumed
  at f = resumed_from config new is_left f.0 (stored_of f.1.id state.folders)

  pub counted : length (resumed_all config state new is_left) ≡ length config.folders
  counted = length-map (enumerate_from 0 config.folders) at ∙ length-enumerate_from 0 config.folders

  module _ (place : ℕ) (c : FolderConfig) (r : Resumed) (is : IsTakenOver config state new is_left place c r) where
    pub came : r ≡ resumed_from config new is_left place (stored_of c.id state.folders)
    came = both-at _ r _ is.taken (map-at at (enumerate_from 0 config.folders) place (place, c) (place-at config.folders place c is.configured))

    pub came-stored : (f : StoredFolder) → IsStoredUnder c.id state.folders f → r ≡ resumed_from config new is_left place (Some f)
    came-stored f h = came ∙ ap (resumed_from config new is_left place) (stored-under c.id state.folders f h)

    pub came-new : IsStoredNowhere c.id state.folders → r ≡ resumed_from config new is_left place None
    came-new h = came ∙ ap (resumed_from config new is_left place) (stored-nowhere c.id state.folders h)

-- ---- the records

shared-test : (config : Config) (place : ℕ) (d : Identity) → IsSharedWith config place d → is_shared_with config place d ≡ true
shared-test config place d h =
    in_any (λ (p : PeerConfig). bytes_eq p.device d && has_place place p) config.peers h.0 (contains_in config.peers h.0 h.1)
    (and_from _ _ (alike_bytes h.0.device d h.2) (in_any (λ q. q == place) h.0.folders place (contains_in h.0.folders place h.3) (eq-eqb place place refl)))

test-shared : (config : Config) (place : ℕ) (d : Identity) → is_shared_with config place d ≡ true → IsSharedWith config place d
test-shared config place d t =
    let p = any_in (λ (p : PeerConfig). bytes_eq p.device d && has_place place p) config.peers t in
    let both = and_parts (bytes_eq p.0.device d) (has_place place p.0) p.2 in
    let q = any_in (λ q. q == place) p.0.folders both.1 in (
      p.0,
      in_contains config.peers p.0 p.1,
      same_bytes p.0.device d both.0,
      in_contains p.0.folders place (subst (λ n. In n p.0.folders) (eqb-true q.0 place q.2) q.1),
    )

or-true : (b : Bool) → (b || true) ≡ true
or-true true = refl
or-true false = refl

kept-test : (config : Config) (place : ℕ) (me d : Identity) → (d ≡ me) ⊎ IsSharedWith config place d → is_kept config place me d ≡ true
kept-test config place me d (inl s) = ap (λ b. b || is_shared_with config place d) (alike_bytes d me s)
kept-test config place me d (inr h) = ap (λ b. bytes_eq d me || b) (shared-test config place d h) ∙ or-true (bytes_eq d me)

test-kept : (config : Config) (place : ℕ) (me d : Identity) → is_kept config place me d ≡ true → (d ≡ me) ⊎ IsSharedWith config place d
test-kept config place me d t = by (or_cases (bytes_eq d me) (is_shared_with config place d) t)
  where
    by : (bytes_eq d me ≡ true) ⊎ (is_shared_with config place d ≡ true) → (d ≡ me) ⊎ IsSharedWith config place d
    by (inl s) = inl (same_bytes d me s)
    by (inr h) = inr (test-shared config place d h)

module _ (config : Config) (place : ℕ) (s : FolderState) where
  read : (n : Name) (d : Identity) → get (shared_records config place s).announced (key n d) ≡ cond (is_kept config place s.me d) (get s.announced (key n d)) None
  read n d = get-retain_keys s.announced (λ k. is_kept config place s.me k.device) (key n d) (λ x t. ap (λ (k : Key). is_kept config place s.me k.device) (sym (exact_keys (key n d) x t)))

  pub shared-stay : (n : Name) (d : Identity) → (d ≡ s.me) ⊎ IsSharedWith config place d → get (shared_records config place s).announced (key n d) ≡ get s.announced (key n d)
  shared-stay n d h = read n d ∙ ap (λ b. cond b (get s.announced (key n d)) None) (kept-test config place s.me d h)

  pub shared-only : (n : Name) (d : Identity) (q : FileRecord) → get (shared_records config place s).announced (key n d) ≡ Some q → (d ≡ s.me) ⊎ IsSharedWith config place d
  shared-only n d q e =
      test-kept config place s.me d
      (elim (is_kept config place s.me d) as (λ b. cond b (get s.announced (key n d)) None ≡ Some q → b ≡ true) [ true ↦ λ e. refl | false ↦ λ e. none-there q e ] (sym (read n d) ∙ e))

module _ (config : Config) (new : ℕ) (is_left : Bool) (place : ℕ) where
  pub no-pulls : (o : Option StoredFolder) → (resumed_from config new is_left place o).folder.pulls ≡ empty
  no-pulls None = refl
  no-pulls (Some f) = refl

  pub only-shared : (o : Option StoredFolder) (n : Name) (d : Identity) (q : FileRecord) → get (resumed_from config new is_left place o).folder.announced (key n d) ≡ Some q
      → (d ≡ (resumed_from config new is_left place o).folder.me) ⊎ IsSharedWith config place d
  only-shared None n d q e = none-there q (sym (get-empty key_cmp (key n d)) ∙ e)
  only-shared (Some f) n d q e = shared-only config place f.folder n d q e

pub new-number : (config : Config) (new place : ℕ) (o : Option StoredFolder) → (resumed_from config new true place o).index_id ≡ new
new-number config new place None = refl
new-number config new place (Some f) = refl
