-- Plans that change nothing.
use Rattle.std.proofs.Common.{◌≡◌, ◌+◌, Bool, true, false, [], refl, sym, ap, ◌∙◌}
use Rattle.std.specs.Prelude.{◌&&◌, Option, Some, None, option_map, unwrap_or, if◌then◌else◌}
use Rattle.std.proofs.lemmas.Bool.{false_from_ne_true, true≢false}
use Rattle.sync_record.specs.Records.{FileRecord}
use Rattle.sync_version.specs.Computed.{covers, merge, same_version}
use Rattle.sync_version.specs.Versions.{IsCanonical, Vector}
use Rattle.sync_version.proofs.Lemmas.{merge_right, same_version_tells}
use Rattle.folder_core.specs.Announced.{key}
use Rattle.folder_core.specs.States.{FolderState, local_version, same_local_version}
use Rattle.folder_core.specs.Steps.{committed_record, with_local}
use Rattle.folder_core.proofs.AnnouncedMaps.{insert_here}
use Rattle.folder_core.proofs.Orders.{exact_keys, keys_total}
use Rattle.node_replay.specs.declared.plan.PullPlan.{PullPlan}
use Rattle.node_replay.specs.Settled.{HasNews, is_open, settled}

not-chosen : (a b : Bool) (s t : FolderState) → b ≡ false → (if a && b then t else s) ≡ s
not-chosen true b s t e = ap (λ (x : Bool). if x then t else s) e
not-chosen false b s t e = refl

-- a plan that isn't open changes nothing
pub void : (s : FolderState) (p : PullPlan) (stands : Bool) → is_open s p ≡ false → settled s (p, stands) ≡ s
void s p stands e = not-chosen stands (is_open s p) s (with_local s (committed_record p.base p.target)) e

-- a version that had not seen another one isn't that of both
apart : (a b : Vector) → IsCanonical a → IsCanonical b → covers a b ≡ false → same_version (merge a b) a ≡ false
apart a b p q e = false_from_ne_true (same_version (merge a b) a) (λ t.
    true≢false (sym (merge_right a b p q) ∙ ap (λ v. covers v b) ((same_version_tells (merge a b) a).0 t) ∙ e))

module _ (s : FolderState) (p : PullPlan) (news : HasNews p) where
  abbrev after : FolderState
  after = with_local s (committed_record p.base p.target)

  version-after : local_version after p.target.name ≡ Some (merge (unwrap_or p.base []) p.target.version)
  version-after =
      ap (option_map (λ (r : FileRecord). r.version))
      (insert_here keys_total exact_keys s.announced (key p.target.name s.me) (record (committed_record p.base p.target) { sequence = s.last + 1 }))

  moved : (o : Option Vector) → p.base ≡ o → same_local_version (Some (merge (unwrap_or o []) p.target.version)) o ≡ false
  moved None e = refl
  moved (Some v) e = let h = news.base v e in apart v p.target.version h.0 news.target h.1

  closed : is_open after p ≡ false
  closed = ap (λ o. same_local_version o p.base) version-after ∙ moved p.base refl

  again : (b : Bool) → is_open s p ≡ b → settled (settled s (p, true)) (p, true) ≡ settled s (p, true)
  again true e =
      let is : settled s (p, true) ≡ after = ap (λ (x : Bool). if x then after else s) e in
      ap (λ u. settled u (p, true)) is ∙ void after p true closed ∙ sym is
  again false e = let is = void s p true e in ap (λ u. settled u (p, true)) is

pub once : (s : FolderState) (p : PullPlan) (stands : Bool) → HasNews p → settled (settled s (p, stands)) (p, stands) ≡ settled s (p, stands)
once s p true news = again s p news (is_open s p) refl
once s p false news = refl
