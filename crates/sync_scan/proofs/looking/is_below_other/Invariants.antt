-- No parent that the loop has passed is something else, and all others are parents of what is left.
use Rattle.std.proofs.Common.{◌≡◌, ◌≢◌, ◌⊎◌, true, length}
use Rattle.std.specs.Prelude.{IsNone}
use denote.Text.{Utf8}
use denote.Shadow.{shadow}
use Rattle.file_store.specs.Names.{Name, is_parent}
use Rattle.file_store.specs.Sequences.{LooksOnly, Since}
use Rattle.file_store.specs.declared.node.Stat.{Stat}
use Rattle.file_store.specs.declared.node.Stat.TheVariants.{Other}
use Rattle.sync_names.specs.Refusal.{refusal}
use Rattle.sync_scan.specs.Told.{Says}
use Rattle.sync_scan.proofs.looking.is_below_other.Given as goal

abbrev pub invariant-loop-parent : goal.invariant-loop-parent
invariant-loop-parent g l = record {
  text : shadow (Utf8 l.rest);
  up : (q : Name) → is_parent q l.rest ≡ true → is_parent q l.name ≡ true;
  passed : (q : Name) → is_parent q l.name ≡ true
      → (is_parent q l.rest ≡ true) ⊎ ((first : g.row.S.Denot) → LooksOnly g.S.FileStore.gives first l.initial.store → IsNone (refusal q) → (said : Stat) × (said ≢ Other) × Says (Since g.S.FileStore.gives first) q said);
  looks : LooksOnly g.S.FileStore.gives l.initial.store l.store;
  kept : g.S.FileStore.keeps ≡ true → g.S.FileStore.tree l.store ≡ g.S.FileStore.tree l.initial.store;
  counted : g.S.FileStore.fault_count l.store ≡ g.S.FileStore.fault_count l.initial.store;
}

abbrev pub decreases-loop-parent : goal.decreases-loop-parent
decreases-loop-parent g l = length l.rest
