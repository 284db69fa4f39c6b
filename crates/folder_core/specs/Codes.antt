-- Folder states as codes, by which a proof compares them.
use Rattle.std.specs.Prelude.{◌≡◌, ℕ, ℤ, Bool, true, false, List, Option, refl}
use Rattle.std.specs.Coded.{Coded, code_by, coded_ℕ, coded_ℤ, coded_bool, coded_list, coded_option, coded×}
use Rattle.std.specs.FinMap as map
use Rattle.folder_core.specs.declared.pull_stage.PullStage.{PullStage}
use Rattle.folder_core.specs.declared.pull_stage.PullStage.TheVariants.{Pulling, Committing}
use Rattle.sync_blocks.specs.declared.block.Block.{Block}
use Rattle.sync_record.specs.Devices.{bytes_cmp}
use Rattle.sync_record.specs.Records.{FileRecord}
use Rattle.sync_version.specs.Versions.{Vector}
use Rattle.folder_core.specs.Announced.{Announced, Key}
use Rattle.folder_core.specs.States.{FolderState, Pull}

abbrev pub Bytes : Type 0
Bytes = List ℕ

abbrev pub coded_bytes : Coded Bytes
coded_bytes = coded_list coded_ℕ

abbrev pub coded_block : Coded Block
coded_block = code_by (ℕ × (ℕ × Bytes)) (coded× coded_ℕ (coded× coded_ℕ coded_bytes))
    (λ b. (b.offset, (b.size, b.hash))) (λ p. record { offset = p.0; size = p.1.0; hash = p.1.1 }) (λ _. refl)

abbrev pub coded_version : Coded Vector
coded_version = coded_list (coded× coded_ℕ coded_ℕ)

-- the fields of a record, in four groups
abbrev pub Naming : Type 0
Naming = Bytes × (ℤ × (Vector × (ℕ × ℕ)))

abbrev pub Times : Type 0
Times = ℤ × (ℤ × ℕ)

abbrev pub Flags : Type 0
Flags = Bool × (Bool × Bool)

abbrev pub Content : Type 0
Content = ℤ × (ℤ × (List Block × Bytes))

abbrev pub coded_record : Coded FileRecord
coded_record = code_by (Naming × (Times × (Flags × Content)))
    (coded× (coded× coded_bytes (coded× coded_ℤ (coded× coded_version (coded× coded_ℕ coded_ℕ))))
    (coded× (coded× coded_ℤ (coded× coded_ℤ coded_ℕ))
    (coded× (coded× coded_bool (coded× coded_bool coded_bool))
    (coded× coded_ℤ (coded× coded_ℤ (coded× (coded_list coded_block) coded_bytes))))))
    (λ r. (
      (r.name, (r.type_number, (r.version, (r.sequence, r.permissions)))),
      (
        (r.modified_s, (r.modified_ns, r.modified_by)),
        (
          (r.deleted, (r.invalid, r.no_permissions)),
          (r.size, (r.block_size, (r.blocks, r.symlink_target))),
        ),
      ),
    ))
    (λ p. record {
      name = p.0.0;
      type_number = p.0.1.0;
      version = p.0.1.1.0;
      sequence = p.0.1.1.1.0;
      permissions = p.0.1.1.1.1;
      modified_s = p.1.0.0;
      modified_ns = p.1.0.1.0;
      modified_by = p.1.0.1.1;
      deleted = p.1.1.0.0;
      invalid = p.1.1.0.1.0;
      no_permissions = p.1.1.0.1.1;
      size = p.1.1.1.0;
      block_size = p.1.1.1.1.0;
      blocks = p.1.1.1.1.1.0;
      symlink_target = p.1.1.1.1.1.1;
    })
    (λ _. refl)

abbrev pub coded_key : Coded Key
coded_key = code_by (Bytes × Bytes) (coded× coded_bytes coded_bytes)
    (λ k. (k.name, k.device)) (λ p. record { name = p.0; device = p.1 }) (λ _. refl)

abbrev pub is_committing_stage : PullStage → Bool
is_committing_stage Pulling = false
is_committing_stage Committing = true

abbrev pub stage_of : Bool → PullStage
stage_of false = Pulling
stage_of true = Committing

pub stage_of-is_committing : (s : PullStage) → stage_of (is_committing_stage s) ≡ s
stage_of-is_committing Pulling = refl
stage_of-is_committing Committing = refl

abbrev pub coded_stage : Coded PullStage
coded_stage = code_by Bool coded_bool is_committing_stage stage_of stage_of-is_committing

abbrev pub coded_pull : Coded Pull
coded_pull = code_by (ℕ × (Option Vector × (FileRecord × PullStage))) (coded× coded_ℕ (coded× (coded_option coded_version) (coded× coded_record coded_stage)))
    (λ p. (p.number, (p.base, (p.target, p.stage)))) (λ q. record { number = q.0; base = q.1.0; target = q.1.1.0; stage = q.1.1.1 }) (λ _. refl)

abbrev pub Pulls : Type 0
Pulls = map.FinMap bytes_cmp Pull

abbrev pub coded_folder : Coded FolderState
coded_folder = code_by (Bytes × (Announced × (ℕ × Pulls)))
    (coded× coded_bytes (coded× (map.code coded_key coded_record) (coded× coded_ℕ (map.code coded_bytes coded_pull))))
    (λ s. (s.me, (s.announced, (s.last, s.pulls)))) (λ p. record { me = p.0; announced = p.1.0; last = p.1.1.0; pulls = p.1.1.1 }) (λ _. refl)
