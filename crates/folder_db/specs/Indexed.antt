-- A folder that is kept in an index.
use Rattle.std.specs.Prelude.{◌≡◌, ℕ, ◌+◌, ◌-◌, ◌^◌, ◌≤◌, ◌++◌, min, All, List, map, Option, Some, refl}
use Rattle.std.specs.Coded.{Coded, code_by, coded_ℕ, coded×}
use Rattle.std.specs.FinSet as set
use Rattle.sync_record.specs.Records.{Name, FileRecord}
use Rattle.folder_core.specs.Codes.{Pulls, coded_folder}
use Rattle.folder_core.specs.Plain.{IsReady, PullsRise, pulls_of}
use Rattle.folder_core.specs.States.{FolderState, IsFolder}
use Rattle.folder_core.specs.Steps.{is_pull_committing}
use Rattle.folder_core.specs.declared.answer.Answer.{Answer}
use Rattle.folder_core.specs.declared.answer.Answer.TheVariants.{Recorded, Done}
use Rattle.folder_core.specs.declared.plain.pull.OpenPull.{OpenPull}
use Rattle.folder_index.specs.Indexes.{IndexState, Names, counted}

-- the folder, and how often the best of a name was chosen, up to the greatest number of 64 bits
pub record IndexedState : Type 0 where
  pub folder : FolderState
  pub choices : ℕ

abbrev pub coded_indexed : Coded IndexedState
coded_indexed = code_by (FolderState × ℕ) (coded× coded_folder coded_ℕ) (λ s. (s.folder, s.choices)) (λ p. record { folder = p.0; choices = p.1 }) (λ _. refl)

-- the folder of an index, with this last sequence and these open pulls
abbrev pub folder_with : IndexState → ℕ → Pulls → FolderState
folder_with s last pulls = record { me = s.me; announced = s.announced; last = last; pulls = pulls }

-- what stands ready of each open pull
abbrev pub ready_of : List OpenPull → List (Option FileRecord)
ready_of ps = map (λ p. p.ready) ps

-- What holds of what a folder is kept in: its pulls rise, it is a folder, each open commit has its record ready, twice, room in
-- the index is reserved for the names of these and for no other, and what is counted fits 64 bits.
pub record IsIndexed (s : IndexState) (last : ℕ) (ps : List OpenPull) (copies : List (Option FileRecord)) : Type 0 where
  pub pulls_rise : PullsRise ps
  pub folder : IsFolder (folder_with s last (pulls_of ps))
  pub ready : All IsReady ps
  pub copied : copies ≡ ready_of ps
  pub reserved : (n : Name) → set.contains s.promised n ≡ is_pull_committing (folder_with s last (pulls_of ps)) n
  pub counted : s.choices ≤ 2 ^ 64 - 1

-- k more, up to the greatest number of 64 bits
abbrev pub counted_more : ℕ → ℕ → ℕ
counted_more n k = min (n + k) (2 ^ 64 - 1)

-- how often a best was chosen after a call with this answer: once more where a local record was put
abbrev pub choices_after : Option Answer → ℕ → ℕ
choices_after (Some (Recorded sequence)) n = counted n
choices_after (Some (Done sequence)) n = counted n
choices_after _ n = n

-- the names of the records
abbrev pub names_in : List FileRecord → Names
names_in rs = set.from_list (map (λ r. r.name) rs)

-- these, and others
abbrev pub names_with : List FileRecord → List Name → Names
names_with rs ns = set.from_list (map (λ r. r.name) rs ++ ns)
