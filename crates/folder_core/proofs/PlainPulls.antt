-- The plain folder's list of open pulls, as the map of the states.
use Rattle.std.proofs.Common.{◌≡◌, ℕ, ◌+◌, List, [], ◌∷◌, refl, sym, ap, ◌∙◌}
use Rattle.std.specs.Prelude.{cond, map, count_by, is_some, Option, Some, None}
use Rattle.std.specs.Bool.{passes}
use Rattle.std.specs.FinMap.{entries-from_sorted}
use Rattle.std.proofs.lemmas.List.Sums.{sum_by-cons, length-filter}
use Rattle.sync_record.specs.Devices.{Identity, bytes_cmp}
use Rattle.sync_record.specs.Records.{FileRecord}
use Rattle.folder_core.specs.declared.announcement.Announcement.{Announcement as Entry}
use Rattle.folder_core.specs.declared.plain.pull.OpenPull.{OpenPull}
use Rattle.folder_core.specs.States.{open_commits, is_committing}
use Rattle.folder_core.specs.Plain.{PullsRise, commits, folder_of, opened, pulled, pulls_of, stage_of}

pub commits_stage : (o : Option FileRecord) → (p : OpenPull) → p.ready ≡ o → is_committing (opened p) ≡ is_some p.ready
commits_stage None p e = ap (λ r. is_committing (record (opened p) { stage = stage_of r })) e ∙ sym (ap is_some e)
commits_stage (Some r) p e = ap (λ r. is_committing (record (opened p) { stage = stage_of r })) e ∙ sym (ap is_some e)

listed : (ps : List OpenPull) → count_by (λ e. is_committing e.1) (map pulled ps) ≡ count_by (λ (p : OpenPull). is_some p.ready) ps
listed [] = refl
listed (p ∷ ps) =
    sum_by-cons (λ e. cond (is_committing e.1) 1 0) (pulled p) (map pulled ps)
    ∙ (λ i. cond (commits_stage p.ready p refl i) 1 0 + listed ps i)
    ∙ sym (sum_by-cons (λ (q : OpenPull). cond (is_some q.ready) 1 0) p ps)

-- the commits that the states count
pub commits-open : (me : Identity) (es : List Entry) (last : ℕ) (ps : List OpenPull) → PullsRise ps → open_commits (folder_of me es last (pulls_of ps)) ≡ commits ps
commits-open me es last ps rise = ap (count_by (λ e. is_committing e.1)) (entries-from_sorted bytes_cmp (map pulled ps) (passes _ rise)) ∙ listed ps ∙ sym (length-filter (λ (p : OpenPull). is_some p.ready) ps)
