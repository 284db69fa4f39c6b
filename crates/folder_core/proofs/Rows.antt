-- The worked rows, by computation.
use Rattle.std.proofs.Common.{◌≡◌, [], ◌∷◌, refl}
use Rattle.std.specs.Prelude.{replicate, pos, Some, None, false}
use Rattle.std.specs.FinMap.{entries}
use Rattle.folder_core.specs.Announced.{best, is_candidate}
use Rattle.folder_core.specs.States.{need}
use Rattle.folder_core.specs.Reads.{best_with_devices, local_since, places, counts, known, need_page}
use Rattle.folder_core.specs.declared.answer.Answer.TheVariants.{NotNeeded, Unsupported, Applied, Begun}
use Rattle.folder_core.specs.declared.change.Change.TheVariants.{BeginPull, IndexFull, IndexMore}
use Rattle.folder_core.specs.Steps.{step}
use Rattle.folder_core.specs.Samples.{Leads, me, p2, y, recorded, two_files, places_of_abd, counts_of_two, p1, p2, p3, x, file, deletion, content, modified, abc, by, folder, target, full_target, ring, deleted_and_live, deleted_alone, modified_by_5_and_7, cut_short, one_version, one_content, invalid_above, nanoseconds_apart, counters_apart, shared_by_two, of_each_kind, counts_of_each_kind, deleted_there, deletion_pulled, deletion_ticket, offered, appeared, local_moves, commit_is_closed, target_is_withdrawn, commit_merges, stray_tickets, other_tickets, no_sequence_to_enter, link_offered, scans, counter_is_full, sequences_end, commit_keeps_sequence}
use Rattle.folder_core.proofs.RowsListed.{listed}

pub ring-best : best ring x ≡ Some (by p3 (file ((3, 1) ∷ []) 2))
ring-best = refl

pub ring-withdrawn : best (entries (step (folder ring 0 []) (IndexFull p3 [])).1.announced) x ≡ Some (by p1 (file ((1, 2) ∷ []) 1))
ring-withdrawn = simp listed

pub live-first : best deleted_and_live x ≡ Some (by p2 (file ((2, 1) ∷ []) 1))
live-first = refl

pub deletion-best : best deleted_alone x ≡ Some (by p1 (deletion ((1, 1) ∷ []) 1))
deletion-best = refl

pub deletion-need : need (folder deleted_alone 0 []) ≡ []
deletion-need = simp listed

pub deletion-pull : step (folder deleted_alone 0 []) (BeginPull x) ≡ (NotNeeded, folder deleted_alone 0 [])
deletion-pull = simp listed

pub smaller-first : best modified_by_5_and_7 x ≡ Some (by p1 (modified 5 (file ((1, 1) ∷ []) 1)))
smaller-first = refl

pub cut-candidate : is_candidate (cut_short ∷ []) cut_short ≡ false
cut-candidate = refl

pub cut-best : best (cut_short ∷ []) x ≡ None
cut-best = refl

pub contents-best : best_with_devices (folder one_version 0 []) x ≡ Some (content 3 abc (file ((1, 1) ∷ []) 1), p1 ∷ [])
contents-best = simp listed

pub content-devices : best_with_devices (folder one_content 0 []) x ≡ Some (content 3 abc (file ((2, 1) ∷ []) 2), p2 ∷ [])
content-devices = simp listed

pub invalid-passed : best invalid_above x ≡ Some (by p2 (file ((1, 1) ∷ []) 1))
invalid-passed = refl

pub nanoseconds-later : best nanoseconds_apart x ≡ Some (by p2 (record (file ((2, 1) ∷ []) 1) { modified_ns = pos 4 }))
nanoseconds-later = refl

pub counters-greater : best counters_apart x ≡ Some (by p2 (file ((1, 2) ∷ []) 1))
counters-greater = refl

pub shared-devices : best_with_devices (folder shared_by_two 1 []) x ≡ Some (content 3 abc (file ((1, 1) ∷ []) 2), me ∷ p1 ∷ [])
shared-devices = simp listed

pub kinds-counted : counts of_each_kind ≡ counts_of_each_kind
kinds-counted = simp listed

pub deletion-needed : need deleted_there ≡ x ∷ []
deletion-needed = simp listed

pub deletion-begun : step deleted_there (BeginPull x) ≡ (Begun deletion_ticket, deletion_pulled)
deletion-begun = simp listed

pub last-counts : step (folder [] 0 []) (IndexMore p1 (file ((1, 1) ∷ []) 1 ∷ file ((1, 2) ∷ []) 1 ∷ [])) ≡ (Applied, folder (by p1 (file ((1, 2) ∷ []) 1) ∷ []) 0 [])
last-counts = simp listed

pub link-pull : step link_offered (BeginPull x) ≡ (Unsupported, link_offered)
link-pull = simp listed

pub scans-lead : Leads (folder [] 0 []) scans
scans-lead = (simp listed, (simp listed, (simp listed, (simp listed, (simp listed, (simp listed, (simp listed, tt)))))))

pub local-moved : Leads offered local_moves
local-moved = (simp listed, (simp listed, (simp listed, (simp listed, (simp listed, (simp listed, tt))))))

pub commit-closed : Leads offered commit_is_closed
commit-closed = (simp listed, (simp listed, (simp listed, (simp listed, (simp listed, (simp listed, (simp listed, (simp listed, tt))))))))

pub target-withdrawn : Leads offered target_is_withdrawn
target-withdrawn = (simp listed, (simp listed, (simp listed, (simp listed, tt))))

pub commit-merged : Leads (folder appeared 1 []) commit_merges
commit-merged = (simp listed, (simp listed, (simp listed, tt)))

pub stray : Leads offered stray_tickets
stray = (simp listed, (simp listed, (simp listed, (simp listed, tt))))

pub others-stray : Leads offered other_tickets
others-stray = (simp listed, (simp listed, (simp listed, (simp listed, (simp listed, (simp listed, (simp listed, (simp listed, (simp listed, tt)))))))))

pub counter-full : Leads (folder (by p1 full_target ∷ []) 0 []) counter_is_full
counter-full = (simp listed, (simp listed, (simp listed, (simp listed, tt))))

pub sequence-full : Leads (folder [] 9223372036854775806 []) sequences_end
sequence-full = (simp listed, (simp listed, tt))

pub sequence-kept : Leads (folder (by p1 target ∷ []) 9223372036854775806 []) commit_keeps_sequence
sequence-kept = (simp listed, (simp listed, (simp listed, (simp listed, tt))))

pub sequence-wanting : Leads (folder (by p1 target ∷ []) 9223372036854775807 []) no_sequence_to_enter
sequence-wanting = (simp listed, (simp listed, tt))

pub first-page : local_since two_files 0 1 ≡ recorded x 1 ∷ []
first-page = simp listed

pub second-page : local_since two_files 1 10 ≡ recorded y 2 ∷ []
second-page = simp listed

pub places-found : places two_files (replicate 32 8) ≡ places_of_abd
places-found = simp listed

pub none-placed : places two_files (replicate 32 7) ≡ []
none-placed = simp listed

pub two-counted : counts two_files ≡ counts_of_two
two-counted = simp listed

pub sequences-known : known offered p1 ∷ known offered p2 ∷ known two_files me ∷ [] ≡ 1 ∷ 0 ∷ 2 ∷ []
sequences-known = simp listed

pub need-paged : need_page offered None 5 ∷ need_page offered None 0 ∷ need_page offered (Some x) 5 ∷ [] ≡ (x ∷ []) ∷ [] ∷ [] ∷ []
need-paged = simp listed
