use Rattle.std.proofs.Common.{◌≡◌, ◌≤◌, length, sym, ap, subst, ◌∙◌, ◌⊎◌, inl, inr}
use Rattle.std.specs.Prelude.{Contains, map}
use Rattle.std.specs.List.Sorted.{IsStrictlySortedBy}
use Rattle.std.specs.Ordering.{nat_cmp}
use Rattle.sync_record.specs.Records.{FileRecord}
use Rattle.index_sender.specs.Pages.{Progress, last_sequence, records_of}
use Rattle.index_sender.proofs.KeepingUp.{IsPage, page-contains, records-are}
use Rattle.index_sender.proofs.PageRecords.{IsLast, last-is}
use Rattle.index_sender.proofs.laws.pages_have_what_is_local.Goals as goal

pub returns-clause-only : goal.returns-clause-only
returns-clause-only c = λ s old new page r folder gives i.
    let j : Contains gives.records r = subst (λ rs. Contains rs r) (ap records_of gives.page_is ∙ records-are old.owes_index gives.records) i in
    let found = c.local_records_come_in_pages.ensures.only s old.cursor 1000 gives.records r folder gives.read j in
    let rise = (c.local_records_come_in_pages.ensures.rise s old.cursor 1000 gives.records folder gives.read).0 in
    let last : IsLast old.cursor gives.records (last_sequence old.cursor gives.records) = last-is old.cursor gives.records rise in
    (found.0, found.1, found.2, subst (λ k. r.sequence ≤ k) (sym (ap (λ (p : Progress). p.cursor) gives.new_is)) (last.above r j))

pub returns-clause-all : goal.returns-clause-all
returns-clause-all c = λ s old new page n r folder gives here above below.
    let read : IsPage s old.cursor gives.records = record {
      rise = (c.local_records_come_in_pages.ensures.rise s old.cursor 1000 gives.records folder gives.read).0;
      only = λ q i. c.local_records_come_in_pages.ensures.only s old.cursor 1000 gives.records q folder gives.read i;
      all = λ m q there over. elim (c.local_records_come_in_pages.ensures.all s old.cursor 1000 gives.records m q folder gives.read there over) [
        | inl i ↦ inl i
        | inr x ↦ inr (x.0, x.1, x.2, x.3, x.4)
      ];
    } in
    subst (λ rs. Contains rs r) (sym (ap records_of gives.page_is ∙ records-are old.owes_index gives.records))
    (page-contains s folder old.cursor gives.records read n r here above (subst (λ k. r.sequence ≤ k) (ap (λ (p : Progress). p.cursor) gives.new_is) below))

pub returns-clause-rise : goal.returns-clause-rise
returns-clause-rise c = λ s old new page folder gives.
    let rise = c.local_records_come_in_pages.ensures.rise s old.cursor 1000 gives.records folder gives.read in
    subst (λ rs. IsStrictlySortedBy nat_cmp (map (λ r. r.sequence) rs) × (length rs ≤ 1000)) (sym (ap records_of gives.page_is ∙ records-are old.owes_index gives.records))
    (rise.0, rise.1)

pub returns-clause-cursor : goal.returns-clause-cursor
returns-clause-cursor c = λ s old new page folder gives.
    let rise = (c.local_records_come_in_pages.ensures.rise s old.cursor 1000 gives.records folder gives.read).0 in
    let last : IsLast old.cursor gives.records (last_sequence old.cursor gives.records) = last-is old.cursor gives.records rise in
    let at : last_sequence old.cursor gives.records ≡ new.cursor = sym (ap (λ (p : Progress). p.cursor) gives.new_is) in
    let same : gives.records ≡ records_of page = sym (ap records_of gives.page_is ∙ records-are old.owes_index gives.records) in
    subst (λ k. (k ≡ old.cursor) ⊎ ((r : FileRecord) × Contains (records_of page) r × (r.sequence ≡ k))) at
    (subst (λ rs. (last_sequence old.cursor gives.records ≡ old.cursor) ⊎ ((r : FileRecord) × Contains rs r × (r.sequence ≡ last_sequence old.cursor gives.records))) same last.reached)
