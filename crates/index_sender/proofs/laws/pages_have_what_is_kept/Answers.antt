use Rattle.std.proofs.Common.{◌≡◌, ◌≤◌, ◌<◌, true, false, length, refl, sym, ap, subst, ◌∙◌, arith, inl, inr}
use Rattle.std.specs.Prelude.{Contains, nat_le}
use Rattle.std.proofs.lemmas.Bool.{leb-true, leb-false, ltb-true}
use Rattle.index_sender.specs.Pages.{Progress, last_sequence, records_of, up_to}
use Rattle.index_sender.proofs.KeepingUp.{IsPage, after-nothing, nothing-is, page-contains, records-are}
use Rattle.index_sender.proofs.PageRecords.{IsLast, last-is}
use Rattle.index_sender.proofs.UpTo.{first-of, kept-page, up-to-in, up-to-none, up-to-rise, up-to-short}
use Rattle.index_sender.proofs.laws.pages_have_what_is_kept.Goals as goal

pub returns-clause-only : goal.returns-clause-only
returns-clause-only c = λ kept s old new page is_waiting r folder gives i.
    let told = up_to kept gives.records in
    let j : Contains told r = subst (λ rs. Contains rs r) (ap records_of gives.page_is ∙ records-are old.owes_index told) i in
    let here = up-to-in kept gives.records r j in
    let found = c.local_records_come_in_pages.ensures.only s old.cursor 1000 gives.records r folder gives.read here.0 in
    let rise = (c.local_records_come_in_pages.ensures.rise s old.cursor 1000 gives.records folder gives.read).0 in
    let last : IsLast old.cursor told (last_sequence old.cursor told) = last-is old.cursor told (up-to-rise kept gives.records rise) in
    (found.0, found.1, found.2, subst (λ k. r.sequence ≤ k) (sym (ap (λ (p : Progress). p.cursor) gives.new_is)) (last.above r j), here.1)

pub returns-clause-all : goal.returns-clause-all
returns-clause-all c = λ kept s old new page is_waiting n r folder gives here above below.
    let told = up_to kept gives.records in
    let read : IsPage s old.cursor gives.records = record {
      rise = (c.local_records_come_in_pages.ensures.rise s old.cursor 1000 gives.records folder gives.read).0;
      only = λ q i. c.local_records_come_in_pages.ensures.only s old.cursor 1000 gives.records q folder gives.read i;
      all = λ m q there over. elim (c.local_records_come_in_pages.ensures.all s old.cursor 1000 gives.records m q folder gives.read there over) [
        | inl i ↦ inl i
        | inr x ↦ inr (x.0, x.1, x.2, x.3, x.4)
      ];
    } in
    subst (λ rs. Contains rs r) (sym (ap records_of gives.page_is ∙ records-are old.owes_index told))
    (page-contains s folder old.cursor told (kept-page s old.cursor kept gives.records read) n r here above (subst (λ k. r.sequence ≤ k) (ap (λ (p : Progress). p.cursor) gives.new_is) below))

pub returns-clause-end : goal.returns-clause-end
returns-clause-end c = λ kept s old new is_waiting n r folder gives here within.
    let none = nothing-is old.owes_index (up_to kept gives.records) gives.page_is in
    let rise = (c.local_records_come_in_pages.ensures.rise s old.cursor 1000 gives.records folder gives.read).0 in
    let at : new.cursor ≡ old.cursor = ap (λ (p : Progress). p.cursor) (gives.new_is ∙ after-nothing old (up_to kept gives.records) none.0 none.1) in
    elim (nat_le r.sequence old.cursor) as (λ b. nat_le r.sequence old.cursor ≡ b → r.sequence ≤ new.cursor) [
      | true ↦ λ t. let le = leb-true r.sequence old.cursor t in omega arith
      | false ↦ λ t. absurd (elim (c.local_records_come_in_pages.ensures.all s old.cursor 1000 gives.records n r folder gives.read here (leb-false r.sequence old.cursor t)) [
        | inl i ↦ let over = up-to-none kept gives.records rise none.1 r i in omega arith
        | inr x ↦
            let some : 0 < length gives.records = elim x.5 [ inl full ↦ omega arith | inr large ↦ let some = large.0 in omega arith ] in
            let first = first-of gives.records some in
            let over = up-to-none kept gives.records rise none.1 first.0 first.1 in
            let before : first.0.sequence < x.1.sequence = x.4 first.0 first.1 in
            let le : x.1.sequence ≤ r.sequence = x.3 in
            omega arith
      ])
    ] refl

pub returns-clause-waits : goal.returns-clause-waits
returns-clause-waits c = λ kept s old new page folder gives.
    let found = up-to-short kept gives.records (ltb-true (length (up_to kept gives.records)) (length gives.records) (sym gives.waiting_is)) in
    let local_is = c.local_records_come_in_pages.ensures.only s old.cursor 1000 gives.records found.0 folder gives.read found.1 in
    (local_is.0, found.0, local_is.1, found.2)
