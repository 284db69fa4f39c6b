use Rattle.std.proofs.Common.{◌≡◌, ◌≤◌, true, false, length, refl, ap, ◌∙◌, arith, inl, inr}
use Rattle.std.specs.Prelude.{nat_le}
use Rattle.std.proofs.lemmas.Bool.{leb-true, leb-false}
use Rattle.folder_calls.specs.Shared.{now}
use Rattle.index_sender.specs.Pages.{Progress}
use Rattle.index_sender.proofs.KeepingUp.{after-nothing, nothing-is}
use Rattle.index_sender.proofs.laws.nothing_is_left.Goals as goal

pub returns-clause-stays : goal.returns-clause-stays
returns-clause-stays c = λ s old new gives.
    let none = nothing-is old.owes_index gives.records gives.page_is in
    gives.new_is ∙ after-nothing old gives.records none.0 none.1

pub returns-clause-end : goal.returns-clause-end
returns-clause-end c = λ s old new n r folder gives here.
    let none = nothing-is old.owes_index gives.records gives.page_is in
    let none_read : length gives.records ≡ 0 = ap length none.1 in
    let at : new.cursor ≡ old.cursor = ap (λ (p : Progress). p.cursor) (gives.new_is ∙ after-nothing old gives.records none.0 none.1) in
    elim (nat_le r.sequence old.cursor) as (λ b. nat_le r.sequence old.cursor ≡ b → r.sequence ≤ new.cursor) [
      | true ↦ λ t. let le = leb-true r.sequence old.cursor t in omega arith
      | false ↦ λ t. absurd (elim (c.local_records_come_in_pages.ensures.all s old.cursor 1000 gives.records n r folder gives.read here (leb-false r.sequence old.cursor t)) [
        | inl i ↦ let below = i.1 in omega arith
        | inr x ↦ elim x.5 [ inl full ↦ omega arith | inr large ↦ let some = large.0 in omega arith ]
      ])
    ] refl

pub returns-clause-whole : goal.returns-clause-whole
returns-clause-whole c = λ start pages old new v n r folder keeps gives here above.
    keeps.all n r here above (returns-clause-end c (now v) old new n r folder gives here)
