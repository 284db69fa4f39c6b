use Rattle.std.proofs.Common.{◌≡◌, ◌<◌, ◌≤◌, ◌^◌, List, length, map, ap, sym, subst, ◌∙◌, rules, vec_capacity}
use Rattle.std.proofs.lemmas.Bool.{true≢false}
use Rattle.std.specs.Prelude.{pos, filter}
use Rattle.std.specs.List.{list_all}
use Rattle.std.specs.List.Sorted.{IsPermutation}
use Rattle.folder_core.specs.declared.plain.pull.OpenPull.{OpenPull}
use Rattle.folder_core.specs.declared.restore_fault.RestoreFault.TheVariants.{BadRecords}
use Rattle.folder_core.specs.Plain.{IsPlain, Rises, folder_of, pulls_of}
use Rattle.folder_core.specs.PlainReads.{is_from}
use Rattle.folder_core.specs.PlainRestores.{AreNumbered, IsOnce, given, is_numbered}
use Rattle.folder_core.specs.Restores.{MayRestore, restored_folder}
use Rattle.folder_core.proofs.PlainRestore.{may-restore, none-permuted, numbered, once-given, plain-restored, same-folder}
use Rattle.folder_core.proofs.plain.PlainFolder.restore.Goals as goal

pub returns-in_err-entries-clause-refused : goal.returns-in_err-entries-clause-refused
returns-in_err-entries-clause-refused c =
    let not : c.in_err-entries.field-0.0 ≡ BadRecords → MayRestore c.args.me (map given c.args.records) c.args.last → ⊥ =
    λ bad may. c.in_err-entries.ensures.repeated bad (subst IsOnce (sym c.into_vec.ensures) (once-given c.args.me c.args.records c.args.records 0 may.once)) in
    search rules

pub returns-in_err-entries-clause-in_order : goal.returns-in_err-entries-clause-in_order
returns-in_err-entries-clause-in_order c = λ rises none.
    absurd (true≢false (sym (c.in_err-entries.ensures.in_order (subst Rises (sym c.into_vec.ensures) rises))))

pub returns-in_err-are_numbered-clause-in_order : goal.returns-in_err-are_numbered-clause-in_order
returns-in_err-are_numbered-clause-in_order c = λ rises none.
    let entries = c.in_ok-entries.ensures.kept (subst Rises (sym c.into_vec.ensures) rises) ∙ c.into_vec.ensures in
    absurd (true≢false (sym (c.in_err-are_numbered.ensures.none (ap (filter (is_from c.args.me)) (c.as_slice.ensures.value ∙ entries) ∙ none))))

pub returns-in_err-entries-clause-numbered : goal.returns-in_err-entries-clause-numbered
returns-in_err-entries-clause-numbered c = λ n last_is rises bad.
    absurd (true≢false (sym (c.in_err-entries.ensures.in_order (subst Rises (sym c.into_vec.ensures) rises))))

pub returns-in_err-are_numbered-clause-numbered : goal.returns-in_err-are_numbered-clause-numbered
returns-in_err-are_numbered-clause-numbered c = λ n is rises bad.
    let entries = c.in_ok-entries.ensures.kept (subst Rises (sym c.into_vec.ensures) rises) ∙ c.into_vec.ensures in
    let last_is : c.args.last ≡ pos c.in-Ok.last = search rules in
    let numbers : pos c.in-Ok.last ≡ pos n = sym last_is ∙ is in
    let same : c.in-Ok.last ≡ n = cc in
    absurd (true≢false (sym (c.in_err-are_numbered.ensures.each
    ((λ i. list_all (λ e. is_numbered (same i) e.record) (filter (is_from c.args.me) ((c.as_slice.ensures.value ∙ entries) i))) ∙ bad))))

pub returns-in_err-are_numbered-clause-none : goal.returns-in_err-are_numbered-clause-none
returns-in_err-are_numbered-clause-none c = λ none.
    let entries = none-permuted c.into_vec.result.items c.in_ok-entries.entries.items c.in_ok-entries.ensures.same (c.into_vec.ensures ∙ none) in
    absurd (true≢false (sym (c.in_err-are_numbered.ensures.none (ap (filter (is_from c.args.me)) (c.as_slice.ensures.value ∙ entries)))))

pub returns-then-not-branch-clause-refused : goal.returns-then-not-branch-clause-refused
returns-then-not-branch-clause-refused c = λ bad may.
    let es = c.in_ok-entries.entries.items in
    let last_is : c.args.last ≡ pos c.in-Ok.last = search rules in
    let same : IsPermutation c.args.records es = subst (λ rs. IsPermutation rs es) c.into_vec.ensures c.in_ok-entries.ensures.same in
    let all : AreNumbered c.in-Ok.last (filter (is_from c.args.me) es) =
    numbered c.args.me c.args.records es c.in-Ok.last c.in_ok-entries.ensures.rises same
    (subst (MayRestore c.args.me (map given c.args.records)) last_is may) in
    true≢false (sym (c.in_ok-are_numbered.ensures.numbered.1 (subst (λ xs. AreNumbered c.in-Ok.last (filter (is_from c.args.me) xs)) (sym c.as_slice.ensures.value) all)) ∙ c.if-not-branch.true)

pub invariant_of-result : goal.invariant_of-result
invariant_of-result c =
    let es = c.in_ok-entries.entries.items in
    let fits : c.in-Ok.last < 2 ^ 63 = search rules in
    let room : length es ≤ vec_capacity c.in_ok-entries.entries = search rules in
    let same : IsPermutation c.args.records es = subst (λ rs. IsPermutation rs es) c.into_vec.ensures c.in_ok-entries.ensures.same in
    let all : AreNumbered c.in-Ok.last (filter (is_from c.args.me) es) =
    subst (λ xs. AreNumbered c.in-Ok.last (filter (is_from c.args.me) xs)) c.as_slice.ensures.value (c.in_ok-are_numbered.ensures.numbered.0 c.if-not-branch.false) in
    subst (IsPlain c.args.me es (vec_capacity c.in_ok-entries.entries) c.in-Ok.last) (sym c.new.ensures.items)
    (plain-restored c.args.me c.args.records es c.in-Ok.last c.in_ok-entries.ensures.rises same (vec_capacity c.in_ok-entries.entries) room fits all)

pub returns-clause-allowed : goal.returns-clause-allowed
returns-clause-allowed c = λ ok.
    let es = c.in_ok-entries.entries.items in
    let last_is : c.args.last ≡ pos c.in-Ok.last = search rules in
    let fits : c.in-Ok.last < 2 ^ 63 = search rules in
    let same : IsPermutation c.args.records es = subst (λ rs. IsPermutation rs es) c.into_vec.ensures c.in_ok-entries.ensures.same in
    let all : AreNumbered c.in-Ok.last (filter (is_from c.args.me) es) =
    subst (λ xs. AreNumbered c.in-Ok.last (filter (is_from c.args.me) xs)) c.as_slice.ensures.value (c.in_ok-are_numbered.ensures.numbered.0 c.if-not-branch.false) in
    subst (MayRestore c.args.me (map given c.args.records)) (sym last_is)
    (may-restore c.args.me c.args.records es c.in-Ok.last c.in_ok-entries.ensures.rises same fits all)

pub returns-clause-restored : goal.returns-clause-restored
returns-clause-restored c =
    let es = c.in_ok-entries.entries.items in
    let last_is : c.args.last ≡ pos c.in-Ok.last = search rules in
    let same : IsPermutation c.args.records es = subst (λ rs. IsPermutation rs es) c.into_vec.ensures c.in_ok-entries.ensures.same in
    ap (λ (ps : List OpenPull). folder_of c.args.me es c.in-Ok.last (pulls_of ps)) c.new.ensures.items
    ∙ same-folder c.args.me c.args.records es c.in-Ok.last c.in_ok-entries.ensures.rises same
    ∙ ap (λ z. restored_folder c.args.me (map given c.args.records) z) (sym last_is)
