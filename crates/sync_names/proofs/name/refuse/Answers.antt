use Rattle.std.proofs.Common.{◌≡◌, sym, ◌∙◌}
use Rattle.sync_names.specs.declared.fault.NameFault.TheVariants.{OutOfMemory}
use Rattle.sync_names.proofs.RefusalLemmas.{shape-memory, IsToldOf-refused, refusal-shape, refusal-passed, refusal-not_nfc, refusal-internal, nfc_said, safe_from_none}
use Rattle.sync_names.proofs.name.refuse.Goals as goal

pub returns-in-Some-clause-answer : goal.returns-in-Some-clause-answer
returns-in-Some-clause-answer c =
    IsToldOf-refused c.args.text.now c.in-Some.fault (refusal-shape c.args.text.now c.in-Some.fault (sym c.shape_refusal.ensures ∙ c.in-Some.is))

pub returns-then-not-branch-clause-answer : goal.returns-then-not-branch-clause-answer
returns-then-not-branch-clause-answer c =
    let nfc = nfc_said c.in_ok-is_nfc.field-0 c.args.text.now c.in_ok-is_nfc.ensures.answer ∙ c.if-not-branch.true in
    refusal-not_nfc c.args.text.now (sym c.shape_refusal.ensures ∙ c.in_default.is) nfc

pub returns-then-is_internal-clause-answer : goal.returns-then-is_internal-clause-answer
returns-then-is_internal-clause-answer c =
    let nfc = nfc_said c.in_ok-is_nfc.field-0 c.args.text.now c.in_ok-is_nfc.ensures.answer ∙ c.if-not-branch.false in
    refusal-internal c.args.text.now (sym c.shape_refusal.ensures ∙ c.in_default.is) nfc (sym c.is_internal.ensures.value ∙ c.if-is_internal.true)

pub returns-clause-answer : goal.returns-clause-answer
returns-clause-answer c =
    let nfc = nfc_said c.in_ok-is_nfc.field-0 c.args.text.now c.in_ok-is_nfc.ensures.answer ∙ c.if-not-branch.false in
    refusal-passed c.args.text.now (sym c.shape_refusal.ensures ∙ c.in_default.is) nfc (sym c.is_internal.ensures.value ∙ c.if-is_internal.false)

pub returns-clause-safe : goal.returns-clause-safe
returns-clause-safe c =
    let nfc = nfc_said c.in_ok-is_nfc.field-0 c.args.text.now c.in_ok-is_nfc.ensures.answer ∙ c.if-not-branch.false in
    safe_from_none c.args.text.now c.utf8.text (refusal-passed c.args.text.now (sym c.shape_refusal.ensures ∙ c.in_default.is) nfc (sym c.is_internal.ensures.value ∙ c.if-is_internal.false))

pub returns-in-Some-clause-quick : goal.returns-in-Some-clause-quick
returns-in-Some-clause-quick c = λ quick e.
    shape-memory c.args.text.now c.in-Some.fault (sym c.shape_refusal.ensures ∙ c.in-Some.is) (let same : c.in-Some.fault ≡ OutOfMemory = cc in same)
