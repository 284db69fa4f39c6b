use Rattle.std.proofs.Common.{◌≡◌, ◌⊎◌, ◌++◌, ℕ, List, IfErr, string_bytes, ◌∙◌, ap, subst, lit<, inr}
use Rattle.std.specs.Prelude.{OnOk, codes}
use Rattle.std.proofs.lemmas.Result.{IfErr-weaker}
use Rattle.sync_names.specs.declared.fault.NameFault.TheVariants.{Internal, OutOfMemory}
use Rattle.sync_names.specs.Components.{last_component}
use Rattle.sync_names.specs.Made.{conflict_text}
use Rattle.sync_names.specs.Parsing.{ParsesTo}
use Rattle.sync_names.specs.Safe.{IsSafe}
use Rattle.sync_names.proofs.ConflictLemmas.{conflict_internal, conflict_passed, memory_not_internal, passed_or_memory}
use Rattle.sync_names.proofs.MadeLemmas.{conflict_made, named, not_named}
use Rattle.sync_names.proofs.made.conflict_name.Goals as goal
use Rattle.sync_names.proofs.made.conflict_name.Goals.{After-from_string}

made : (c : After-from_string) → string_bytes c.push_str.new.self ≡ conflict_text c.args.name.now c.args.moment c.args.modified_by
made c =
    let dash = c.in_ok-push.ensures.bytes ∙ ap (λ (l : List ℕ). string_bytes c.push_date_and_time.new.text ++ l) (c.in_ok-push.ensures.ascii (lit< tt)) in
    conflict_made c.args.name.now _ _ _ _ _ _ _ _ _ _ c.at-shown.result c.args.moment c.args.modified_by c.at-shown.ensures.value
    (record { same = c.as_str.ensures.value; folder_is = c.split_last_component.ensures.folder; last_is = c.split_last_component.ensures.last; stem_is = c.split_extension.ensures.stem; extension_is = c.split_extension.ensures.extension })
    (record { begun = c.in_ok-text.ensures.ok; date_and_time = c.in_ok-push_date_and_time.ensures; dash = dash; id = c.in_ok-push_short_base32.ensures; ended = c.in_ok-push_str.ensures.bytes })

-- what the parsing says of the conflict copy's name
parsed : (c : After-from_string) → ParsesTo (conflict_text c.args.name.now c.args.moment c.args.modified_by) c.from_string.result
parsed c =
    let Answers : List ℕ → Type 0 = λ t. ParsesTo t c.from_string.result in subst Answers (made c) c.from_string.ensures.answer

other : (c : After-from_string) → ¬ (last_component c.args.name.now ≡ codes ".syncthing.tmp")
other c =
    not_named c.args.name.now _ _ c.eq.result c.as_str.ensures.value c.split_last_component.ensures.last c.eq.ensures c.if-eq.false

pub returns-then-eq-clause-answer : goal.returns-then-eq-clause-answer
returns-then-eq-clause-answer c =
    conflict_internal c.args.name.now c.args.moment c.args.modified_by (subst IsSafe c.as_str.ensures.value c.as_str.ensures.safe) c.at-shown.ensures.in_range
    (named c.args.name.now _ _ c.eq.result c.as_str.ensures.value c.split_last_component.ensures.last c.eq.ensures c.if-eq.true)

pub returns-clause-answer : goal.returns-clause-answer
returns-clause-answer c = parsed c

pub returns-clause-safe : goal.returns-clause-safe
returns-clause-safe c =
    let Safe : List ℕ → Type 0 = λ t. OnOk c.from_string.result (IsSafe t) in subst Safe (made c) c.from_string.ensures.safe

memory : (c : After-from_string) → IfErr c.from_string.result (λ fault. fault ≡ OutOfMemory)
memory c =
    passed_or_memory (conflict_text c.args.name.now c.args.moment c.args.modified_by) c.from_string.result
    (conflict_passed c.args.name.now c.args.moment c.args.modified_by (subst IsSafe c.as_str.ensures.value c.as_str.ensures.safe) c.at-shown.ensures.in_range (other c)) (parsed c)

pub returns-clause-refusals : goal.returns-clause-refusals
returns-clause-refusals c = IfErr-weaker _ _ (λ fault. (fault ≡ Internal) ⊎ (fault ≡ OutOfMemory)) (λ fault e. inr e) (memory c)

pub returns-clause-internal : goal.returns-clause-internal
returns-clause-internal c =
    (λ e. absurd (memory_not_internal c.from_string.result (memory c) e), λ e. absurd (other c e))
