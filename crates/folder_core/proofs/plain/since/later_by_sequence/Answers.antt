use Rattle.std.proofs.Common.{◌≡◌, List, map, take, sym, ap, subst, ◌∙◌, arith}
use Rattle.std.specs.FinMap.{put}
use Rattle.std.specs.Ordering.{nat_cmp}
use Rattle.std.proofs.lemmas.Bool.{and_parts}
use Rattle.std.proofs.lemmas.List.{take_all}
use Rattle.folder_core.specs.declared.announcement.Announcement.{Announcement as Entry}
use Rattle.folder_core.specs.PlainReads.{later_from}
use Rattle.folder_core.specs.Reads.{by_sequence}
use Rattle.folder_core.proofs.ListTests.{contains_in, In}
use Rattle.folder_core.proofs.PlainSince.{inserted, later_in, later_more, later_same, shown, values_shown}
use Rattle.folder_core.proofs.plain.since.later_by_sequence.Goals as goal
use Rattle.folder_core.proofs.plain.since.later_by_sequence.Goals.{then-is_later+in_ok-insert, else-is_later}

pub returns-in_err-insert-clause-none : goal.returns-in_err-insert-clause-none
returns-in_err-insert-clause-none c = λ none.
    let es = c.args.entries.now in
    let e = c.entry-item.result in
    let later = and_parts _ _ (sym c.is_later.ensures ∙ c.if-is_later.true) in
    absurd (subst (In e.record) none (later_in c.args.device c.args.sequence es e (contains_in es e (c.loop-entry.entry-index, c.loop-entry-test.true, sym c.entry-item.is)) later.0 later.1))

pub loop-entry-preserved : goal.loop-entry-preserved
loop-entry-preserved c =
    let e = c.entry-item.result in
    let es = c.args.entries.now in
    let i = c.loop-entry.entry-index in
    elim c.if-is_later.branch [
      | then-is_later+in_ok-insert w ↦
          (λ j. map shown (w.later-is j).entries)
          ∙ ap (map shown) w.in_ok-insert.ensures.entries
          ∙ inserted c.loop-entry.later.entries w.sequence.result _
          ∙ (λ j. put nat_cmp (w.sequence.ensures.value j) e.record (c.loop-entry.invariant j))
          ∙ sym (later_more c.args.device c.args.sequence es i e c.loop-entry-test.true c.entry-item.is (sym c.is_later.ensures ∙ w.if-is_later.true))
      | else-is_later w ↦
          (λ j. map shown (w.later-is j).entries)
          ∙ c.loop-entry.invariant
          ∙ sym (later_same c.args.device c.args.sequence es i e c.loop-entry-test.true c.entry-item.is (sym c.is_later.ensures ∙ w.if-is_later.false))
    ]

pub returns-clause-later : goal.returns-clause-later
returns-clause-later c =
    let es = c.args.entries.now in
    let all : take c.loop-entry.entry-index es ≡ es = take_all c.loop-entry.entry-index es (let f = c.loop-entry-test.false in omega arith) in
    values_shown c.loop-entry.later.entries ∙ ap (map (λ e. e.1)) c.loop-entry.invariant ∙ ap (λ (xs : List Entry). by_sequence (later_from c.args.device c.args.sequence xs)) all
