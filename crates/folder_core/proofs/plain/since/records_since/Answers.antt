use Rattle.std.proofs.Common.{◌+◌, ◌-◌, ◌^◌, ◌≤◌, ◌++◌, Bor, List, length, map, min, sym, ap, ◌∙◌, arith}
use Rattle.std.proofs.lemmas.Bool.{true≢false}
use Rattle.sync_blocks.specs.declared.block.Block.{Block}
use Rattle.sync_record.specs.Records.{FileRecord}
use Rattle.folder_core.specs.PlainReads.{later_from}
use Rattle.folder_core.specs.Reads.{by_sequence, page_of}
use Rattle.folder_core.proofs.PlainSince.{fits_next, no_page, page_ends, page_has_first, page_stops, rest_some, seen, sequence_has_all}
use Rattle.folder_core.proofs.plain.since.records_since.Goals as goal
use Rattle.folder_core.proofs.plain.since.records_since.Goals.{in-None, in-Some+then-not-fits}

pub returns-then-limit-eq0-clause-page : goal.returns-then-limit-eq0-clause-page
returns-then-limit-eq0-clause-page c =
    let xs = by_sequence (later_from c.args.device c.args.sequence c.args.entries.now) in
    c.new-page.ensures.items ∙ no_page xs ∙ ap (λ n. page_of n xs) (sym c.if-limit-eq0.true)

pub returns-in_err-later-clause-none : goal.returns-in_err-later-clause-none
returns-in_err-later-clause-none c = λ none.
    let later = later_from c.args.device c.args.sequence c.args.entries.now in
    let some : 1 ≤ c.args.limit = omega arith in
    absurd (true≢false (sym (c.in_err-later.ensures.none (sequence_has_all later (page_has_first c.args.limit (by_sequence later) some none)))))

pub returns-in_err-copy-clause-none : goal.returns-in_err-copy-clause-none
returns-in_err-copy-clause-none c = λ none.
    let xs = by_sequence (later_from c.args.device c.args.sequence c.args.entries.now) in
    let some : 1 ≤ c.args.limit = omega arith in
    let all = ap (λ (rs : List (Bor FileRecord)). c.loop-record.page.items ++ map seen rs) (sym c.in-Some.ensures.steps) ∙ c.loop-record.invariant.all in
    absurd (rest_some c.loop-record.page.items c.in-Some.record.now.now (map seen c.next.new.self) (all ∙ page_has_first c.args.limit xs some none))

pub returns-in_err-push-clause-none : goal.returns-in_err-push-clause-none
returns-in_err-push-clause-none c = λ none.
    let xs = by_sequence (later_from c.args.device c.args.sequence c.args.entries.now) in
    let some : 1 ≤ c.args.limit = omega arith in
    let all = ap (λ (rs : List (Bor FileRecord)). c.loop-record.page.items ++ map seen rs) (sym c.in-Some.ensures.steps) ∙ c.loop-record.invariant.all in
    absurd (rest_some c.loop-record.page.items c.in-Some.record.now.now (map seen c.next.new.self) (all ∙ page_has_first c.args.limit xs some none))

pub returns-clause-page : goal.returns-clause-page
returns-clause-page c =
    let page = c.loop-record.page in
    let xs = by_sequence (later_from c.args.device c.args.sequence c.args.entries.now) in
    let inv = c.loop-record.invariant in
    elim c.match-next.branch [
      | in-None w ↦
          let all = ap (λ (rs : List (Bor FileRecord)). page.items ++ map seen rs) (sym w.in-None.ensures.steps.0) ∙ inv.all in
          page_ends c.args.limit page.items xs all inv.fits
      | in-Some+then-not-fits w ↦
          let r = w.in-Some.record.now.now in
          let all = ap (λ (rs : List (Bor FileRecord)). page.items ++ map seen rs) (sym w.in-Some.ensures.steps) ∙ inv.all in
          page_stops c.args.limit page.items r (map seen c.next.new.self) xs all inv.fits
          (fits_next c.args.limit page.items r (w.len.result + 1) c.loop-record.total w.saturating_add-total.result (omega (arith, w.len.ensures, page.ok.0)) inv.total
          (w.saturating_add-total.ensures ∙ ap (λ (bs : List Block). min (c.loop-record.total + length bs) (2 ^ 64 - 1)) w.blocks-in-loop-record.ensures)
          ∙ sym w.fits.ensures ∙ w.if-not-fits.true)
    ]
