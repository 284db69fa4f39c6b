use Rattle.std.proofs.Common.{◌+◌, ◌++◌, ◌∷◌, [], List, drop, map, sym, ap, ◌∙◌, arith, rules}
use Rattle.std.specs.FinMap.{values}
use Rattle.std.proofs.lemmas.List.{append_assoc, drop_all}
use Rattle.folder_core.specs.Reads.{fits_page}
use Rattle.folder_core.proofs.PlainSince.{page_ends, page_has_first, page_stops, rest_some}
use Rattle.sync_record.specs.Records.{FileRecord}
use Rattle.folder_index.specs.Sequences.{blocks_in, later_than}
use Rattle.folder_index.proofs.Sequenced.{Sequences, later_are, record_of}
use Rattle.folder_index.proofs.Since.{later_next, later_skips, next_of, some_limit}
use Rattle.folder_index.proofs.by_sequence.BySequence.page_with.Goals as goal
use Rattle.folder_index.proofs.by_sequence.BySequence.page_with.Goals.{then-sequence+in_ok-more-2+in-Some-3, else-sequence}

pub loop-announced-init : goal.loop-announced-init
loop-announced-init c =
    let es = c.self.inside.records.entries in
    let others = later_than c.args.sequence c.args.others.now in
    record {
      all = ap (λ (xs : List FileRecord). xs ++ (map record_of c.into_iter-announced-iterator.result ++ others)) c.new-page.ensures.items
          ∙ ap (λ (xs : List FileRecord). xs ++ others) (ap (map record_of) (c.into_iter-announced-iterator.ensures.into_iter_gives ∙ c.range-announced-items.ensures.between tt)
          ∙ later_are es c.self.invariant c.args.sequence
          ∙ ap (λ m. later_than c.args.sequence (values m)) c.self.view_is);
      fits = search rules;
      counted = ap blocks_in (sym c.new-page.ensures.items);
    }

pub returns-in_err-more-clause-none : goal.returns-in_err-more-clause-none
returns-in_err-more-clause-none c = λ none.
    let page = c.loop-announced.page.items in
    let r = c.in-Some.announced.now in
    let others = later_than c.args.sequence c.args.others.now in
    let xs = later_than c.args.sequence (values c.args.self.now) ++ others in
    let all = ap (λ (es : Sequences). page ++ (map record_of es ++ others)) (sym c.in-Some.ensures.steps) ∙ c.loop-announced.invariant.all in
    absurd (rest_some page r (map record_of c.next.new.self ++ others) (all ∙ page_has_first c.args.limit xs (some_limit c.args.limit page r c.in_err-more.ensures.err) none))

pub returns-in-None-2-clause-page : goal.returns-in-None-2-clause-page
returns-in-None-2-clause-page c =
    let page = c.loop-announced.page.items in
    let r = c.in-Some.announced.now in
    let others = later_than c.args.sequence c.args.others.now in
    let xs = later_than c.args.sequence (values c.args.self.now) ++ others in
    let all = ap (λ (es : Sequences). page ++ (map record_of es ++ others)) (sym c.in-Some.ensures.steps) ∙ c.loop-announced.invariant.all in
    let full = rw c.in-None-2.is at c.in_ok-more.ensures.added in
    c.from_vec.ensures ∙ full.stays ∙ page_stops c.args.limit page r (map record_of c.next.new.self ++ others) xs all c.loop-announced.invariant.fits full.full

pub returns-in_err-more-2-clause-none : goal.returns-in_err-more-2-clause-none
returns-in_err-more-2-clause-none c = λ none.
    let page = c.loop-other.page.items in
    let r = c.other-item.result in
    let q = c.args.sequence in
    let others = c.args.others.now in
    let i = c.loop-other.other-index in
    let xs = later_than q (values c.args.self.now) ++ later_than q others in
    let next = ap (later_than q) (next_of others i r c.loop-other-test.true c.other-item.is) ∙ later_next q r (drop (i + 1) others) (omega (arith, c.sequence.ensures.value, c.if-sequence.true)) in
    let all = ap (λ (rs : List FileRecord). page ++ rs) (sym next) ∙ c.loop-other.invariant.all in
    absurd (rest_some page r (later_than q (drop (i + 1) others)) (all ∙ page_has_first c.args.limit xs (some_limit c.args.limit page r c.in_err-more-2.ensures.err) none))

pub returns-in-None-3-clause-page : goal.returns-in-None-3-clause-page
returns-in-None-3-clause-page c =
    let page = c.loop-other.page.items in
    let r = c.other-item.result in
    let q = c.args.sequence in
    let others = c.args.others.now in
    let i = c.loop-other.other-index in
    let xs = later_than q (values c.args.self.now) ++ later_than q others in
    let next = ap (later_than q) (next_of others i r c.loop-other-test.true c.other-item.is) ∙ later_next q r (drop (i + 1) others) (omega (arith, c.sequence.ensures.value, c.if-sequence.true)) in
    let all = ap (λ (rs : List FileRecord). page ++ rs) (sym next) ∙ c.loop-other.invariant.all in
    let full = rw c.in-None-3.is at c.in_ok-more-2.ensures.added in
    c.from_vec-in-None-3.ensures ∙ full.stays ∙ page_stops c.args.limit page r (later_than q (drop (i + 1) others)) xs all c.loop-other.invariant.fits full.full

pub loop-other-preserved : goal.loop-other-preserved
loop-other-preserved c =
    let page = c.loop-other.page.items in
    let r = c.other-item.result in
    let q = c.args.sequence in
    let others = c.args.others.now in
    let i = c.loop-other.other-index in
    let inv = c.loop-other.invariant in
    let here = ap (later_than q) (next_of others i r c.loop-other-test.true c.other-item.is) in
    elim c.if-sequence.branch [
      | then-sequence+in_ok-more-2+in-Some-3 w ↦
          let added = rw w.in-Some-3.is at w.in_ok-more-2.ensures.added in
          let next = here ∙ later_next q r (drop (i + 1) others) (omega (arith, c.sequence.ensures.value, w.if-sequence.true)) in
          let items = (λ j. (w.page-is j).items) ∙ added.items in
          record {
            all = ap (λ (xs : List FileRecord). xs ++ later_than q (drop (i + 1) others)) items
                ∙ append_assoc page (r ∷ []) (later_than q (drop (i + 1) others))
                ∙ ap (λ (rs : List FileRecord). page ++ rs) (sym next) ∙ inv.all;
            fits = (λ j. fits_page c.args.limit (w.page-is j).items) ∙ added.fits;
            counted = w.total-is ∙ added.counted ∙ sym (λ j. blocks_in (w.page-is j).items);
          }
      | else-sequence w ↦
          let skip = here ∙ later_skips q r (drop (i + 1) others) (omega (arith, c.sequence.ensures.value, w.if-sequence.false)) in
          record {
            all = (λ j. (w.page-is j).items ++ later_than q (drop (i + 1) others)) ∙ ap (λ (rs : List FileRecord). page ++ rs) (sym skip) ∙ inv.all;
            fits = (λ j. fits_page c.args.limit (w.page-is j).items) ∙ inv.fits;
            counted = w.total-is ∙ inv.counted ∙ sym (λ j. blocks_in (w.page-is j).items);
          }
    ]

pub returns-clause-page : goal.returns-clause-page
returns-clause-page c =
    let page = c.loop-other.page.items in
    let q = c.args.sequence in
    let others = c.args.others.now in
    let xs = later_than q (values c.args.self.now) ++ later_than q others in
    let none = ap (later_than q) (drop_all c.loop-other.other-index others (let f = c.loop-other-test.false in omega arith)) in
    c.from_vec-2.ensures ∙ page_ends c.args.limit page xs (ap (λ (rs : List FileRecord). page ++ rs) (sym none) ∙ c.loop-other.invariant.all) c.loop-other.invariant.fits
