use Rattle.std.proofs.Common.{◌≡◌, ◌++◌, ◌-◌, ◌∙◌, Some, [], ap, sym, subst, length, refl}
use Rattle.std.specs.Io.KnownBytes.{Appends}
use Rattle.std.specs.Prelude.{flat_map, slice_get}
use Rattle.folder_core.specs.Reads.{bests_page}
use Rattle.bepd.specs.declared.ending.Failure.TheVariants.{OutOfMemory, Write}
use Rattle.bepd.specs.Counts.{WritesSome}
use Rattle.bepd.specs.Lines.{best_line, skipped_line}
use Rattle.bepd.specs.Listing.{best_lines}
use Rattle.bepd.proofs.Reports.{founds, written_none, written_page, written_next, fewer_left, written_front, written_some, written_last, written_all, all_written, no_last, at_failure, if_failure}
use Rattle.bepd.proofs.listing.write_listing.Goals as goal

pub loop-last-init : goal.loop-last-init
loop-last-init g c = record {
  written = written_none (g.F.FolderCore.state c.args.received.now.folder) c.in_ok-page.page (g.W.Write.contents c.args.writer.now.inner) c.in_ok-page.ensures;
  none_failed = refl;
}

pub returns-in_err-push_bests-clause-failed : goal.returns-in_err-push_bests-clause-failed
returns-in_err-push_bests-clause-failed g c =
    let received = c.args.received.now in
    let w = c.loop-last.invariant.written in
    at_failure _ OutOfMemory OutOfMemory c.from_residual-in_err-push_bests.result c.from_residual-in_err-push_bests.ensures.1 refl
    (written_front (g.F.FolderCore.state received.folder) w.after (skipped_line received.skipped) (g.W.Write.contents c.args.writer.now.inner)
    (g.W.Write.contents c.loop-last.writer.inner) w.written)

pub returns-in_err-write_all-clause-failed : goal.returns-in_err-write_all-clause-failed
returns-in_err-write_all-clause-failed g c =
    let received = c.args.received.now in
    let s = g.F.FolderCore.state received.folder in
    let page = c.loop-last.page in
    let best = c.in-Some.last.now in
    let last : slice_get page (length page - 1) ≡ Some best = ap (λ p. slice_get p (length p - 1)) (sym c.as_slice.ensures) ∙ sym c.in-Some.ensures.value in
    let lines : c.as_slice-in-Some-2.result.now ≡ flat_map (λ b. best_line b.record) page =
    c.as_slice-in-Some-2.ensures.value ∙ c.in_ok-push_bests.ensures ∙ ap (λ l. l ++ flat_map (λ b. best_line b.record) c.as_slice-in-Some.result.now) c.clear.ensures.items
    ∙ ap (flat_map (λ b. best_line b.record)) c.as_slice-in-Some.ensures in
    at_failure _ c.in_err-write_all.field-0.0 Write c.from_residual-in_err-write_all.result c.from_residual-in_err-write_all.ensures.1 c.in_err-write_all.ensures.failure
    (written_some s page best c.as_slice-in-Some-2.result.now (skipped_line received.skipped) (g.W.Write.contents c.args.writer.now.inner) (g.W.Write.contents c.loop-last.writer.inner)
    (g.W.Write.contents c.write_all.new.self.inner) c.requires.named last lines c.write_all.ensures.front c.loop-last.invariant.written)

pub returns-in_err-page-2-clause-failed : goal.returns-in_err-page-2-clause-failed
returns-in_err-page-2-clause-failed g c =
    let received = c.args.received.now in
    let s = g.F.FolderCore.state received.folder in
    let page = c.loop-last.page in
    let best = c.in-Some.last.now in
    let last : slice_get page (length page - 1) ≡ Some best = ap (λ p. slice_get p (length p - 1)) (sym c.as_slice.ensures) ∙ sym c.in-Some.ensures.value in
    let lines : c.as_slice-in-Some-2.result.now ≡ flat_map (λ b. best_line b.record) page =
    c.as_slice-in-Some-2.ensures.value ∙ c.in_ok-push_bests.ensures ∙ ap (λ l. l ++ flat_map (λ b. best_line b.record) c.as_slice-in-Some.result.now) c.clear.ensures.items
    ∙ ap (flat_map (λ b. best_line b.record)) c.as_slice-in-Some.ensures in
    at_failure _ OutOfMemory OutOfMemory c.from_residual-in_err-page-2.result c.from_residual-in_err-page-2.ensures.1 refl
    (written_front s (Some best.record.name) (skipped_line received.skipped) (g.W.Write.contents c.args.writer.now.inner) (g.W.Write.contents c.write_all.new.self.inner)
    (written_page s page best c.as_slice-in-Some-2.result.now (g.W.Write.contents c.args.writer.now.inner) (g.W.Write.contents c.loop-last.writer.inner) (g.W.Write.contents c.write_all.new.self.inner)
    c.requires.named last lines c.in_ok-write_all.ensures.written c.loop-last.invariant.written))

pub loop-last-smaller : goal.loop-last-smaller
loop-last-smaller g c =
    let s = g.F.FolderCore.state c.args.received.now.folder in
    let page = c.loop-last.page in
    let best = c.in-Some.last.now in
    let last : slice_get page (length page - 1) ≡ Some best = ap (λ p. slice_get p (length p - 1)) (sym c.as_slice.ensures) ∙ sym c.in-Some.ensures.value in
    let read : founds c.in_ok-page-2.page ≡ bests_page s (Some best.record.name) 1000 = c.in_ok-page-2.ensures ∙ ap (λ n. bests_page s (Some n) 1000) c.name.ensures in
    fewer_left s c.requires.named page c.in_ok-page-2.page best last read

pub loop-last-preserved : goal.loop-last-preserved
loop-last-preserved g c =
    let s = g.F.FolderCore.state c.args.received.now.folder in
    let page = c.loop-last.page in
    let best = c.in-Some.last.now in
    let last : slice_get page (length page - 1) ≡ Some best = ap (λ p. slice_get p (length p - 1)) (sym c.as_slice.ensures) ∙ sym c.in-Some.ensures.value in
    let read : founds c.in_ok-page-2.page ≡ bests_page s (Some best.record.name) 1000 = c.in_ok-page-2.ensures ∙ ap (λ n. bests_page s (Some n) 1000) c.name.ensures in
    let lines : c.as_slice-in-Some-2.result.now ≡ flat_map (λ b. best_line b.record) page =
    c.as_slice-in-Some-2.ensures.value ∙ c.in_ok-push_bests.ensures ∙ ap (λ l. l ++ flat_map (λ b. best_line b.record) c.as_slice-in-Some.result.now) c.clear.ensures.items
    ∙ ap (flat_map (λ b. best_line b.record)) c.as_slice-in-Some.ensures in
    record {
      written = written_next s c.in_ok-page-2.page best.record.name (g.W.Write.contents c.args.writer.now.inner) (g.W.Write.contents c.write_all.new.self.inner) read
          (written_page s page best c.as_slice-in-Some-2.result.now (g.W.Write.contents c.args.writer.now.inner) (g.W.Write.contents c.loop-last.writer.inner) (g.W.Write.contents c.write_all.new.self.inner)
          c.requires.named last lines c.in_ok-write_all.ensures.written c.loop-last.invariant.written);
      none_failed = c.in_ok-write_all.ensures.failed ∙ c.loop-last.invariant.none_failed;
    }

pub returns-in_err-write_all-2-clause-failed : goal.returns-in_err-write_all-2-clause-failed
returns-in_err-write_all-2-clause-failed g c =
    let received = c.args.received.now in
    let s = g.F.FolderCore.state received.folder in
    let old = g.W.Write.contents c.args.writer.now.inner in
    let mid = g.W.Write.contents c.loop-last.writer.inner in
    let new = g.W.Write.contents c.write_all-2.new.self.inner in
    let none : c.loop-last.page ≡ [] = no_last c.loop-last.page (c.in_default.ensures.value ∙ ap (λ p. slice_get p (length p - 1)) c.as_slice.ensures) in
    let line : c.as_slice-2.result.now ≡ skipped_line received.skipped =
    c.as_slice-2.ensures.value ∙ c.in_ok-push_skipped.ensures ∙ ap (λ l. l ++ skipped_line received.skipped) c.clear-2.ensures.items in
    at_failure _ c.in_err-write_all-2.field-0.0 Write c.from_residual-in_err-write_all-2.result c.from_residual-in_err-write_all-2.ensures.1 c.in_err-write_all-2.ensures.failure
    (written_last s c.loop-last.page (skipped_line received.skipped) old mid new none (subst (λ l. WritesSome l mid new) line c.write_all-2.ensures.front) c.loop-last.invariant.written)

pub returns-clause-failed : goal.returns-clause-failed
returns-clause-failed g c =
    let received = c.args.received.now in
    let s = g.F.FolderCore.state received.folder in
    let old = g.W.Write.contents c.args.writer.now.inner in
    let mid = g.W.Write.contents c.loop-last.writer.inner in
    let put = g.W.Write.contents c.write_all-2.new.self.inner in
    let new = g.W.Write.contents c.flush.new.self.inner in
    let none : c.loop-last.page ≡ [] = no_last c.loop-last.page (c.in_default.ensures.value ∙ ap (λ p. slice_get p (length p - 1)) c.as_slice.ensures) in
    let line : c.as_slice-2.result.now ≡ skipped_line received.skipped =
    c.as_slice-2.ensures.value ∙ c.in_ok-push_skipped.ensures ∙ ap (λ l. l ++ skipped_line received.skipped) c.clear-2.ensures.items in
    if_failure _ Write c.flush.result c.flush.ensures.failure
    (all_written (best_lines s ++ skipped_line received.skipped) old new
    (written_all s c.loop-last.page (skipped_line received.skipped) old mid put new none (subst (Appends mid put) line c.in_ok-write_all-2.ensures.written) c.flush.ensures.kept c.loop-last.invariant.written))
