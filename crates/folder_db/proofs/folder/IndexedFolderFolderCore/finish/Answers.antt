use Rattle.std.proofs.Common.{◌+◌, sym, ap, subst, ◌∙◌}
use Rattle.std.specs.FinSet.{contains}
use Rattle.sync_record.specs.Records.{FileRecord}
use Rattle.folder_core.specs.Plain.{pulls_of}
use Rattle.folder_core.specs.PlainPulls.{pull_for}
use Rattle.folder_core.specs.declared.answer.Answer.TheVariants.{Done}
use Rattle.folder_core.specs.declared.pull_stage.PullStage.TheVariants.{Committing}
use Rattle.folder_index.specs.Indexes.{IndexState}
use Rattle.folder_db.specs.Indexed.{IsIndexed, folder_with}
use Rattle.folder_db.proofs.Pulls.{finish-earlier, finish-fits, finish-indexed, finish-reserved, finish-step, finish-stray, of-ready, stray-indexed}
use Rattle.folder_db.proofs.folder.IndexedFolderFolderCore.finish.Goals as goal

pub take_ready-requires : goal.take_ready-requires
take_ready-requires c = c.self.invariant.copied

pub invariant_of-self : goal.invariant_of-self
invariant_of-self c =
    let f = c.self.inside in
    stray-indexed f.index f.last f.pulls.items f.copies.items c.self.invariant c.take_ready.new.pulls.items c.take_ready.new.copies.items c.in_default.ensures.taken.1 c.in_default.ensures.copies

pub returns-in_default-clause-change : goal.returns-in_default-clause-change
returns-in_default-clause-change c =
    let f = c.self.inside in
    rw (← c.self.view_is) (rw (← c.into_info-info.ensures)
    (finish-stray f.index f.last f.pulls.items f.copies.items c.self.invariant c.into_info-info.result c.take_ready.new.pulls.items c.in_default.ensures.taken.0 c.in_default.ensures.taken.1))

pub set_reserved-requires : goal.set_reserved-requires
set_reserved-requires c =
    let f = c.self.inside in
    let t = c.into_info-info.result in
    let r = c.in-Some.ready.announced in
    let it = of-ready (pull_for t Committing f.pulls.items) r c.in-Some.ensures.taken.0 in
    let left = c.in-Some.ensures.taken.1 in
    let named = ap (λ (x : FileRecord). x.name) c.with_sequence-announced.ensures in
    record {
      reserved = ap (contains f.index.promised) named ∙ finish-reserved f.index f.last f.pulls.items f.copies.items c.self.invariant t c.take_ready.new.pulls.items c.take_ready.new.copies.items c.in-Some.ensures.copies it.0 it.1 left r it.2;
      greatest = finish-earlier f.index f.last f.pulls.items f.copies.items c.self.invariant t c.take_ready.new.pulls.items c.take_ready.new.copies.items c.in-Some.ensures.copies it.0 it.1 left r it.2 c.with_sequence-announced.result c.with_sequence-announced.ensures;
      same = c.with_sequence-copied.ensures ∙ ap (λ (x : FileRecord). record x { sequence = f.last + 1 }) c.in-Some.ensures.same ∙ sym c.with_sequence-announced.ensures;
    }

pub invariant_of-self-2 : goal.invariant_of-self-2
invariant_of-self-2 c =
    let f = c.self.inside in
    let t = c.into_info-info.result in
    let r = c.in-Some.ready.announced in
    let it = of-ready (pull_for t Committing f.pulls.items) r c.in-Some.ensures.taken.0 in
    let left = c.in-Some.ensures.taken.1 in
    subst (λ s. IsIndexed s (f.last + 1) c.take_ready.new.pulls.items c.take_ready.new.copies.items) (sym c.set_reserved.ensures)
    (finish-indexed f.index f.last f.pulls.items f.copies.items c.self.invariant t c.take_ready.new.pulls.items c.take_ready.new.copies.items c.in-Some.ensures.copies it.0 it.1 left r it.2 c.with_sequence-announced.result c.with_sequence-announced.ensures)

pub returns-clause-change : goal.returns-clause-change
returns-clause-change c =
    let f = c.self.inside in
    let t = c.into_info-info.result in
    let r = c.in-Some.ready.announced in
    let it = of-ready (pull_for t Committing f.pulls.items) r c.in-Some.ensures.taken.0 in
    let left = c.in-Some.ensures.taken.1 in
    rw (← c.self.view_is) (rw (← c.into_info-info.ensures)
    (finish-step f.index f.last f.pulls.items f.copies.items c.self.invariant t c.take_ready.new.pulls.items c.take_ready.new.copies.items c.in-Some.ensures.copies it.0 it.1 left r it.2 c.with_sequence-announced.result c.with_sequence-announced.ensures
    ∙ ap (λ (s : IndexState). (Done (f.last + 1), folder_with s (f.last + 1) (pulls_of c.take_ready.new.pulls.items))) (sym c.set_reserved.ensures)))

pub returns-clause-choices : goal.returns-clause-choices
returns-clause-choices c =
    rw (← c.self.view_is) (ap (λ (s : IndexState). s.choices) c.set_reserved.ensures)

pub with_sequence-announced-requires : goal.with_sequence-announced-requires
with_sequence-announced-requires c =
    let f = c.self.inside in
    let t = c.into_info-info.result in
    let r = c.in-Some.ready.announced in
    let it = of-ready (pull_for t Committing f.pulls.items) r c.in-Some.ensures.taken.0 in
    finish-fits f.index f.last f.pulls.items f.copies.items c.self.invariant t c.take_ready.new.pulls.items c.take_ready.new.copies.items c.in-Some.ensures.copies it.0 it.1 c.in-Some.ensures.taken.1 r it.2
