use Rattle.std.proofs.Common.{◌≡◌, ◌-◌, sym, ap, subst, ◌∙◌, arith}
use Rattle.std.specs.Prelude.{filter, nat_le, option_copied}
use Rattle.std.specs.FinMap.{entries}
use Rattle.std.proofs.lemmas.Bool.{true≢false}
use Rattle.std.proofs.lemmas.List.{with_items_is}
use Rattle.folder_core.specs.Announced.{is_of}
use Rattle.folder_core.specs.Plain.{commits, pulls_of}
use Rattle.folder_core.specs.Steps.{step}
use Rattle.folder_core.specs.declared.answer.Answer.TheVariants.{Entered}
use Rattle.folder_core.specs.declared.change.Change.TheVariants.{EnterCommit}
use Rattle.folder_core.specs.declared.pull_info.PullInfo.{PullInfo}
use Rattle.folder_db.specs.Indexed.{folder_with}
use Rattle.folder_core.specs.PlainPulls.{position_of, pull_for}
use Rattle.folder_core.specs.States.{max_sequence}
use Rattle.folder_core.specs.declared.pull_stage.PullStage.TheVariants.{Pulling}
use Rattle.folder_core.proofs.PlainEnter.{ok_from}
use Rattle.folder_db.proofs.Pulls.{enter-at, enter-counted, enter-indexed, enter-is_accepted, enter-refused, enter-step, enter-stray}
use Rattle.folder_db.proofs.folder.IndexedFolderFolderCore.enter_commit.Goals as goal

pub returns-in_default-clause-change : goal.returns-in_default-clause-change
returns-in_default-clause-change c =
    let f = c.self.inside in
    rw (← c.self.view_is) (rw (← c.info.ensures) (enter-stray f.index f.last f.pulls.items f.copies.items c.self.invariant c.info.result.now (sym (c.in_default.ensures.found ∙ ap (pull_for c.info.result.now Pulling) c.deref.ensures.value))))

pub returns-in-Some-entry_obstacle-clause-change : goal.returns-in-Some-entry_obstacle-clause-change
returns-in-Some-entry_obstacle-clause-change c =
    let f = c.self.inside in
    let t = c.info.result.now in
    let p = c.index-pull.result.now in
    let at = enter-at f.index f.last f.pulls.items f.copies.items c.self.invariant t c.deref.result.now c.deref.ensures.value c.in-Some.place c.in-Some.ensures.within c.in-Some.ensures.found p c.index-pull.ensures in
    let group = c.announcements_of-group.ensures ∙ ap (λ n. filter (is_of n) (entries f.index.announced)) (c.name.ensures ∙ ap (λ (u : PullInfo). u.name) (sym c.info.ensures)) in
    let full = c.is_full-is_full.ensures ∙ ap (nat_le (max_sequence - f.last)) (c.open_commits.ensures ∙ ap commits c.deref-2.ensures.value) in
    rw (← c.self.view_is) (rw (← c.info.ensures) (rw c.not_entered.ensures.told (enter-refused f.index f.last f.pulls.items f.copies.items c.self.invariant t p at c.me.result c.me.ensures c.announcements_of-group.result.now group (option_copied c.record_from-local.result) c.record_from-local.ensures c.is_full-is_full.result full c.entry_obstacle.result c.entry_obstacle.ensures c.in-Some-entry_obstacle.obstacle c.in-Some-entry_obstacle.is)))

pub returns-then-is_err-clause-refused : goal.returns-then-is_err-clause-refused
returns-then-is_err-clause-refused c =
    let f = c.self.inside in
    let t = c.info.result.now in
    let p = c.index-pull.result.now in
    let at = enter-at f.index f.last f.pulls.items f.copies.items c.self.invariant t c.deref.result.now c.deref.ensures.value c.in-Some.place c.in-Some.ensures.within c.in-Some.ensures.found p c.index-pull.ensures in
    let group = c.announcements_of-group.ensures ∙ ap (λ n. filter (is_of n) (entries f.index.announced)) (c.name.ensures ∙ ap (λ (u : PullInfo). u.name) (sym c.info.ensures)) in
    let full = c.is_full-is_full.ensures ∙ ap (nat_le (max_sequence - f.last)) (c.open_commits.ensures ∙ ap commits c.deref-2.ensures.value) in
    rw (← c.self.view_is) (rw (← c.info.ensures) (λ refused. absurd (true≢false (sym (enter-is_accepted f.index f.last f.pulls.items f.copies.items c.self.invariant t p at c.me.result c.me.ensures c.announcements_of-group.result.now group (option_copied c.record_from-local.result) c.record_from-local.ensures c.is_full-is_full.result full c.entry_obstacle.result c.entry_obstacle.ensures c.in_default-entry_obstacle.is) ∙ refused))))

pub invariant_of-self-2 : goal.invariant_of-self-2
invariant_of-self-2 c =
    let f = c.self.inside in
    let t = c.info.result.now in
    let p = c.index-pull.result.now in
    let at = enter-at f.index f.last f.pulls.items f.copies.items c.self.invariant t c.deref.result.now c.deref.ensures.value c.in-Some.place c.in-Some.ensures.within c.in-Some.ensures.found p c.index-pull.ensures in
    let group = c.announcements_of-group.ensures ∙ ap (λ n. filter (is_of n) (entries f.index.announced)) (c.name.ensures ∙ ap (λ (u : PullInfo). u.name) (sym c.info.ensures)) in
    let full = c.is_full-is_full.ensures ∙ ap (nat_le (max_sequence - f.last)) (c.open_commits.ensures ∙ ap commits c.deref-2.ensures.value) in
    let ok = sym c.is_err.ensures.value ∙ c.if-is_err.false in
    let place = c.in-Some.ensures.place ∙ ap (position_of t.name) (c.deref.ensures.value ∙ sym c.deref_mut.ensures.value) in
    let kept = with_items_is f.pulls c.make_ready-made.new.pulls (let a = c.make_ready-made.auto.pulls in let b = c.deref_mut.ensures.len in omega arith) in
    let copied = with_items_is f.copies c.make_ready-made.new.copies (let a = c.make_ready-made.auto.copies in let b = c.deref_mut-2.ensures.len in omega arith) in
    rw (kept, copied) (enter-indexed f.index f.last f.pulls.items f.copies.items c.self.invariant t p at c.me.result c.me.ensures c.announcements_of-group.result.now group (option_copied c.record_from-local.result) c.record_from-local.ensures c.is_full-is_full.result full c.entry_obstacle.result c.entry_obstacle.ensures c.in_default-entry_obstacle.is c.deref_mut.result.now c.make_ready-made.new.pulls c.deref_mut.ensures.value c.in-Some.place place (ok_from c.make_ready-made.result ok c.make_ready-made.ensures.ready) c.make_ready-made.new.index (ok_from c.make_ready-made.result ok c.make_ready-made.ensures.reserved) c.make_ready-made.new.copies c.make_ready-made.ensures.copies)

pub returns-clause-change : goal.returns-clause-change
returns-clause-change c =
    let f = c.self.inside in
    let t = c.info.result.now in
    let p = c.index-pull.result.now in
    let at = enter-at f.index f.last f.pulls.items f.copies.items c.self.invariant t c.deref.result.now c.deref.ensures.value c.in-Some.place c.in-Some.ensures.within c.in-Some.ensures.found p c.index-pull.ensures in
    let group = c.announcements_of-group.ensures ∙ ap (λ n. filter (is_of n) (entries f.index.announced)) (c.name.ensures ∙ ap (λ (u : PullInfo). u.name) (sym c.info.ensures)) in
    let full = c.is_full-is_full.ensures ∙ ap (nat_le (max_sequence - f.last)) (c.open_commits.ensures ∙ ap commits c.deref-2.ensures.value) in
    let ok = sym c.is_err.ensures.value ∙ c.if-is_err.false in
    let place = c.in-Some.ensures.place ∙ ap (position_of t.name) (c.deref.ensures.value ∙ sym c.deref_mut.ensures.value) in
    let kept = with_items_is f.pulls c.make_ready-made.new.pulls (let a = c.make_ready-made.auto.pulls in let b = c.deref_mut.ensures.len in omega arith) in
    let copied = with_items_is f.copies c.make_ready-made.new.copies (let a = c.make_ready-made.auto.copies in let b = c.deref_mut-2.ensures.len in omega arith) in
    rw kept (rw (← c.self.view_is)
    (subst (λ (u : PullInfo). step (folder_with f.index f.last (pulls_of f.pulls.items)) (EnterCommit u) ≡ (Entered u, folder_with c.make_ready-made.new.index f.last (pulls_of c.make_ready-made.new.pulls))) c.info.ensures
    (enter-step f.index f.last f.pulls.items f.copies.items c.self.invariant t p at c.me.result c.me.ensures c.announcements_of-group.result.now group (option_copied c.record_from-local.result) c.record_from-local.ensures c.is_full-is_full.result full c.entry_obstacle.result c.entry_obstacle.ensures c.in_default-entry_obstacle.is c.deref_mut.result.now c.make_ready-made.new.pulls c.deref_mut.ensures.value c.in-Some.place place (ok_from c.make_ready-made.result ok c.make_ready-made.ensures.ready) c.make_ready-made.new.index (ok_from c.make_ready-made.result ok c.make_ready-made.ensures.reserved) c.make_ready-made.new.copies c.make_ready-made.ensures.copies)
    ∙ ap (λ (u : PullInfo). (Entered u, folder_with c.make_ready-made.new.index f.last (pulls_of c.make_ready-made.new.pulls))) (sym (c.new.ensures ∙ c.into_info.ensures))))

pub returns-clause-choices : goal.returns-clause-choices
returns-clause-choices c =
    let f = c.self.inside in
    let t = c.info.result.now in
    let p = c.index-pull.result.now in
    let at = enter-at f.index f.last f.pulls.items f.copies.items c.self.invariant t c.deref.result.now c.deref.ensures.value c.in-Some.place c.in-Some.ensures.within c.in-Some.ensures.found p c.index-pull.ensures in
    let group = c.announcements_of-group.ensures ∙ ap (λ n. filter (is_of n) (entries f.index.announced)) (c.name.ensures ∙ ap (λ (u : PullInfo). u.name) (sym c.info.ensures)) in
    let full = c.is_full-is_full.ensures ∙ ap (nat_le (max_sequence - f.last)) (c.open_commits.ensures ∙ ap commits c.deref-2.ensures.value) in
    let ok = sym c.is_err.ensures.value ∙ c.if-is_err.false in
    let place = c.in-Some.ensures.place ∙ ap (position_of t.name) (c.deref.ensures.value ∙ sym c.deref_mut.ensures.value) in
    let kept = with_items_is f.pulls c.make_ready-made.new.pulls (let a = c.make_ready-made.auto.pulls in let b = c.deref_mut.ensures.len in omega arith) in
    let copied = with_items_is f.copies c.make_ready-made.new.copies (let a = c.make_ready-made.auto.copies in let b = c.deref_mut-2.ensures.len in omega arith) in
    rw (← c.self.view_is) (enter-counted f.index f.last f.pulls.items f.copies.items c.self.invariant t p at c.me.result c.me.ensures c.announcements_of-group.result.now group (option_copied c.record_from-local.result) c.record_from-local.ensures c.is_full-is_full.result full c.entry_obstacle.result c.entry_obstacle.ensures c.in_default-entry_obstacle.is c.deref_mut.result.now c.make_ready-made.new.pulls c.deref_mut.ensures.value c.in-Some.place place (ok_from c.make_ready-made.result ok c.make_ready-made.ensures.ready) c.make_ready-made.new.index (ok_from c.make_ready-made.result ok c.make_ready-made.ensures.reserved) c.make_ready-made.new.copies c.make_ready-made.ensures.copies)
