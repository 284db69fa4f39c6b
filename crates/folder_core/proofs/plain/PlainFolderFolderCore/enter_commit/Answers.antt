use Rattle.std.proofs.Common.{◌≡◌, ◌-◌, sym, ap, ◌∙◌, arith}
use Rattle.std.specs.Prelude.{filter, nat_le}
use Rattle.std.proofs.lemmas.Bool.{true≢false}
use Rattle.std.proofs.lemmas.List.{with_items_is}
use Rattle.folder_core.specs.declared.pull_stage.PullStage.TheVariants.{Pulling}
use Rattle.folder_core.specs.Plain.{commits}
use Rattle.folder_core.specs.PlainPulls.{position_of, pull_for}
use Rattle.folder_core.specs.PlainScans.{first_of}
use Rattle.folder_core.specs.States.{max_sequence}
use Rattle.folder_core.proofs.PlainBegin.{own-is}
use Rattle.folder_core.proofs.PlainChange.{plain_roomy}
use Rattle.folder_core.proofs.PlainEnter.{enter-at, enter-is_accepted, enter-plain, enter-refused, enter-set, enter-step, enter-stray, err_from, ok_from, tests-are}
use Rattle.folder_core.proofs.PlainGroup.{is_named}
use Rattle.folder_core.proofs.plain.PlainFolderFolderCore.enter_commit.Goals as goal

pub returns-in_default-clause-change : goal.returns-in_default-clause-change
returns-in_default-clause-change c =
    rw (← c.self.view_is) (rw (← c.ticket.view_is) (enter-stray c.self.inside.me c.self.inside.entries.items _ c.self.inside.last c.self.inside.pulls.items c.self.invariant c.ticket.inside.info (sym (c.in_default.ensures.found ∙ ap (pull_for c.ticket.inside.info Pulling) c.deref.ensures.value))))

pub returns-in-Some-entry_obstacle-clause-change : goal.returns-in-Some-entry_obstacle-clause-change
returns-in-Some-entry_obstacle-clause-change c =
    let f = c.self.inside in
    let t = c.ticket.inside.info in
    let p = c.index-pull.result.now in
    let is = enter-at f.me f.entries.items _ f.last f.pulls.items c.self.invariant t c.deref.result.now c.deref.ensures.value c.in-Some.place c.in-Some.ensures.within c.in-Some.ensures.found p c.index-pull.ensures in
    let group : c.entries_of-group.result.now ≡ filter (is_named t.name) f.entries.items = c.entries_of-group.ensures ∙ ap (filter (is_named t.name)) c.as_slice.ensures.value in
    let own = own-is f.me f.entries.items _ f.last f.pulls.items c.self.invariant t.name _ group _ c.record_from-local.ensures in
    let promised = c.open_commits-promised.ensures ∙ ap commits c.deref-2.ensures.value in
    let full = c.is_full-is_full.ensures ∙ ap (nat_le (max_sequence - f.last)) promised in
    let told = c.entry_obstacle.ensures ∙ ap first_of (tests-are f.me f.entries.items _ f.last f.pulls.items c.self.invariant t p is _ _ _ group own full) in
    rw (← c.self.view_is) (rw (← c.ticket.view_is) (rw c.not_entered.ensures.told (enter-refused f.me f.entries.items _ f.last f.pulls.items c.self.invariant t p is c.entry_obstacle.result told c.in-Some-entry_obstacle.obstacle c.in-Some-entry_obstacle.is)))

pub returns-then-is_err-clause-refused : goal.returns-then-is_err-clause-refused
returns-then-is_err-clause-refused c =
    let f = c.self.inside in
    let t = c.ticket.inside.info in
    let p = c.index-pull.result.now in
    let is = enter-at f.me f.entries.items _ f.last f.pulls.items c.self.invariant t c.deref.result.now c.deref.ensures.value c.in-Some.place c.in-Some.ensures.within c.in-Some.ensures.found p c.index-pull.ensures in
    let group : c.entries_of-group.result.now ≡ filter (is_named t.name) f.entries.items = c.entries_of-group.ensures ∙ ap (filter (is_named t.name)) c.as_slice.ensures.value in
    let own = own-is f.me f.entries.items _ f.last f.pulls.items c.self.invariant t.name _ group _ c.record_from-local.ensures in
    let promised = c.open_commits-promised.ensures ∙ ap commits c.deref-2.ensures.value in
    let full = c.is_full-is_full.ensures ∙ ap (nat_le (max_sequence - f.last)) promised in
    let told = c.entry_obstacle.ensures ∙ ap first_of (tests-are f.me f.entries.items _ f.last f.pulls.items c.self.invariant t p is _ _ _ group own full) in
    rw (← c.self.view_is) (rw (← c.ticket.view_is) (λ refused. absurd (true≢false (sym (enter-is_accepted f.me f.entries.items _ f.last f.pulls.items c.self.invariant t p is c.entry_obstacle.result told c.in_default-entry_obstacle.is) ∙ refused))))

pub invariant_of-self : goal.invariant_of-self
invariant_of-self c =
    let stay = err_from c.make_ready.result (sym c.is_err.ensures.value ∙ c.if-is_err.true) c.make_ready.ensures.stay in
    let kept = with_items_is c.self.inside.pulls c.make_ready.new.pulls (let a = c.make_ready.auto.pulls in let b = c.deref_mut.ensures.len in omega arith) ∙ stay ∙ c.deref_mut.ensures.value in
    rw kept (plain_roomy c.self.inside.me c.self.inside.entries.items c.make_ready.new.entries.items _ _ c.self.inside.last c.self.inside.pulls.items c.self.invariant c.make_ready.ensures.entries_stay
    (let a = c.self.invariant.room in let b = c.make_ready.ensures.grown in let d = c.make_ready.ensures.len in omega arith))

pub invariant_of-self-2 : goal.invariant_of-self-2
invariant_of-self-2 c =
    let f = c.self.inside in
    let t = c.ticket.inside.info in
    let p = c.index-pull.result.now in
    let is = enter-at f.me f.entries.items _ f.last f.pulls.items c.self.invariant t c.deref.result.now c.deref.ensures.value c.in-Some.place c.in-Some.ensures.within c.in-Some.ensures.found p c.index-pull.ensures in
    let group : c.entries_of-group.result.now ≡ filter (is_named t.name) f.entries.items = c.entries_of-group.ensures ∙ ap (filter (is_named t.name)) c.as_slice.ensures.value in
    let own = own-is f.me f.entries.items _ f.last f.pulls.items c.self.invariant t.name _ group _ c.record_from-local.ensures in
    let promised = c.open_commits-promised.ensures ∙ ap commits c.deref-2.ensures.value in
    let full = c.is_full-is_full.ensures ∙ ap (nat_le (max_sequence - f.last)) promised in
    let told = c.entry_obstacle.ensures ∙ ap first_of (tests-are f.me f.entries.items _ f.last f.pulls.items c.self.invariant t p is _ _ _ group own full) in
    let set = enter-set f.me f.entries.items _ f.last f.pulls.items c.self.invariant t p is c.entry_obstacle.result told c.in_default-entry_obstacle.is c.deref_mut.result.now c.make_ready.new.pulls c.deref_mut.ensures.value c.in-Some.place (c.in-Some.ensures.place ∙ ap (position_of t.name) (c.deref.ensures.value ∙ sym c.deref_mut.ensures.value)) (ok_from c.make_ready.result (sym c.is_err.ensures.value ∙ c.if-is_err.false) c.make_ready.ensures.ready) in
    let kept = with_items_is f.pulls c.make_ready.new.pulls (let a = c.make_ready.auto.pulls in let b = c.deref_mut.ensures.len in omega arith) in
    let fits = ok_from c.make_ready.result (sym c.is_err.ensures.value ∙ c.if-is_err.false) c.make_ready.ensures.entries_fit in
    rw kept (enter-plain f.me f.entries.items _ f.last f.pulls.items c.self.invariant t p is c.entry_obstacle.result told c.in_default-entry_obstacle.is c.make_ready.new.pulls set c.make_ready.new.entries.items _ c.make_ready.ensures.entries_stay (omega (arith, fits, promised)))

pub returns-clause-change : goal.returns-clause-change
returns-clause-change c =
    let f = c.self.inside in
    let t = c.ticket.inside.info in
    let p = c.index-pull.result.now in
    let is = enter-at f.me f.entries.items _ f.last f.pulls.items c.self.invariant t c.deref.result.now c.deref.ensures.value c.in-Some.place c.in-Some.ensures.within c.in-Some.ensures.found p c.index-pull.ensures in
    let group : c.entries_of-group.result.now ≡ filter (is_named t.name) f.entries.items = c.entries_of-group.ensures ∙ ap (filter (is_named t.name)) c.as_slice.ensures.value in
    let own = own-is f.me f.entries.items _ f.last f.pulls.items c.self.invariant t.name _ group _ c.record_from-local.ensures in
    let promised = c.open_commits-promised.ensures ∙ ap commits c.deref-2.ensures.value in
    let full = c.is_full-is_full.ensures ∙ ap (nat_le (max_sequence - f.last)) promised in
    let told = c.entry_obstacle.ensures ∙ ap first_of (tests-are f.me f.entries.items _ f.last f.pulls.items c.self.invariant t p is _ _ _ group own full) in
    let set = enter-set f.me f.entries.items _ f.last f.pulls.items c.self.invariant t p is c.entry_obstacle.result told c.in_default-entry_obstacle.is c.deref_mut.result.now c.make_ready.new.pulls c.deref_mut.ensures.value c.in-Some.place (c.in-Some.ensures.place ∙ ap (position_of t.name) (c.deref.ensures.value ∙ sym c.deref_mut.ensures.value)) (ok_from c.make_ready.result (sym c.is_err.ensures.value ∙ c.if-is_err.false) c.make_ready.ensures.ready) in
    let kept = with_items_is f.pulls c.make_ready.new.pulls (let a = c.make_ready.auto.pulls in let b = c.deref_mut.ensures.len in omega arith) in
    let same = c.make_ready.ensures.entries_stay in
    rw kept (rw same (rw (← c.self.view_is) (rw (← c.ticket.view_is) (enter-step f.me f.entries.items _ f.last f.pulls.items c.self.invariant t p is c.entry_obstacle.result told c.in_default-entry_obstacle.is c.make_ready.new.pulls set))))
