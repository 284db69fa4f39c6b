use Rattle.std.proofs.Common.{◌≢◌, List, map, subst, sym, ap, ◌∙◌, arith}
use Rattle.folder_core.specs.declared.announcement.Announcement.{Announcement as Entry}
use Rattle.folder_core.specs.Plain.{IsLastOfEach, commits, filed, filed_by, pulls_of, put_all}
use Rattle.folder_core.specs.declared.change.Change.TheVariants.{IndexMore}
use Rattle.folder_core.proofs.PlainChange.{more_rises, more_step, plain_with}
use Rattle.folder_core.proofs.plain.PlainFolderFolderCore.index_more.Goals as goal

pub invariant_of-self-2 : goal.invariant_of-self-2
invariant_of-self-2 c =
    let all = c.merge.ensures.merged ∙ ap (λ (es : List Entry). put_all (map filed es) (map (filed_by c.args.device) c.in_ok-latest.latest.items)) c.room_for.ensures.entries_stay in
    let last = subst (λ rs. IsLastOfEach rs c.in_ok-latest.latest.items) c.into_vec.ensures c.in_ok-latest.ensures.last in
    plain_with c.self.inside.me c.self.inside.entries.items c.merge.new.entries.items _ _ c.self.inside.last c.self.inside.pulls.items (IndexMore c.args.device c.args.records) c.self.invariant
    (subst (λ s. c.args.device ≢ s.me) (sym c.self.view_is) c.requires)
    (more_rises c.self.inside.me c.args.device c.self.inside.entries.items _ c.self.inside.last (pulls_of c.self.inside.pulls.items) c.args.records c.in_ok-latest.latest.items last c.self.invariant.rises all)
    (more_step c.self.inside.me c.args.device c.self.inside.entries.items _ c.self.inside.last (pulls_of c.self.inside.pulls.items) c.args.records c.in_ok-latest.latest.items last c.self.invariant.rises all)
    (let p = c.open_commits.ensures ∙ ap commits c.deref.ensures.value in let a = c.merge.ensures.len in let b = c.merge.ensures.capacity in let d = c.in_ok-room.ensures.entries_fit in omega arith)

pub returns-clause-changes : goal.returns-clause-changes
returns-clause-changes c =
    let last = subst (λ rs. IsLastOfEach rs c.in_ok-latest.latest.items) c.into_vec.ensures c.in_ok-latest.ensures.last in
    rw (← c.self.view_is) (more_step c.self.inside.me c.args.device c.self.inside.entries.items _ c.self.inside.last (pulls_of c.self.inside.pulls.items) c.args.records c.in_ok-latest.latest.items last c.self.invariant.rises
    (c.merge.ensures.merged ∙ ap (λ (es : List Entry). put_all (map filed es) (map (filed_by c.args.device) c.in_ok-latest.latest.items)) c.room_for.ensures.entries_stay))
