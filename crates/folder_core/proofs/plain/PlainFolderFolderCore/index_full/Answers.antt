use Rattle.std.proofs.Common.{◌≢◌, ◌≡◌, List, map, subst, sym, ap, ◌∙◌, arith, rules}
use Rattle.std.specs.Prelude.{filter}
use Rattle.std.proofs.lemmas.Fn.{filter_same}
use Rattle.folder_core.specs.declared.announcement.Announcement.{Announcement as Entry}
use Rattle.folder_core.specs.Plain.{IsLastOfEach, commits, Rises, filed, filed_by, pulls_of, put_all}
use Rattle.folder_core.specs.declared.change.Change.TheVariants.{IndexFull}
use Rattle.folder_core.proofs.PlainChange.{full_rises, full_step, is_of_another, others-rise, plain_with}
use Rattle.folder_core.proofs.plain.PlainFolderFolderCore.index_full.Goals as goal

pub merge-requires-clause-rises : goal.merge-requires-clause-rises
merge-requires-clause-rises c =
    let entries = c.self.inside.entries.items in
    let others : c.retain.new.self.items ≡ filter (is_of_another c.args.device) c.room_for.new.entries.items = filter_same _ (is_of_another c.args.device) _ (λ x b f' calls. search rules) _ _ c.retain.ensures.filtered in
    subst Rises (sym (others ∙ ap (filter (is_of_another c.args.device)) c.room_for.ensures.entries_stay)) (others-rise c.args.device entries c.self.invariant.rises)

pub invariant_of-self-2 : goal.invariant_of-self-2
invariant_of-self-2 c =
    let others : c.retain.new.self.items ≡ filter (is_of_another c.args.device) c.room_for.new.entries.items = filter_same _ (is_of_another c.args.device) _ (λ x b f' calls. search rules) _ _ c.retain.ensures.filtered in
    let all = c.merge.ensures.merged ∙ ap (λ (es : List Entry). put_all (map filed es) (map (filed_by c.args.device) c.in_ok-records.records.items)) (others ∙ ap (filter (is_of_another c.args.device)) c.room_for.ensures.entries_stay) in
    let last = subst (λ rs. IsLastOfEach rs c.in_ok-records.records.items) c.into_vec.ensures c.in_ok-records.ensures.last in
    plain_with c.self.inside.me c.self.inside.entries.items c.merge.new.entries.items _ _ c.self.inside.last c.self.inside.pulls.items (IndexFull c.args.device c.args.records) c.self.invariant
    (subst (λ s. c.args.device ≢ s.me) (sym c.self.view_is) c.requires)
    (full_rises c.self.inside.me c.args.device c.self.inside.entries.items _ c.self.inside.last (pulls_of c.self.inside.pulls.items) c.args.records c.in_ok-records.records.items last c.self.invariant.rises all)
    (full_step c.self.inside.me c.args.device c.self.inside.entries.items _ c.self.inside.last (pulls_of c.self.inside.pulls.items) c.args.records c.in_ok-records.records.items last c.self.invariant.rises all)
    (let p = c.open_commits.ensures ∙ ap commits c.deref.ensures.value in let a = c.merge.ensures.len in let b = c.merge.ensures.capacity in let d = c.in_ok-room.ensures.entries_fit in let e = c.retain.ensures.capacity in let f = c.retain.ensures.bound in omega arith)

pub returns-clause-changes : goal.returns-clause-changes
returns-clause-changes c =
    let others : c.retain.new.self.items ≡ filter (is_of_another c.args.device) c.room_for.new.entries.items = filter_same _ (is_of_another c.args.device) _ (λ x b f' calls. search rules) _ _ c.retain.ensures.filtered in
    let last = subst (λ rs. IsLastOfEach rs c.in_ok-records.records.items) c.into_vec.ensures c.in_ok-records.ensures.last in
    rw (← c.self.view_is) (full_step c.self.inside.me c.args.device c.self.inside.entries.items _ c.self.inside.last (pulls_of c.self.inside.pulls.items) c.args.records c.in_ok-records.records.items last c.self.invariant.rises
    (c.merge.ensures.merged ∙ ap (λ (es : List Entry). put_all (map filed es) (map (filed_by c.args.device) c.in_ok-records.records.items)) (others ∙ ap (filter (is_of_another c.args.device)) c.room_for.ensures.entries_stay)))
