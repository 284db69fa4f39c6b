use Rattle.std.proofs.Common.{rules, ◌≡◌, ◌++◌, ◌∷◌, [], refl, ap, subst, sym, ◌∙◌, append_assoc, append-nil}
use Rattle.std.specs.List.{AllByRecursion}
use Rattle.folder_calls.specs.Shared.{now}
use Rattle.index_sender.specs.Overlay.{KeepsUp}
use Rattle.index_sender.specs.Pages.{Gives, records_of}
use Rattle.index_sender.specs.declared.page.Page.{Page}
use Rattle.index_sender.specs.declared.page.Page.TheVariants.{Nothing}
use Rattle.node_saver.specs.Frames.{records_frame}
use Rattle.node_saver.specs.Saving.{IsReadAgain, none, none_given, one_given, one_more, told}
use Rattle.node_saver.proofs.Records.{again-push}
use Rattle.node_saver.proofs.SoFar.{goes-itself, keeps-without, sees-on, sees_together, told-none, told-some}
use Rattle.node_saver.proofs.saving.save_records.Goals as goal

pub loop-turn-init : goal.loop-turn-init
loop-turn-init g c = record {
  folder = refl;
  sees = search rules;
  so_far = record {
    pages = [];
    saves = none;
    given = none_given;
    again = tt;
    on = λ start told point goes keeps. (point, goes, subst (λ l. KeepsUp start l c.args.sender.now point) (sym (append-nil told)) keeps);
  };
}

pub loop-turn-preserved : goal.loop-turn-preserved
loop-turn-preserved g c =
    let before = g.W.FolderCalls.view c.loop-turn.calls in
    let after = g.W.FolderCalls.view c.next_page.new.calls in
    let so_far = c.loop-turn.invariant.so_far in
    let page = c.in_ok-page.page in
    let rs = c.in-Some.records.now in
    let is : rs ≡ records_of page = told-some page rs (search rules) in
    record {
      folder = search rules;
      sees = sees_together (g.W.FolderCalls.view c.args.calls.now) before after c.loop-turn.invariant.sees c.in_ok-page.ensures.sees;
      so_far = record {
        pages = so_far.pages ++ page ∷ [];
        saves = one_more so_far.pages page c.loop-turn.journal c.append.new.self so_far.saves
            (subst (λ f. g.J.FrameJournal.appends c.loop-turn.journal f c.append.new.self) (c.in_ok-frame.ensures.value ∙ ap (records_frame c.args.folder.now) is) c.in_ok-append.ensures);
        given = one_given so_far.pages page before after c.loop-turn.sender c.next_page.new.self so_far.given (sees-on before after c.in_ok-page.ensures.sees)
            c.in_ok-page.ensures.gives.0 c.in_ok-page.ensures.gives.1;
        again = again-push so_far.pages page so_far.again (subst (AllByRecursion IsReadAgain) is c.in_ok-frame.ensures.again);
        on = λ start told point goes keeps.
            let mid = so_far.on start told point goes keeps in (
              after,
              goes-itself after,
              subst (λ l. KeepsUp start l c.next_page.new.self after) (append_assoc told so_far.pages (page ∷ []))
                  (c.in_ok-page.ensures.keeps_up start (told ++ so_far.pages) mid.0 mid.1 mid.2),
            );
      };
    }

pub returns-in_default-clause-saves : goal.returns-in_default-clause-saves
returns-in_default-clause-saves g c =
    let before = g.W.FolderCalls.view c.loop-turn.calls in
    let after = g.W.FolderCalls.view c.next_page.new.calls in
    let so_far = c.loop-turn.invariant.so_far in
    let page = c.in_ok-page.page in
    let none : page ≡ Nothing = told-none page (search rules) in (
      so_far.pages,
      so_far.saves,
      one_given so_far.pages Nothing before after c.loop-turn.sender c.next_page.new.self so_far.given (sees-on before after c.in_ok-page.ensures.sees)
          c.in_ok-page.ensures.gives.0
          (subst (λ (p : Page). Gives (now after) c.loop-turn.sender p c.next_page.new.self) none c.in_ok-page.ensures.gives.1),
      so_far.again,
      λ start told point goes keeps.
          let mid = so_far.on start told point goes keeps in
          keeps-without start (told ++ so_far.pages) c.next_page.new.self after
          (subst (λ (p : Page). KeepsUp start ((told ++ so_far.pages) ++ p ∷ []) c.next_page.new.self after) none
          (c.in_ok-page.ensures.keeps_up start (told ++ so_far.pages) mid.0 mid.1 mid.2)),
    )
