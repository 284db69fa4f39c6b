use Rattle.std.proofs.Common.{◌∷◌, ◌++◌, [], ap, refl, subst, ◌∙◌}
use Rattle.folder_calls.specs.Shared.{now}
use Rattle.index_sender.specs.Pages.{Gives, sending_from}
use Rattle.index_sender.specs.Overlay.{KeepsUp}
use Rattle.proof_layers.specs.Told.{changes_of}
use Rattle.proof_layers.proofs.AloneLemmas.{sees-itself, sees-on}
use Rattle.proof_layers.proofs.SendLemmas.{PageLaws, asks-opening, sends-all, sends-more, sends-none, same-point}
use Rattle.proof_layers.proofs.sending.send_pages.Goals as goal

pub loop-turn-init : goal.loop-turn-init
loop-turn-init g c =
    let from = g.A.FolderCalls.view c.args.from.now in
    let to = g.B.FolderCalls.view c.args.to.now in
    record {
      from_folder = refl;
      to_folder = refl;
      sees = sees-itself from;
      between = c.requires.between;
      so_far = sends-none c.args.device c.args.start c.new-sender.result from to c.new-sender.ensures (c.pages_keep_up.ensures.none c.args.start from);
    }

pub returns-in-Nothing-clause-sends : goal.returns-in-Nothing-clause-sends
returns-in-Nothing-clause-sends g c =
    let before = g.A.FolderCalls.view c.loop-turn.from in
    let after = g.A.FolderCalls.view c.next_page.new.calls in
    let start = (sending_from c.args.start).cursor in
    let laws : PageLaws = record { end = c.nothing_is_left.ensures.end; whole = c.nothing_is_left.ensures.whole } in
    let gives = subst (λ p. Gives (now after) c.loop-turn.sender p c.next_page.new.self) c.in-Nothing.is c.in_ok-page.ensures.gives.1 in
    sends-all laws c.args.device c.args.start c.next_page.new.self c.loop-turn.sender before after (g.B.FolderCalls.view c.args.to.now) (g.B.FolderCalls.view c.loop-turn.to)
    (c.views_are_of_folders.ensures.folder after c.in_ok-page.ensures.gives.0) c.loop-turn.invariant.so_far gives
    (λ pages k. subst (λ p. KeepsUp start (pages ++ p ∷ []) c.next_page.new.self after) c.in-Nothing.is (c.in_ok-page.ensures.keeps_up start pages before (same-point before) k))

pub send_page-requires : goal.send_page-requires
send_page-requires g c =
    let laws = c.changes_are_asked_in_order.ensures.adds in
    let so_far = c.loop-turn.invariant.so_far in
    let same = asks-opening laws (g.B.FolderCalls.view c.args.to.now) (g.B.FolderCalls.view c.loop-turn.to) (changes_of c.args.device so_far.pages) so_far.asks in
    record {
      apart = λ e. c.requires.apart (e ∙ ap (λ s. s.me) same);
      between = c.loop-turn.invariant.between;
    }

pub loop-turn-preserved : goal.loop-turn-preserved
loop-turn-preserved g c =
    let before = g.A.FolderCalls.view c.loop-turn.from in
    let after = g.A.FolderCalls.view c.next_page.new.calls in
    let old = g.B.FolderCalls.view c.args.to.now in
    let mid = g.B.FolderCalls.view c.loop-turn.to in
    let new = g.B.FolderCalls.view c.send_page.new.to in
    let start = (sending_from c.args.start).cursor in
    let held = c.loop-turn.invariant in
    let page = c.in_ok-page.page in
    let asks = c.in_ok-send_page-in_default.ensures.asks in
    record {
      from_folder = c.in_ok-page.ensures.folder ∙ held.from_folder;
      to_folder = c.in_ok-send_page-in_default.ensures.folder ∙ held.to_folder;
      sees = sees-on (g.A.FolderCalls.view c.args.from.now) before after held.sees c.in_ok-page.ensures.sees;
      between = c.in_ok-send_page-in_default.ensures.between;
      so_far = sends-more c.changes_are_asked_in_order.ensures.together c.args.device c.args.start c.loop-turn.sender c.next_page.new.self page before after old mid new
          held.so_far c.in_ok-page.ensures.gives.1 (λ pages k. c.in_ok-page.ensures.keeps_up start pages before (same-point before) k) asks;
    }
