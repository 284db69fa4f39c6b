use Rattle.std.proofs.Common.{ap, subst, sym, ◌∙◌}
use Rattle.folder_calls.specs.Shared.{CallerView}
use Rattle.sync_pull.specs.Pulled.{IfDone}
use Rattle.proof_layers.specs.Carried.{Carries, ComesTo}
use Rattle.proof_layers.proofs.AloneLemmas.{AnswerLaws, goes-asks}
use Rattle.proof_layers.proofs.CarryLemmas.{BestLaws, carries, if_done_then}
use Rattle.proof_layers.specs.Told.{changes_of}
use Rattle.proof_layers.proofs.carrying.carry.Goals as goal

pub send_index-requires : goal.send_index-requires
send_index-requires g c = record {
  apart = λ e. c.requires (sym (ap (λ (v : CallerView). v.opening.me) c.in_ok-scan.ensures.goes_on.same) ∙ e);
  between = c.in_ok-near.ensures.1;
}

pub returns : goal.returns
returns g c =
    let name = c.args.name.now in
    let one = g.A.FolderCalls.view c.args.one.now in
    let scanned = g.A.FolderCalls.view c.scan.new.calls in
    let sent = g.A.FolderCalls.view c.send_index.new.from in
    let other = g.B.FolderCalls.view c.args.other.now in
    let mid = g.B.FolderCalls.view c.send_index.new.to in
    let done = g.B.FolderCalls.view c.pull.new.other in
    let here = (g.S.FileStore.tree c.scan.new.store).names name in
    let there = (g.T.FileStore.tree c.pull.new.other_store).names name in
    let me = scanned.opening.me in
    let answers : AnswerLaws = record { accepted = c.answers_are_those_of_the_folder.ensures.accepted; adds = c.changes_are_asked_in_order.ensures.adds } in
    let laws : BestLaws = record {
      begun = λ s n t is. (c.begun_pulls_are_of_the_name.ensures s n t is).4;
      found = c.best_is_preferred.ensures.found;
      undominated = c.best_is_preferred.ensures.undominated;
    } in
    let goes = c.in_ok-scan.ensures.goes_on in
    let sends = c.in_ok-send_index.ensures.sends in
    let told = c.in_ok-send_index.ensures.told in
    let others = c.in_ok-send_index.ensures.others in
    let same = ap (λ (v : CallerView). v.opening.me) goes.same in
    record {
      kept = c.in_ok-scan.ensures.kept;
      carries = λ here_kept there_kept. subst (λ d. IfDone c.pull.result (Carries d name one sent other done here there)) same
          (if_done_then c.pull.result
          (carries answers laws c.what_is_pulled_is_what_was_scanned.ensures.alike c.same_content_is_an_equivalence.ensures.reflexive me name one scanned sent other mid done here there
          (c.views_are_of_folders.ensures.folder sent c.in_ok-send_index.ensures.legal) goes (c.in_ok-scan.ensures.stands here_kept) c.send_index.ensures.sees
          (goes-asks answers other mid (changes_of me sends.pages) sends.asks) (λ alone. told alone name) (λ alone e apart. others alone e name apart))
          (c.pull.ensures.target there_kept));
      comes = subst (λ d. ComesTo d name sent other c.pull.result done) same (record {
        mid = mid;
        heard = goes-asks answers other mid (changes_of me sends.pages) sends.asks;
        told = λ alone. told alone name;
        asks = c.pull.ensures.asks;
      });
    }
