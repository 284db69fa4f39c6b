use Rattle.std.proofs.Common.{◌≡◌, ◌<◌, ◌+◌, ◌++◌, ◌∷◌, [], List, Option, length, take, arith, rules, subst, sym}
use Rattle.std.specs.List.{AllZip}
use Rattle.index_sender.specs.Pages.{Progress}
use Rattle.peer_conn.specs.Indexing.{BeginsAt}
use Rattle.peer_conn.proofs.Seeing.{all_itself, all_set}
use Rattle.peer_conn.proofs.Telling.{begins-push}
use Rattle.peer_conn.proofs.indexer.senders_of.Goals as goal

pub returns-in_err-senders-clause-stays : goal.returns-in_err-senders-clause-stays
returns-in_err-senders-clause-stays g c = all_itself g.W.FolderCalls.folder g.W.FolderCalls.view c.args.folders.now

pub returns-in_err-push-clause-stays : goal.returns-in_err-push-clause-stays
returns-in_err-push-clause-stays g c =
    let lt : c.loop-folder.folder-index < length c.loop-folder.folder-items = omega arith in
    all_set g.W.FolderCalls.folder g.W.FolderCalls.view c.args.folders.now c.loop-folder.folder-items c.loop-folder.folder-index c.folder-item.result c.sender_of.new.folder
    c.loop-folder.invariant.stays lt c.sender_of.ensures.stays

pub loop-folder-init : goal.loop-folder-init
loop-folder-init g c = record {
  stays = all_itself g.W.FolderCalls.folder g.W.FolderCalls.view c.args.folders.now;
  begins = (let none : c.in_ok-senders.senders.items ≡ [] = search rules in subst (AllZip (BeginsAt g.W.FolderCalls.view c.args.config.now) []) (sym none) tt);
}

pub loop-folder-preserved : goal.loop-folder-preserved
loop-folder-preserved g c =
    let view = g.W.FolderCalls.view in
    let lt : c.loop-folder.folder-index < length c.loop-folder.folder-items = omega arith in
    let pushed : c.push.new.self.items ≡ c.loop-folder.senders.items ++ c.sender_of.result ∷ [] = search rules in
    record {
      stays = all_set g.W.FolderCalls.folder view c.args.folders.now c.loop-folder.folder-items c.loop-folder.folder-index c.folder-item.result c.sender_of.new.folder
          c.loop-folder.invariant.stays lt c.sender_of.ensures.stays;
      begins = subst (λ (l : List (Option Progress)). AllZip (BeginsAt view c.args.config.now) (take (c.loop-folder.folder-index + 1) c.args.folders.now) l) (sym pushed)
          (begins-push g.W.FolderCalls.folder view c.args.config.now c.args.folders.now c.loop-folder.folder-items c.loop-folder.folder-index c.folder-item.result c.loop-folder.senders.items c.sender_of.result
          c.loop-folder.invariant.stays lt c.loop-folder.invariant.begins c.sender_of.ensures.begins);
    }
