use Rattle.std.proofs.Common.{◌≡◌, List, Option, [], ap, length, rules, ◌∙◌, refl, subst, sym, append-nil}
use Rattle.index_sender.specs.Pages.{Progress}
use Rattle.peer_conn.specs.Words.{put_of}
use Rattle.peer_conn.specs.Indexing.{Tells, no_memory, told, unanswered}
use Rattle.peer_conn.proofs.Slices.{written_back}
use Rattle.peer_conn.proofs.Telling.{HasTold, ToldTo, has-told, told-none, told-then}
use Rattle.peer_conn.proofs.Seeing.{all_itself, all_together}
use Rattle.peer_conn.proofs.indexer.index_all.Goals as goal

pub returns-in_default-clause-tells : goal.returns-in_default-clause-tells
returns-in_default-clause-tells g c = ([], sym (append-nil (put_of c.args.seat.now)), unanswered (search rules))

pub returns-in-Err-clause-tells : goal.returns-in-Err-clause-tells
returns-in-Err-clause-tells g c = ([], sym (append-nil (put_of c.args.seat.now)), no_memory)

pub returns-in_default-clause-stays : goal.returns-in_default-clause-stays
returns-in_default-clause-stays g c = all_itself g.W.FolderCalls.folder g.W.FolderCalls.view c.args.folders.now

pub loop-init : goal.loop-init
loop-init g c = record {
  next = tt;
  finite = tt;
  same = (refl, refl);
  told = told-none g.W.FolderCalls.folder g.W.FolderCalls.view g.W.KeptCalls.says c.args.folders.now c.in-Ok.senders.items (put_of c.args.seat.now);
  stays = c.in-Ok.ensures.stays;
}

pub loop-preserved : goal.loop-preserved
loop-preserved g c =
    let folder = g.W.FolderCalls.folder in
    let view = g.W.FolderCalls.view in
    let says = g.W.KeptCalls.says in
    let same = c.loop.invariant.same in
    let now = c.index_once.ensures.same in
    let items = c.loop.senders.items in
    let news = c.index_once.new.senders in
    let at : c.as_mut_slice.result.now ≡ items = c.as_mut_slice.ensures.value in
    let kept : length news ≡ length items = c.index_once.auto.senders ∙ ap length at in
    let long : c.loop.senders.len ≡ length items = sym c.as_mut_slice.ensures.len ∙ ap length at in
    let start = c.in-Ok.senders.items in
    let first = put_of c.args.seat.now in
    let last = put_of c.index_once.new.seat in
    let more = subst (λ (l : List (Option Progress)). ToldTo folder view says c.loop.folders l news (put_of c.loop.seat) last) at c.in-Ok-index_once.ensures.tells in
    record {
      next = tt;
      finite = tt;
      same = (now.0 ∙ same.0, now.1 ∙ same.1);
      told = subst (λ (l : List (Option Progress)). HasTold folder view says c.args.folders.now start l first last) (sym (written_back items news c.loop.senders.len kept long))
          (told-then folder view says c.args.folders.now c.loop.folders c.loop.invariant.stays start items news first (put_of c.loop.seat) last c.loop.invariant.told
          (has-told folder view says c.loop.folders items news (put_of c.loop.seat) last more));
      stays = all_together folder view c.args.folders.now c.loop.folders c.index_once.new.folders c.loop.invariant.stays c.index_once.ensures.stays;
    }

pub returns-in-Err-index_once-clause-tells : goal.returns-in-Err-index_once-clause-tells
returns-in-Err-index_once-clause-tells g c =
    let folder = g.W.FolderCalls.folder in
    let view = g.W.FolderCalls.view in
    let says = g.W.KeptCalls.says in
    let items = c.loop.senders.items in
    let start = c.in-Ok.senders.items in
    let first = put_of c.args.seat.now in
    let then = put_of c.loop.seat in
    let last = put_of c.index_once.new.seat in
    let x = c.in-Err-index_once.ensures.tells in
    let tells = subst (λ (l : List (Option Progress)). Tells folder view says c.loop.folders l x.0 x.1) c.as_mut_slice.ensures.value x.3 in
    let all = told-then folder view says c.args.folders.now c.loop.folders c.loop.invariant.stays start items x.0 first then last c.loop.invariant.told (record { more = x.1; put = x.2; tells = tells }) in
    (all.more, all.put, told c.in-Some.config c.next.new.self start x.0 all.more c.in-Err-index_once.end (search rules) c.in-Ok.ensures.begins all.tells c.in-Err-index_once.ensures.over)

pub returns-in-Err-index_once-clause-stays : goal.returns-in-Err-index_once-clause-stays
returns-in-Err-index_once-clause-stays g c =
    all_together g.W.FolderCalls.folder g.W.FolderCalls.view c.args.folders.now c.loop.folders c.index_once.new.folders c.loop.invariant.stays c.index_once.ensures.stays
