use Rattle.std.proofs.Common.{true, false, ap, refl}
use Rattle.folder_calls.specs.Calls.{index_value}
use Rattle.folder_core.specs.declared.change.Change.TheVariants.{IndexFull, IndexMore}
use Rattle.peer_reader.proofs.EachLemmas.{asks_index}
use Rattle.peer_reader.specs.Hears.{heard_of}
use Rattle.peer_reader.proofs.hearing.hear_files.Goals as goal
use Rattle.peer_reader.proofs.hearing.hear_files.Goals.{then-is_whole+in_ok-reply, else-is_whole+in_ok-reply-2}

pub returns-in-Ok-clause-asks : goal.returns-in-Ok-clause-asks
returns-in-Ok-clause-asks g c =
    let told = c.if-is_whole in
    let one = c.changes_are_asked_in_order.ensures.one in
    let records = c.in_ok-kept.ensures.records in
    let answer = ap index_value c.in-Ok.is in
    elim told.branch [
      | then-is_whole+in_ok-reply w ↦
          asks_index g.W.FolderCalls.view g.W.FolderCalls.folder one c.args.folder.now _ told.folder c.args.peer c.args.files c.args.is_whole true _ _ told.reply _
          w.if-is_whole.true (ap (IndexFull c.args.peer) records) w.folder-is w.reply-is answer w.in_ok-reply.ensures.folder w.in_ok-reply.ensures.changes
      | else-is_whole+in_ok-reply-2 w ↦
          asks_index g.W.FolderCalls.view g.W.FolderCalls.folder one c.args.folder.now _ told.folder c.args.peer c.args.files c.args.is_whole false _ _ told.reply _
          w.if-is_whole.false (ap (IndexMore c.args.peer) records) w.folder-is w.reply-is answer w.in_ok-reply-2.ensures.folder w.in_ok-reply-2.ensures.changes
    ]

pub returns-in-Err-clause-stopped : goal.returns-in-Err-clause-stopped
returns-in-Err-clause-stopped g c =
    let told = c.if-is_whole in
    let one = c.changes_are_asked_in_order.ensures.one in
    let records = c.in_ok-kept.ensures.records in
    let answer = ap index_value c.in-Err.is in
    elim told.branch [
      | then-is_whole+in_ok-reply w ↦
          let asked = asks_index g.W.FolderCalls.view g.W.FolderCalls.folder one c.args.folder.now _ told.folder c.args.peer c.args.files c.args.is_whole true _ _ told.reply _
          w.if-is_whole.true (ap (IndexFull c.args.peer) records) w.folder-is w.reply-is answer w.in_ok-reply.ensures.folder w.in_ok-reply.ensures.changes in
          (ap heard_of w.folder-is, (_, refl, asked))
      | else-is_whole+in_ok-reply-2 w ↦
          let asked = asks_index g.W.FolderCalls.view g.W.FolderCalls.folder one c.args.folder.now _ told.folder c.args.peer c.args.files c.args.is_whole false _ _ told.reply _
          w.if-is_whole.false (ap (IndexMore c.args.peer) records) w.folder-is w.reply-is answer w.in_ok-reply-2.ensures.folder w.in_ok-reply-2.ensures.changes in
          (ap heard_of w.folder-is, (_, refl, asked))
    ]
