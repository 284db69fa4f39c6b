use Rattle.std.proofs.Common.{◌≡◌, ◌++◌, ◌∷◌, [], ◌∙◌, List, ap, subst, sym, append_assoc}
use Rattle.std.specs.List.{AllZip}
use Rattle.peer_conn.specs.Turns.{OnlySees}
use Rattle.peer_conn.specs.Indexing.{Indexes, begun, not_begun}
use Rattle.bep_frames.specs.declared.frame.Message.{Message}
use Rattle.bep_frames.specs.declared.frame.Message.TheVariants as message
use Rattle.peer_conn.specs.declared.indexer.IndexerEnd.{IndexerEnd}
use Rattle.peer_conn.specs.Words.{all_of, put_of}
use Rattle.peer_conn.proofs.Seeing.{all_itself}
use Rattle.peer_conn.proofs.indexer.run_indexer.Goals as goal
use Rattle.peer_conn.proofs.indexer.run_indexer.Goals.{in-Ok, in-Err}

pub returns-clause-stays : goal.returns-clause-stays
returns-clause-stays g c =
    let folder = g.W.FolderCalls.folder in
    let view = g.W.FolderCalls.view in
    elim c.match-put_wait.branch [
      | in-Ok w ↦ subst (λ l. AllZip (OnlySees folder view) c.args.folders.now l) (sym w.folders-is) w.index_all-end.ensures.stays
      | in-Err w ↦ subst (λ l. AllZip (OnlySees folder view) c.args.folders.now l) (sym w.folders-is) (all_itself folder view c.args.folders.now)
    ]

pub returns-clause-tells : goal.returns-clause-tells
returns-clause-tells g c =
    let folder = g.W.FolderCalls.folder in
    let view = g.W.FolderCalls.view in
    let says = g.W.KeptCalls.says in
    let gives = g.C.Source.gives in
    let config = c.args.config in
    let from = c.args.configs.now in
    let fs = c.args.folders.now in
    let before = put_of c.args.seat in
    elim c.match-put_wait.branch [
      | in-Ok w ↦
          let x = w.index_all-end.ensures.tells in
          let is : all_of c.end.result ≡ before ++ message.ClusterConfig config ∷ x.0 =
          c.end.ensures.1 ∙ ap put_of w.seat-is ∙ x.1 ∙ ap (λ l. l ++ x.0) w.in-Ok.ensures.put ∙ append_assoc before (message.ClusterConfig config ∷ []) x.0 in
          subst (λ (l : List Message). Indexes folder view says gives config from c.match-put_wait.configs fs before l c.match-put_wait.end) (sym is)
          (subst (λ (e : IndexerEnd). Indexes folder view says gives config from c.match-put_wait.configs fs before (before ++ message.ClusterConfig config ∷ x.0) e) (sym w.end-is)
          (subst (λ q. Indexes folder view says gives config from q fs before (before ++ message.ClusterConfig config ∷ x.0) w.index_all-end.result) (sym w.configs-is)
          (begun x.0 w.index_all-end.result x.2)))
      | in-Err w ↦
          let is : all_of c.end.result ≡ before = c.end.ensures.1 ∙ ap put_of w.seat-is ∙ w.in-Err.ensures.back.1 in
          subst (λ (l : List Message). Indexes folder view says gives config from c.match-put_wait.configs fs before l c.match-put_wait.end) (sym is)
          (subst (λ (e : IndexerEnd). Indexes folder view says gives config from c.match-put_wait.configs fs before before e) (sym w.end-is) not_begun)
    ]
