use Rattle.std.proofs.Common.{◌≡◌, ◌∙◌, List, length, ap, sym, subst}
use Rattle.peer_conn.proofs.Slices.{written_back}
use Rattle.peer_reader.specs.Reading.{ReadsTo}
use Rattle.peer_link.proofs.jobs.read.Goals as goal

pub returns : goal.returns
returns g c =
    let items = c.args.job.folders.items in
    let news = c.run_reader-end.new.folders in
    let at : c.as_mut_slice.result.now ≡ items = c.as_mut_slice.ensures.value in
    let same : length news ≡ length items = c.run_reader-end.auto.folders ∙ ap length at in
    let long : c.args.job.folders.len ≡ length items = sym c.as_mut_slice.ensures.len ∙ ap length at in
    let left = g.I.Read.remaining c.run_reader-end.new.reader in
    let read = subst (λ olds. ReadsTo g.W.FolderCalls.view g.W.FolderCalls.folder c.args.job.peer (g.I.Read.remaining c.args.job.reader) left olds c.run_reader-end.result.why news c.run_reader-end.result.counts) at c.run_reader-end.ensures.reads in
    (left, subst (λ after. ReadsTo g.W.FolderCalls.view g.W.FolderCalls.folder c.args.job.peer (g.I.Read.remaining c.args.job.reader) left items c.run_reader-end.result.why after c.run_reader-end.result.counts) (sym (written_back items news c.args.job.folders.len same long)) read)
