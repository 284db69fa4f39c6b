use Rattle.std.proofs.Common.{ap, ◌∙◌}
use Rattle.std.specs.FinMap.{get}
use Rattle.folder_core.specs.Announced.{key}
use Rattle.folder_index.specs.Chunks.{groups_in}
use Rattle.folder_index.specs.Groups.{announced_in}
use Rattle.folder_index.specs.Indexes.{IndexState}
use Rattle.folder_index.proofs.Noting.{all_forgotten}
use Rattle.folder_index.proofs.by_name.ByName.note_nothing.Goals as goal

pub invariant_of-self : goal.invariant_of-self
invariant_of-self c =
    let i = c.self.inside in
    let a = announced_in (groups_in i.names) in
    record {
      chunked = c.self.invariant.chunked;
      noted = all_forgotten i.me c.args.device a i.noted.items c.reset.new.noted.items (λ n. ap (λ (s : IndexState). get s.announced (key n c.args.device)) c.self.view_is ∙ c.requires n) c.self.invariant.noted c.reset.ensures.here c.reset.ensures.others;
    }
