use Rattle.std.proofs.Common.{sym, subst}
use Rattle.folder_index.specs.Chunks.{groups_in}
use Rattle.folder_index.specs.Groups.{announced_in}
use Rattle.folder_index.specs.Noted.{AreNoted}
use Rattle.folder_index.proofs.Noting.{all_loosened}
use Rattle.folder_index.proofs.by_name.ByName.clear.Goals as goal

pub invariant_of-self : goal.invariant_of-self
invariant_of-self c =
    let i = c.self.inside in
    let a = announced_in (groups_in i.names) in
    record {
      chunked = c.clear_in-self-inside.ensures.groups;
      noted = subst (AreNoted i.me c.loosen.new.noted.items) (sym c.clear_in-self-inside.ensures.taken) (all_loosened i.me c.args.device c.args.name.now a i.noted.items c.loosen.new.noted.items c.self.invariant.noted c.loosen.ensures.here c.loosen.ensures.others);
    }
