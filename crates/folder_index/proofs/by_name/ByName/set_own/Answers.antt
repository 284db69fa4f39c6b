use Rattle.std.proofs.Common.{sym, subst}
use Rattle.folder_index.specs.Chunks.{groups_in}
use Rattle.folder_index.specs.Groups.{announced_in}
use Rattle.folder_index.specs.Noted.{AreNoted}
use Rattle.folder_index.proofs.Noting.{own_noted}
use Rattle.folder_index.proofs.by_name.ByName.set_own.Goals as goal

pub invariant_of-self-2 : goal.invariant_of-self-2
invariant_of-self-2 c =
    let i = c.self.inside in
    let a = announced_in (groups_in i.names) in
    record {
      chunked = c.in_ok-self-inside.ensures.groups;
      noted = subst (AreNoted i.me i.noted.items) (sym c.in_ok-self-inside.ensures.placed) (own_noted i.me c.args.announced a i.noted.items c.self.invariant.noted);
    }
