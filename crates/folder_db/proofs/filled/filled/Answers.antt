use Rattle.std.proofs.Common.{ap, subst, sym, ◌∙◌}
use Rattle.folder_index.specs.Indexes.{with_record}
use Rattle.folder_db.proofs.Filling.{IsPartly, free-next, partly-none, put-all, put-next}
use Rattle.folder_db.proofs.filled.filled.Goals as goal

pub loop-announcement-init : goal.loop-announcement-init
loop-announcement-init c = subst (IsPartly c.args.me c.args.announcements.now c.args.announcements.now) (sym c.new-index.ensures) (partly-none c.args.me c.args.announcements.now)

pub set-requires : goal.set-requires
set-requires c =
    let i = c.loop-announcement in
    rw c.in_ok-copy.ensures (free-next c.args.me c.args.announcements.now c.requires.rises i.announcement-index c.announcement-item.result c.loop-announcement-test.true c.announcement-item.is i.index i.invariant c.requires.distinct)

pub loop-announcement-preserved : goal.loop-announcement-preserved
loop-announcement-preserved c =
    let i = c.loop-announcement in
    let e = c.announcement-item.result in
    subst (IsPartly c.args.me c.args.announcements.now _) (sym (c.in_ok-set.ensures.ok ∙ ap (λ r. with_record e.device r i.index) c.in_ok-copy.ensures))
    (put-next c.args.me c.args.announcements.now c.requires.rises i.announcement-index e c.loop-announcement-test.true c.announcement-item.is i.index i.invariant)

pub returns-clause-made : goal.returns-clause-made
returns-clause-made c = put-all c.args.me c.args.announcements.now c.requires.rises c.loop-announcement.announcement-index c.loop-announcement-test.false c.loop-announcement.index c.loop-announcement.invariant
