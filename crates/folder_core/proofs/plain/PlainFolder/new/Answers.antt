use Rattle.std.proofs.Common.{List, [], ap, sym, subst, ◌∙◌, vec_capacity}
use Rattle.std.specs.FinMap.{empty}
use Rattle.folder_core.specs.declared.announcement.Announcement.{Announcement as Entry}
use Rattle.folder_core.specs.declared.plain.pull.OpenPull.{OpenPull}
use Rattle.folder_core.specs.Codes.{Pulls}
use Rattle.folder_core.specs.Plain.{IsPlain, folder_of, pulls_of}
use Rattle.folder_core.proofs.PlainChange.{no_pulls, nothing_announced, plain_new}
use Rattle.folder_core.proofs.plain.PlainFolder.new.Goals as goal

pub invariant_of-result : goal.invariant_of-result
invariant_of-result c = subst (λ es. IsPlain c.args.me es (vec_capacity c.new.result) 0 c.new-2.result.items) (sym c.new.ensures.items) (subst (IsPlain c.args.me [] (vec_capacity c.new.result) 0) (sym c.new-2.ensures.items) (plain_new c.args.me (vec_capacity c.new.result)))

pub returns : goal.returns
returns c =
    ap (λ (es : List Entry). folder_of c.args.me es 0 (pulls_of c.new-2.result.items)) c.new.ensures.items
    ∙ ap (λ (ps : List OpenPull). folder_of c.args.me [] 0 (pulls_of ps)) c.new-2.ensures.items
    ∙ nothing_announced c.args.me (pulls_of [])
    ∙ ap (λ (ps : Pulls). record { me = c.args.me; announced = empty; last = 0; pulls = ps }) no_pulls
