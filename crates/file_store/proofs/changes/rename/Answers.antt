use Rattle.std.proofs.Common.{◌≡◌, Some, None, rules, sym, ap, ◌∙◌}
use Rattle.std.specs.Prelude.{is_some}
use Rattle.std.proofs.lemmas.Bool.{false≢true}
use Rattle.file_store.specs.declared.node.Node.TheVariants.{Directory}
use Rattle.file_store.specs.Maps.{found_at, put_at}
use Rattle.file_store.proofs.PutLemmas.{put_moved, still_there}
use Rattle.file_store.proofs.changes.rename.Goals as goal

pub returns-in-Some : goal.returns-in-Some
returns-in-Some c =
    let from = c.args.from.now in
    let to = c.args.to.now in
    let f = found_at c.args.names.now in
    let g = found_at c.insert.new.self in
    let put : g ≡ put_at to (Some Directory) f = search rules in
    let is : Some c.in-Some.node ≡ g from = search rules in
    put_moved from to f c.requires.free c.requires.there g (found_at c.remove.new.self) (found_at c.replace.new.self) Directory c.in-Some.node put is
    c.remove.ensures.left c.replace.ensures

pub returns-in_default : goal.returns-in_default
returns-in_default c =
    let from = c.args.from.now in
    let to = c.args.to.now in
    let f = found_at c.args.names.now in
    let g = found_at c.insert.new.self in
    let put : g ≡ put_at to (Some Directory) f = search rules in
    let none : g from ≡ None = search rules in
    absurd (false≢true (sym (ap is_some none) ∙ ap is_some (still_there from to f c.requires.free c.requires.there g Directory put) ∙ c.requires.there))
