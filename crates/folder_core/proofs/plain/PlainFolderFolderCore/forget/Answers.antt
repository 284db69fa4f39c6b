use Rattle.std.proofs.Common.{◌≡◌, ◌≢◌, subst, sym, arith, rules}
use Rattle.std.specs.Prelude.{filter}
use Rattle.std.proofs.lemmas.Fn.{filter_same}
use Rattle.folder_core.specs.Plain.{Rises, pulls_of}
use Rattle.folder_core.specs.declared.change.Change.TheVariants.{Forget}
use Rattle.folder_core.proofs.PlainChange.{forgot, is_of_another, others-rise, plain_with}
use Rattle.folder_core.proofs.plain.PlainFolderFolderCore.forget.Goals as goal

pub invariant_of-self : goal.invariant_of-self
invariant_of-self c =
    let f = c.self.inside in
    let es = f.entries.items in
    let others : c.retain.new.self.items ≡ filter (is_of_another c.args.device) es = filter_same _ (is_of_another c.args.device) _ (λ x b f' calls. search rules) _ _ c.retain.ensures.filtered in
    plain_with f.me es c.retain.new.self.items _ _ f.last f.pulls.items (Forget c.args.device) c.self.invariant
    (subst (λ s. c.args.device ≢ s.me) (sym c.self.view_is) c.requires)
    (subst Rises (sym others) (others-rise c.args.device es c.self.invariant.rises))
    (forgot f.me c.args.device es c.retain.new.self.items f.last (pulls_of f.pulls.items) c.self.invariant.rises others)
    (let room = c.self.invariant.room in let a = c.retain.ensures.bound in let b = c.retain.ensures.capacity in omega arith)

pub returns-clause-changes : goal.returns-clause-changes
returns-clause-changes c =
    let f = c.self.inside in
    let es = f.entries.items in
    let others : c.retain.new.self.items ≡ filter (is_of_another c.args.device) es = filter_same _ (is_of_another c.args.device) _ (λ x b f' calls. search rules) _ _ c.retain.ensures.filtered in
    rw (← c.self.view_is) (forgot f.me c.args.device es c.retain.new.self.items f.last (pulls_of f.pulls.items) c.self.invariant.rises others)
