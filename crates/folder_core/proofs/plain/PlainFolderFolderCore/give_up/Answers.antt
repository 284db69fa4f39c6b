use Rattle.std.proofs.Common.{ap, sym, ◌∙◌}
use Rattle.folder_core.specs.Calls.{close_answer}
use Rattle.folder_core.specs.declared.pull_stage.PullStage.TheVariants.{Pulling}
use Rattle.folder_core.specs.Plain.{folder_of, pulls_of}
use Rattle.folder_core.specs.declared.change.Change.TheVariants.{GiveUp}
use Rattle.folder_core.proofs.ChangeFolders.{step-folder}
use Rattle.folder_core.proofs.PlainOpened.{close-plain, close-step}
use Rattle.folder_core.proofs.plain.PlainFolderFolderCore.give_up.Goals as goal

pub invariant_of-self : goal.invariant_of-self
invariant_of-self c =
    close-plain c.self.inside.me c.self.inside.entries.items _ c.self.inside.last c.self.inside.pulls.items _ c.self.invariant c.ticket.inside.info Pulling c.take.result c.take.ensures
    (step-folder (folder_of c.self.inside.me c.self.inside.entries.items c.self.inside.last (pulls_of c.self.inside.pulls.items)) (GiveUp c.ticket.inside.info) c.self.invariant.folder tt)

pub returns : goal.returns
returns c =
    rw (← c.self.view_is) (rw (← c.ticket.view_is) (
    close-step c.self.inside.me c.self.inside.entries.items _ c.self.inside.last c.self.inside.pulls.items _ c.self.invariant c.ticket.inside.info Pulling c.take.result c.take.ensures
    ∙ ap (λ b. (close_answer b, folder_of c.self.inside.me c.self.inside.entries.items c.self.inside.last (pulls_of c.take.new.pulls.items))) (sym c.is_some.ensures)))
