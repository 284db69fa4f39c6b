use Rattle.std.proofs.Common.{◌≡◌, false, sym, ap, ◌∙◌}
use Rattle.std.specs.Prelude.{bytes_eq, cond, fold, max, map, filter}
use Rattle.std.specs.FinMap.{entries}
use Rattle.folder_core.specs.Announced.{is_by}
use Rattle.folder_core.specs.Plain.{folder_of, pulls_of}
use Rattle.folder_core.specs.PlainReads.{greatest_sequence}
use Rattle.folder_core.proofs.PlainOwn.{greatest_is}
use Rattle.folder_core.proofs.plain.PlainFolderFolderCore.known.Goals as goal

pub returns : goal.returns
returns c =
    let me = c.self.inside.me in
    let d = c.args.device in
    let last = c.self.inside.last in
    let pulls = pulls_of c.self.inside.pulls.items in
    let another : bytes_eq d me ≡ false = sym c.eq.ensures ∙ c.if-eq.false in
    rw (← c.self.view_is) (
    c.greatest_sequence.ensures
    ∙ ap (greatest_sequence d) c.as_slice.ensures.value
    ∙ greatest_is me _ last pulls c.self.invariant.rises d
    ∙ ap (λ b. cond b last (fold max 0 (map (λ e. e.1.sequence) (filter (is_by d) (entries (folder_of me c.self.inside.entries.items last pulls).announced))))) (sym another)
    )
