use Rattle.folder_look.proofs.LawLemmas.{told-iff}
use Rattle.folder_look.proofs.laws.exactly_what_differs_is_told.Goals as goal

pub returns : goal.returns
returns c = λ before now name first second. told-iff before now name first second
