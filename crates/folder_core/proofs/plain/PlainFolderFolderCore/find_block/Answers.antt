use Rattle.std.proofs.Common.{◌≡◌, List, [], ap, subst, ◌∙◌}
use Rattle.std.specs.Prelude.{Contains, MatchOption}
use Rattle.folder_core.specs.declared.place.Place.{Place}
use Rattle.folder_core.specs.Plain.{pulls_of}
use Rattle.folder_core.specs.PlainReads.{places_from}
use Rattle.folder_core.proofs.PlainPlaces.{places_are}
use Rattle.folder_core.proofs.ListTests.{ok_then}
use Rattle.folder_core.proofs.plain.PlainFolderFolderCore.find_block.Goals as goal

pub returns-clause-found : goal.returns-clause-found
returns-clause-found c =
    let all = ap (places_from c.self.inside.me c.args.hash.now) c.as_slice.ensures.value ∙ places_are c.self.inside.me c.args.hash.now _ c.self.inside.last (pulls_of c.self.inside.pulls.items) c.self.invariant.rises in
    rw (← c.self.view_is) (ok_then c.position_of.result (λ o found. subst (λ (ps : List Place). MatchOption o (ps ≡ []) (λ p. Contains ps p)) all found) c.position_of.ensures.found)

pub returns-clause-none : goal.returns-clause-none
returns-clause-none c =
    let all = ap (places_from c.self.inside.me c.args.hash.now) c.as_slice.ensures.value ∙ places_are c.self.inside.me c.args.hash.now _ c.self.inside.last (pulls_of c.self.inside.pulls.items) c.self.invariant.rises in
    rw (← c.self.view_is) (λ none. c.position_of.ensures.none (all ∙ none))
