use Rattle.std.proofs.Common.{sym, subst, ◌∙◌}
use Rattle.folder_core.specs.Reads.{IsSomePlace}
use Rattle.folder_core.proofs.ListTests.{ok_then}
use Rattle.folder_index.specs.Indexes.{folder}
use Rattle.folder_index.specs.Locals.{HasNoBlock, IsPlaceAmong}
use Rattle.folder_index.proofs.Placed.{found_at, is_found, none_last, not_nowhere, place_told}
use Rattle.folder_index.proofs.index.Index.place.Goals as goal

pub find-requires : goal.find-requires
find-requires c = c.self.invariant.kept.filed

pub returns-in_default-clause-found : goal.returns-in_default-clause-found
returns-in_default-clause-found c =
    let i = c.self.inside in
    let hash = c.args.hash.now in
    rw (← c.self.view_is) (ok_then c.place_among.result (λ o among. place_told i.names i.local c.self.invariant hash c.in_default.ensures o (subst (λ rs. IsPlaceAmong rs hash o) c.records.ensures among)) c.place_among.ensures.found)

pub returns-in_default-clause-none : goal.returns-in_default-clause-none
returns-in_default-clause-none c =
    let i = c.self.inside in
    let hash = c.args.hash.now in
    rw (← c.self.view_is) (λ none. c.place_among.ensures.none (subst (λ rs. HasNoBlock rs hash) (sym c.records.ensures) (none_last i.names i.local c.self.invariant hash none)))

pub returns-clause-found : goal.returns-clause-found
returns-clause-found c =
    let i = c.self.inside in
    let found = found_at i.names i.local c.self.invariant c.args.hash.now c.in-Some.sequence c.in-Some.i c.in-Some.ensures in
    rw (← c.self.view_is) (ok_then c.place_in.result (λ o is. subst (IsSomePlace (folder i.names) c.args.hash.now) (sym (is ∙ is_found i.names i.local c.self.invariant c.args.hash.now c.in-Some.sequence c.in-Some.i found c.in-Some-get.announced.now c.in-Some-get.ensures)) found.place) c.place_in.ensures)

pub returns-clause-none : goal.returns-clause-none
returns-clause-none c =
    let i = c.self.inside in
    let found = found_at i.names i.local c.self.invariant c.args.hash.now c.in-Some.sequence c.in-Some.i c.in-Some.ensures in
    rw (← c.self.view_is) (λ none. absurd (not_nowhere i.names i.local c.self.invariant c.args.hash.now c.in-Some.sequence c.in-Some.i found none))
