use Rattle.std.proofs.Common.{◌≡◌, ◌∙◌, List, ℕ, Option, Some, None, ap, sym, map}
use Rattle.peer_reader.proofs.IndexLemmas.{place_is}
use Rattle.peer_reader.specs.Effects.{asked_effect, place_of}
use Rattle.peer_reader.specs.Hears.{heard_of}
use Rattle.peer_reader.specs.declared.hearing.Passed.TheVariants as passed
use Rattle.peer_reader.proofs.hearing.hear_request.Goals as goal

pub returns-in-Some-clause-given : goal.returns-in-Some-clause-given
returns-in-Some-clause-given g c =
    let olds = c.args.folders.now in
    let q = c.args.request in
    let placed : place_of q.folder (map heard_of olds) ≡ Some c.in-Some.place
    = ap (λ (id : List ℕ). place_of id (map heard_of olds)) (sym c.as_str.ensures) ∙ sym (place_is c.as_str.result.now olds c.place_of.result c.place_of.ensures) ∙ c.in-Some.is in
    ap (λ (o : Option ℕ). passed.Asked o q) (sym placed)

pub returns-in-Some-clause-counted : goal.returns-in-Some-clause-counted
returns-in-Some-clause-counted g c =
    let olds = c.args.folders.now in
    let q = c.args.request in
    let placed : place_of q.folder (map heard_of olds) ≡ Some c.in-Some.place
    = ap (λ (id : List ℕ). place_of id (map heard_of olds)) (sym c.as_str.ensures) ∙ sym (place_is c.as_str.result.now olds c.place_of.result c.place_of.ensures) ∙ c.in-Some.is in
    ap (λ (o : Option ℕ). (asked_effect (map heard_of olds) o).count c.args.counts.now) (sym placed)

pub returns-in-None-clause-given : goal.returns-in-None-clause-given
returns-in-None-clause-given g c =
    let olds = c.args.folders.now in
    let q = c.args.request in
    let placed : place_of q.folder (map heard_of olds) ≡ None
    = ap (λ (id : List ℕ). place_of id (map heard_of olds)) (sym c.as_str.ensures) ∙ sym (place_is c.as_str.result.now olds c.place_of.result c.place_of.ensures) ∙ c.in-None.is in
    ap (λ (o : Option ℕ). passed.Asked o q) (sym placed)

pub returns-in-None-clause-counted : goal.returns-in-None-clause-counted
returns-in-None-clause-counted g c =
    let olds = c.args.folders.now in
    let q = c.args.request in
    let placed : place_of q.folder (map heard_of olds) ≡ None
    = ap (λ (id : List ℕ). place_of id (map heard_of olds)) (sym c.as_str.ensures) ∙ sym (place_is c.as_str.result.now olds c.place_of.result c.place_of.ensures) ∙ c.in-None.is in
    c.count_unshared.ensures ∙ ap (λ (o : Option ℕ). (asked_effect (map heard_of olds) o).count c.args.counts.now) (sym placed)
