use Rattle.std.proofs.Common.{◌≡◌, ◌<◌, ◌∙◌, List, ℕ, Some, None, ap, sym, map, length, get_or}
use Rattle.std.specs.List.{position}
use Rattle.std.proofs.lemmas.List.Quantifiers.{position-Some}
use Rattle.std.proofs.lemmas.Option.{slice_get-get_or}
use Rattle.peer_reader.proofs.IndexLemmas.{announced_alone, announced_due, announced_effect, announced_passed, change_stops, heard_alone, heard_change, place_is}
use Rattle.peer_reader.specs.Counts.{one_unshared}
use Rattle.peer_reader.specs.Effects.{announced_change, count_index, is_shared_as, place_of}
use Rattle.peer_reader.specs.Hears.{event_of, heard_of}
use Rattle.peer_reader.specs.declared.folder.ReaderFolder.{ReaderFolder}
use Rattle.peer_reader.specs.declared.hearing.Passed.TheVariants as passed
use Rattle.peer_reader.proofs.hearing.hear_index.Goals as goal

pub returns-in_default-clause-heard : goal.returns-in_default-clause-heard
returns-in_default-clause-heard g c =
    let olds = c.args.folders.now in
    let m = c.args.announced in
    let placed : place_of m.folder (map heard_of olds) ≡ None
    = ap (λ (id : List ℕ). place_of id (map heard_of olds)) (sym c.as_str.ensures) ∙ sym (place_is c.as_str.result.now olds c.place_of.result c.place_of.ensures) ∙ c.in_default.is in
    heard_alone g.W.FolderCalls.view g.W.FolderCalls.folder c.args.peer (event_of m) olds c.args.counts.now (passed.Unshared m.folder) c.count_unshared.new.self one_unshared
    (announced_effect m.is_whole m.folder m.files c.args.peer (map heard_of olds) _ placed) c.count_unshared.ensures (announced_passed m.is_whole m.folder m.files (map heard_of olds) _ placed)

pub returns-in-Ok-clause-heard : goal.returns-in-Ok-clause-heard
returns-in-Ok-clause-heard g c =
    let olds = c.args.folders.now in
    let m = c.args.announced in
    let i = c.in-Some.place in
    let f = get_or olds i c.index-folders-place.result in
    let found : position (λ (x : ReaderFolder g.row.W.Denot). is_shared_as c.as_str.result.now (heard_of x)) olds ≡ Some i = sym c.place_of.ensures ∙ c.in-Some.is in
    let within : i < length olds = (position-Some _ olds i c.index-folders-place.result found).0 in
    let placed : place_of m.folder (map heard_of olds) ≡ Some i
    = ap (λ (id : List ℕ). place_of id (map heard_of olds)) (sym c.as_str.ensures) ∙ sym (place_is c.as_str.result.now olds c.place_of.result c.place_of.ensures) ∙ c.in-Some.is in
    let ok = c.in-Ok.ensures in
    heard_change g.W.FolderCalls.view g.W.FolderCalls.folder c.changes_are_asked_in_order.ensures.together c.args.peer (event_of m) i (announced_change m.is_whole c.args.peer m.files) (count_index m.files) olds c.args.counts.now
    f c.hear_files.new.folder c.hear_files.new.counts passed.Nothing
    (announced_effect m.is_whole m.folder m.files c.args.peer (map heard_of olds) _ placed) (slice_get-get_or olds i c.index-folders-place.result within) ok.heard ok.asks ok.counted (announced_passed m.is_whole m.folder m.files (map heard_of olds) _ placed)

pub returns-clause-stopped : goal.returns-clause-stopped
returns-clause-stopped g c =
    let olds = c.args.folders.now in
    let m = c.args.announced in
    let i = c.in-Some.place in
    let f = get_or olds i c.index-folders-place.result in
    let found : position (λ (x : ReaderFolder g.row.W.Denot). is_shared_as c.as_str.result.now (heard_of x)) olds ≡ Some i = sym c.place_of.ensures ∙ c.in-Some.is in
    let within : i < length olds = (position-Some _ olds i c.index-folders-place.result found).0 in
    let placed : place_of m.folder (map heard_of olds) ≡ Some i
    = ap (λ (id : List ℕ). place_of id (map heard_of olds)) (sym c.as_str.ensures) ∙ sym (place_is c.as_str.result.now olds c.place_of.result c.place_of.ensures) ∙ c.in-Some.is in
    change_stops g.W.FolderCalls.view g.W.FolderCalls.folder c.changes_are_asked_in_order.ensures.together c.args.peer (event_of m) i (announced_change m.is_whole c.args.peer m.files) olds c.args.counts.now
    f c.hear_files.new.folder c.hear_files.new.counts c.in-Err.why (announced_alone m.is_whole m.folder m.files c.args.peer (map heard_of olds) i) (announced_due m.is_whole m.folder m.files c.args.peer (map heard_of olds) i placed) (slice_get-get_or olds i c.index-folders-place.result within)
    c.in-Err.ensures.stopped c.in-Err.ensures.uncounted
