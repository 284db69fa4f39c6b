use Rattle.std.proofs.Common.{◌≡◌, ◌∙◌, ℤ, to_z, of_z, w32, rules, ap, sym, refl, map}
use Rattle.peer_reader.proofs.IndexLemmas.{asked_is, heard_alone}
use Rattle.peer_reader.specs.Effects.{after_event, asked_effect, place_of, same_counts}
use Rattle.peer_reader.specs.Hears.{heard_of, passed_of}
use Rattle.peer_reader.specs.declared.hearing.Passed.TheVariants as passed
use Rattle.peer_reader.proofs.hearing.hear.Goals as goal

pub returns-in-Asked-clause-heard : goal.returns-in-Asked-clause-heard
returns-in-Asked-clause-heard g c =
    let xs = map heard_of c.args.folders.now in
    let is = c.in-Asked.is in
    let o = place_of c.in-Asked.request.folder xs in
    heard_alone g.W.FolderCalls.view g.W.FolderCalls.folder c.args.peer c.args.event c.args.folders.now c.args.counts.now c.hear_request.result c.hear_request.new.counts (asked_effect xs o).count
    (ap (after_event c.args.peer xs) is ∙ asked_is xs o) c.hear_request.ensures.counted (c.hear_request.ensures.given ∙ sym (ap (passed_of xs) is))

pub returns-in-Answered-clause-heard : goal.returns-in-Answered-clause-heard
returns-in-Answered-clause-heard g c =
    let xs = map heard_of c.args.folders.now in
    let is = c.in-Answered.is in
    heard_alone g.W.FolderCalls.view g.W.FolderCalls.folder c.args.peer c.args.event c.args.folders.now c.args.counts.now (passed.Answered c.in-Answered.response) c.args.counts.now same_counts
    (ap (after_event c.args.peer xs) is) refl (sym (ap (passed_of xs) is))

pub returns-in-UnknownResponse-clause-heard : goal.returns-in-UnknownResponse-clause-heard
returns-in-UnknownResponse-clause-heard g c =
    let xs = map heard_of c.args.folders.now in
    let is = c.in-UnknownResponse.is in
    let back : to_z w32 (of_z w32 c.in-UnknownResponse.id) ≡ c.in-UnknownResponse.id = search rules in
    heard_alone g.W.FolderCalls.view g.W.FolderCalls.folder c.args.peer c.args.event c.args.folders.now c.args.counts.now _ c.args.counts.now same_counts
    (ap (after_event c.args.peer xs) is) refl (ap (λ (id : ℤ). passed.Unknown id) back ∙ sym (ap (passed_of xs) is))

pub returns-in-PeerHello-clause-heard : goal.returns-in-PeerHello-clause-heard
returns-in-PeerHello-clause-heard g c =
    let xs = map heard_of c.args.folders.now in
    let is = c.in-PeerHello.is in
    heard_alone g.W.FolderCalls.view g.W.FolderCalls.folder c.args.peer c.args.event c.args.folders.now c.args.counts.now passed.Nothing c.args.counts.now same_counts
    (ap (after_event c.args.peer xs) is) refl (sym (ap (passed_of xs) is))

pub returns-in-Skipped-clause-heard : goal.returns-in-Skipped-clause-heard
returns-in-Skipped-clause-heard g c =
    let xs = map heard_of c.args.folders.now in
    let is = c.in-Skipped.is in
    heard_alone g.W.FolderCalls.view g.W.FolderCalls.folder c.args.peer c.args.event c.args.folders.now c.args.counts.now passed.Nothing c.args.counts.now same_counts
    (ap (after_event c.args.peer xs) is) refl (sym (ap (passed_of xs) is))
