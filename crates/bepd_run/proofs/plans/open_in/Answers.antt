use Rattle.std.proofs.Common.{◌≡◌, ◌++◌, ◌∷◌, [], ◌∙◌, rules, append_assoc, append-nil, ap, sym}
use Rattle.std.specs.Prelude.{flat_map}
use Rattle.std.proofs.lemmas.Grind.{flat_map-append}
use Rattle.bepd_run.specs.Plans.{open_in}
use Rattle.bepd_run.proofs.plans.open_in.Goals as goal

pub loop-folder-preserved : goal.loop-folder-preserved
loop-folder-preserved c =
    let open_of_it = open_in c.args.state.now in
    let folder = c.in-Some.folder in
    let yielded = c.loop-folder.yielded in
    let step : c.loop-folder.folder-iterator.rest.items ≡ folder ∷ c.next.new.self.rest.items = search rules in
    let came = c.loop-folder.invariant.divided ∙ ap (λ l. yielded ++ l) step in
    record {
      each = c.in_ok-add_open.ensures ∙ ap (λ l. l ++ open_of_it folder) c.loop-folder.invariant.each
          ∙ sym (flat_map-append open_of_it yielded (folder ∷ []) ∙ ap (λ l. flat_map open_of_it yielded ++ l) (append-nil (open_of_it folder)));
      divided = came ∙ sym (append_assoc yielded (folder ∷ []) c.next.new.self.rest.items);
    }
