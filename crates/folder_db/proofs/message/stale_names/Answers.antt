use Rattle.std.proofs.Common.{ap, ◌∙◌, rules}
use Rattle.std.specs.Prelude.{bytes_eq, filter, not}
use Rattle.std.specs.List.{list_any}
use Rattle.std.proofs.lemmas.Fn.{filter_same}
use Rattle.folder_db.proofs.message.stale_names.Goals as goal

pub returns : goal.returns
returns c = λ rise.
    let rs = c.args.records.now in
    filter_same _ (λ n. not (list_any (λ r. bytes_eq r.name n) rs)) _ (λ x b f' calls. search (rules, rise)) _ _ c.retain.ensures.filtered
    ∙ ap (filter (λ n. not (list_any (λ r. bytes_eq r.name n) rs))) (c.into_vec-names.ensures ∙ c.in_ok-names_of.ensures.names)
