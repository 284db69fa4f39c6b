use Rattle.std.proofs.Common.{◌≡◌, ◌∙◌, sym, ap}
use Rattle.sync_names.proofs.InternalLemmas.{Decides-internal, or_second}
use Rattle.sync_names.specs.Components.{components, first_of}
use Rattle.sync_names.specs.Internal.{is_internal, is_reserved, is_temporary}
use Rattle.sync_names.proofs.internal.is_internal.Goals as goal

pub returns-else-is_reserved-clause-meaning : goal.returns-else-is_reserved-clause-meaning
returns-else-is_reserved-clause-meaning c =
    let text = c.args.text.now in
    let first : is_reserved (first_of (components text)) ≡ _ = ap is_reserved (sym c.first_component-first.ensures) ∙ sym c.is_reserved.ensures ∙ c.if-is_reserved.false in
    let last = c.is_temporary.ensures ∙ ap is_temporary c.split_last_component.ensures.last in
    let value : c.is_temporary.result ≡ is_internal text = or_second _ _ _ first last in
    let both = Decides-internal text in
    (λ h. both.0 (sym value ∙ h), λ fact. value ∙ both.1 fact)
