use Rattle.std.proofs.Common.{◌≡◌, ◌-◌, length, sym, ap, ◌∙◌, arith}
use Rattle.sync_names.specs.Components.{last_component}
use Rattle.sync_names.specs.Copies.{is_marked_at}
use Rattle.sync_names.specs.Extension.{extension_of}
use Rattle.sync_names.proofs.CopyLemmas.{copy-Decides, extension-within}
use Rattle.sync_names.proofs.copies.is_conflict_copy.Goals as goal

pub is_marked-requires : goal.is_marked-requires
is_marked-requires c =
    let name = c.args.name.now in
    let ext : c.split_extension.result.1.now ≡ extension_of (last_component name)
    = c.split_extension.ensures.extension ∙ ap extension_of c.split_last_component.ensures.last ∙ ap (λ x. extension_of (last_component x)) c.as_str.ensures.value in
    omega (arith, ap length ext, extension-within name, ap length (c.as_bytes-2.ensures.value ∙ c.as_str-3.ensures.value))

pub returns : goal.returns
returns c =
    let name = c.args.name.now in
    let copy = c.args.copy.now in
    let ext : c.split_extension.result.1.now ≡ extension_of (last_component name)
    = c.split_extension.ensures.extension ∙ ap extension_of c.split_last_component.ensures.last ∙ ap (λ x. extension_of (last_component x)) c.as_str.ensures.value in
    let both = copy-Decides name copy in
    let text = c.as_bytes.ensures.value ∙ c.as_str-2.ensures.value in
    let named = c.as_bytes-2.ensures.value ∙ c.as_str-3.ensures.value in
    let same : c.is_marked.result ≡ is_marked_at (length name - length (extension_of (last_component name))) name copy
    = c.is_marked.ensures ∙ (λ i. is_marked_at (length (named i) - length (ext i)) (named i) (text i)) in
    ((λ h. both.0 (sym same ∙ h)), (λ x. same ∙ both.1 x))
