use Rattle.std.proofs.Common.{rules, ap₂, ◌∙◌, ◌≡◌}
use Rattle.std.proofs.lemmas.Result.{IfOk-weaker}
use Rattle.bepd.specs.CommandLine.{dial_rule, directory_rule, listen_rule, syncthing_rule}
use Rattle.clap.specs.Words.{app_of, new_app, rule_of, with_rule}
use Rattle.clap.specs.declared.builder.command.Command.{out-Command}
use Rattle.std.specs.Prelude.{codes, false, ◌||◌}
use Rattle.bepd.proofs.command.fresh_command.Goals as goal

pub returns : goal.returns
returns c =
    let directory_is : rule_of c.help-directory.result ≡ directory_rule = search rules in
    let new : app_of c.after_help.result ≡ new_app (codes "new") = search rules in
    let above : (out-Command c.after_help.result).has_globals ≡ false = search rules in
    let plain : c.help-directory.result.global ≡ false = search rules in
    let first : app_of c.in_ok-arg.field-0 ≡ with_rule (new_app (codes "new")) directory_rule = c.in_ok-arg.ensures.shape plain ∙ ap₂ with_rule new directory_is in
    let local : (out-Command c.in_ok-arg.field-0).has_globals ≡ false = c.in_ok-arg.ensures.globals ∙ ap₂ (λ x y. x || y) above plain in
    let second : app_of c.in_ok-arg-2.field-0 ≡ with_rule (with_rule (new_app (codes "new")) directory_rule) syncthing_rule =
    c.in_ok-arg-2.ensures.shape c.syncthing_arg-syncthing.ensures.local ∙ ap₂ with_rule first c.syncthing_arg-syncthing.ensures.rule in
    let still : (out-Command c.in_ok-arg-2.field-0).has_globals ≡ false = c.in_ok-arg-2.ensures.globals ∙ ap₂ (λ x y. x || y) local c.syncthing_arg-syncthing.ensures.local in
    let third : app_of c.in_ok-arg-3.field-0 ≡ with_rule (with_rule (with_rule (new_app (codes "new")) directory_rule) syncthing_rule) dial_rule =
    c.in_ok-arg-3.ensures.shape c.dial_arg-dial.ensures.local ∙ ap₂ with_rule second c.dial_arg-dial.ensures.rule in
    let yet : (out-Command c.in_ok-arg-3.field-0).has_globals ≡ false = c.in_ok-arg-3.ensures.globals ∙ ap₂ (λ x y. x || y) still c.dial_arg-dial.ensures.local in
    let fourth : app_of c.in_ok-arg-4.field-0 ≡ with_rule (with_rule (with_rule (with_rule (new_app (codes "new")) directory_rule) syncthing_rule) dial_rule) listen_rule =
    c.in_ok-arg-4.ensures.shape c.listen_arg-listen.ensures.local ∙ ap₂ with_rule third c.listen_arg-listen.ensures.rule in
    let more : (out-Command c.in_ok-arg-4.field-0).has_globals ≡ false = c.in_ok-arg-4.ensures.globals ∙ ap₂ (λ x y. x || y) yet c.listen_arg-listen.ensures.local in
    IfOk-weaker c.arg-5.result _ _ (λ command h. (h.shape c.shared_arg-shared.ensures.local ∙ ap₂ with_rule fourth c.shared_arg-shared.ensures.rule, h.globals ∙ ap₂ (λ x y. x || y) more c.shared_arg-shared.ensures.local)) c.arg-5.ensures
