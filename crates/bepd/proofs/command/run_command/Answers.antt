use Rattle.std.proofs.Common.{rules, ap₂, ◌∙◌, ◌≡◌}
use Rattle.std.proofs.lemmas.Result.{IfOk-weaker}
use Rattle.bepd.specs.CommandLine.{check_rule, config_rule, no_input_rule, quiet_rule}
use Rattle.clap.specs.Words.{app_of, new_app, with_rule}
use Rattle.clap.specs.declared.builder.command.Command.{out-Command}
use Rattle.std.specs.Prelude.{codes, false, ◌||◌}
use Rattle.bepd.proofs.command.run_command.Goals as goal

pub returns : goal.returns
returns c =
    let new : app_of c.after_help.result ≡ new_app (codes "run") = search rules in
    let above : (out-Command c.after_help.result).has_globals ≡ false = search rules in
    let first : app_of c.in_ok-arg.field-0 ≡ with_rule (new_app (codes "run")) config_rule = c.in_ok-arg.ensures.shape c.config_arg-config.ensures.local ∙ ap₂ with_rule new c.config_arg-config.ensures.rule in
    let local : (out-Command c.in_ok-arg.field-0).has_globals ≡ false = c.in_ok-arg.ensures.globals ∙ ap₂ (λ x y. x || y) above c.config_arg-config.ensures.local in
    let second : app_of c.in_ok-arg-2.field-0 ≡ with_rule (with_rule (new_app (codes "run")) config_rule) check_rule = c.in_ok-arg-2.ensures.shape c.check_arg-check.ensures.local ∙ ap₂ with_rule first c.check_arg-check.ensures.rule in
    let still : (out-Command c.in_ok-arg-2.field-0).has_globals ≡ false = c.in_ok-arg-2.ensures.globals ∙ ap₂ (λ x y. x || y) local c.check_arg-check.ensures.local in
    let third : app_of c.in_ok-arg-3.field-0 ≡ with_rule (with_rule (with_rule (new_app (codes "run")) config_rule) check_rule) quiet_rule =
    c.in_ok-arg-3.ensures.shape c.quiet_arg-quiet.ensures.local ∙ ap₂ with_rule second c.quiet_arg-quiet.ensures.rule in
    let yet : (out-Command c.in_ok-arg-3.field-0).has_globals ≡ false = c.in_ok-arg-3.ensures.globals ∙ ap₂ (λ x y. x || y) still c.quiet_arg-quiet.ensures.local in
    let fourth : app_of c.in_ok-arg-4.field-0 ≡ with_rule (with_rule (with_rule (with_rule (new_app (codes "run")) config_rule) check_rule) quiet_rule) no_input_rule =
    c.in_ok-arg-4.ensures.shape c.no_input_arg-no_input.ensures.local ∙ ap₂ with_rule third c.no_input_arg-no_input.ensures.rule in
    let more : (out-Command c.in_ok-arg-4.field-0).has_globals ≡ false = c.in_ok-arg-4.ensures.globals ∙ ap₂ (λ x y. x || y) yet c.no_input_arg-no_input.ensures.local in
    IfOk-weaker c.arg-5.result _ _ (λ command h. (h.shape c.verbose_arg-verbose.ensures.local ∙ ap₂ with_rule fourth c.verbose_arg-verbose.ensures.rule, h.globals ∙ ap₂ (λ x y. x || y) more c.verbose_arg-verbose.ensures.local)) c.arg-5.ensures
