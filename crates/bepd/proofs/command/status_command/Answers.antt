use Rattle.std.proofs.Common.{rules, ap₂, ◌∙◌, ◌≡◌}
use Rattle.std.proofs.lemmas.Result.{IfOk-weaker}
use Rattle.bepd.specs.CommandLine.{config_rule, json_rule}
use Rattle.clap.specs.Words.{app_of, new_app, with_rule}
use Rattle.clap.specs.declared.builder.command.Command.{out-Command}
use Rattle.std.specs.Prelude.{codes, false, ◌||◌}
use Rattle.bepd.proofs.command.status_command.Goals as goal

pub returns : goal.returns
returns c =
    let new : app_of c.after_help.result ≡ new_app (codes "status") = search rules in
    let above : (out-Command c.after_help.result).has_globals ≡ false = search rules in
    let first : app_of c.in_ok-arg.field-0 ≡ with_rule (new_app (codes "status")) config_rule = c.in_ok-arg.ensures.shape c.config_arg-config.ensures.local ∙ ap₂ with_rule new c.config_arg-config.ensures.rule in
    let local : (out-Command c.in_ok-arg.field-0).has_globals ≡ false = c.in_ok-arg.ensures.globals ∙ ap₂ (λ x y. x || y) above c.config_arg-config.ensures.local in
    let second : app_of c.in_ok-arg-2.field-0 ≡ with_rule (with_rule (new_app (codes "status")) config_rule) json_rule =
    c.in_ok-arg-2.ensures.shape c.json_arg-json.ensures.local ∙ ap₂ with_rule first c.json_arg-json.ensures.rule in
    let still : (out-Command c.in_ok-arg-2.field-0).has_globals ≡ false = c.in_ok-arg-2.ensures.globals ∙ ap₂ (λ x y. x || y) local c.json_arg-json.ensures.local in
    IfOk-weaker c.arg-3.result _ _ (λ command h. (h.shape c.watch_arg-watch.ensures.local ∙ ap₂ with_rule second c.watch_arg-watch.ensures.rule, h.globals ∙ ap₂ (λ x y. x || y) still c.watch_arg-watch.ensures.local)) c.arg-3.ensures
