use Rattle.std.proofs.Common.{rules, ap, ap₂, ◌∙◌, ◌≡◌}
use Rattle.std.proofs.lemmas.Result.{IfOk-weaker}
use Rattle.bepd.specs.CommandLine.{ask_app, best_app, fresh_app, pair_app, run_app}
use Rattle.clap.specs.Simple.{on_top}
use Rattle.clap.specs.Words.{App, app_of, new_app, with_subcommand}
use Rattle.std.specs.Prelude.{codes, true}
use Rattle.bepd.proofs.command.program.Goals as goal

pub returns : goal.returns
returns c =
    let above : app_of c.after_help.result ≡ on_top (λ s. record s { has_version = true }) (new_app (codes "bepd")) = search rules in
    let first : app_of c.in_ok-subcommand.field-0 ≡ with_subcommand (on_top (λ s. record s { has_version = true }) (new_app (codes "bepd"))) best_app.top =
    c.in_ok-subcommand.ensures.shape c.in_ok-best.ensures.1 ∙ ap₂ with_subcommand above (ap (λ (a : App). a.top) c.in_ok-best.ensures.0) in
    let second : app_of c.in_ok-subcommand-2.field-0 ≡ with_subcommand (with_subcommand (on_top (λ s. record s { has_version = true }) (new_app (codes "bepd"))) best_app.top) pair_app.top =
    c.in_ok-subcommand-2.ensures.shape c.pair_command-pair.ensures.local ∙ ap₂ with_subcommand first (ap (λ (a : App). a.top) c.pair_command-pair.ensures.app) in
    let third : app_of c.in_ok-subcommand-3.field-0 ≡ with_subcommand (with_subcommand (with_subcommand (on_top (λ s. record s { has_version = true }) (new_app (codes "bepd"))) best_app.top) pair_app.top) run_app.top =
    c.in_ok-subcommand-3.ensures.shape c.in_ok-run.ensures.1 ∙ ap₂ with_subcommand second (ap (λ (a : App). a.top) c.in_ok-run.ensures.0) in
    let fourth : app_of c.in_ok-subcommand-4.field-0
    ≡ with_subcommand (with_subcommand (with_subcommand (with_subcommand (on_top (λ s. record s { has_version = true }) (new_app (codes "bepd"))) best_app.top) pair_app.top) run_app.top) fresh_app.top =
    c.in_ok-subcommand-4.ensures.shape c.in_ok-fresh.ensures.1 ∙ ap₂ with_subcommand third (ap (λ (a : App). a.top) c.in_ok-fresh.ensures.0) in
    let fifth : app_of c.in_ok-subcommand-5.field-0
    ≡ with_subcommand (with_subcommand (with_subcommand (with_subcommand (with_subcommand (on_top (λ s. record s { has_version = true }) (new_app (codes "bepd"))) best_app.top) pair_app.top) run_app.top) fresh_app.top) ask_app.top =
    c.in_ok-subcommand-5.ensures.shape c.in_ok-ask.ensures.1 ∙ ap₂ with_subcommand fourth (ap (λ (a : App). a.top) c.in_ok-ask.ensures.0) in
    IfOk-weaker c.subcommand-6.result _ _ (λ command h. h.shape c.in_ok-status.ensures.1 ∙ ap₂ with_subcommand fifth (ap (λ (a : App). a.top) c.in_ok-status.ensures.0)) c.subcommand-6.ensures
