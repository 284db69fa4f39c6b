use Rattle.std.proofs.Common.{map, Some, None, false, true, sym, inl, inr, option_map, codes, if◌then◌else◌, ◌∙◌}
use Rattle.std.specs.String.{string_bytes}
use Rattle.clap.specs.Words.{app_of}
use Rattle.bepd.specs.CommandLine.{ask_command_at, ask_config_at, ask_folder_at, check_at, config_at, dial_at, directory_at, folder_at, is_pair, is_true, json_at, listen_at, no_input_at, quiet_at, shared_at, status_config_at, syncthing_at, verbose_at, watch_at}
use Rattle.bepd.proofs.Matching.{at_error, error_at, no_faults, read_at}
use Rattle.bepd.proofs.command.command_of.Goals as goal

pub returns-in_err-matches-clause-error : goal.returns-in_err-matches-clause-error
returns-in_err-matches-clause-error c =
    let words = map string_bytes c.args.words.now in
    at_error _ c.from_residual-in_err-matches.result c.in_err-matches.field-0.0 c.from_residual-in_err-matches.ensures.1
    (error_at (app_of c.in_ok-command.command) words c.in_err-matches.field-0.0 c.in_ok-command.ensures c.in_err-matches.ensures.kinds)

pub returns-in-Some-folder_in-clause-named : goal.returns-in-Some-folder_in-clause-named
returns-in-Some-folder_in-clause-named c =
    let words = map string_bytes c.args.words.now in
    let app = app_of c.in_ok-command.command in (
      no_faults app words c.in_ok-command.ensures c.in_ok-matches.ensures.kinds,
      read_at folder_at app words c.in_ok-matches.matches (Some c.in-Some-folder_in.folder.now) c.in_ok-command.ensures c.in_ok-matches.ensures.ok.2 c.in-Some-folder_in.ensures,
    )

pub returns-in-Some-clause-named : goal.returns-in-Some-clause-named
returns-in-Some-clause-named c =
    let words = map string_bytes c.args.words.now in
    let app = app_of c.in_ok-command.command in (
      (
        no_faults app words c.in_ok-command.ensures c.in_ok-matches.ensures.kinds,
        read_at config_at app words c.in_ok-matches.matches (Some c.in-Some.path.now) c.in_ok-command.ensures c.in_ok-matches.ensures.ok.2 c.in-Some.ensures,
        read_at (λ command. is_true (check_at command)) app words c.in_ok-matches.matches false c.in_ok-command.ensures c.in_ok-matches.ensures.ok.2 (sym c.if-is_check.false ∙ c.is_check.ensures),
      ),
      read_at (λ command. is_true (quiet_at command)) app words c.in_ok-matches.matches false c.in_ok-command.ensures c.in_ok-matches.ensures.ok.2 (sym c.if-is_quiet.false ∙ c.is_quiet.ensures),
      read_at (λ command. is_true (no_input_at command)) app words c.in_ok-matches.matches c.has_no_input.result c.in_ok-command.ensures c.in_ok-matches.ensures.ok.2 c.has_no_input.ensures,
      read_at (λ command. is_true (verbose_at command)) app words c.in_ok-matches.matches c.is_verbose.result c.in_ok-command.ensures c.in_ok-matches.ensures.ok.2 c.is_verbose.ensures,
    )

pub returns-then-is_quiet-clause-named : goal.returns-then-is_quiet-clause-named
returns-then-is_quiet-clause-named c =
    let words = map string_bytes c.args.words.now in
    let app = app_of c.in_ok-command.command in (
      (
        no_faults app words c.in_ok-command.ensures c.in_ok-matches.ensures.kinds,
        read_at config_at app words c.in_ok-matches.matches (Some c.in-Some.path.now) c.in_ok-command.ensures c.in_ok-matches.ensures.ok.2 c.in-Some.ensures,
        read_at (λ command. is_true (check_at command)) app words c.in_ok-matches.matches false c.in_ok-command.ensures c.in_ok-matches.ensures.ok.2 (sym c.if-is_check.false ∙ c.is_check.ensures),
      ),
      read_at (λ command. is_true (quiet_at command)) app words c.in_ok-matches.matches true c.in_ok-command.ensures c.in_ok-matches.ensures.ok.2 (sym c.if-is_quiet.true ∙ c.is_quiet.ensures),
      read_at (λ command. is_true (no_input_at command)) app words c.in_ok-matches.matches c.has_no_input.result c.in_ok-command.ensures c.in_ok-matches.ensures.ok.2 c.has_no_input.ensures,
      read_at (λ command. is_true (verbose_at command)) app words c.in_ok-matches.matches c.is_verbose.result c.in_ok-command.ensures c.in_ok-matches.ensures.ok.2 c.is_verbose.ensures,
    )

pub returns-in-Some-asked_in-clause-named : goal.returns-in-Some-asked_in-clause-named
returns-in-Some-asked_in-clause-named c =
    let words = map string_bytes c.args.words.now in
    let app = app_of c.in_ok-command.command in
    let asked = c.in-Some-asked_in.ensures in (
      no_faults app words c.in_ok-command.ensures c.in_ok-matches.ensures.kinds,
      inl (
        read_at ask_config_at app words c.in_ok-matches.matches (Some c.in-Some-asked_in.ask.config.now) c.in_ok-command.ensures c.in_ok-matches.ensures.ok.2 (sym asked.0),
        read_at ask_command_at app words c.in_ok-matches.matches (Some c.in-Some-asked_in.ask.command.now) c.in_ok-command.ensures c.in_ok-matches.ensures.ok.2 (sym asked.1),
        read_at ask_folder_at app words c.in_ok-matches.matches (option_map (λ s. s.now) c.in-Some-asked_in.ask.folder) c.in_ok-command.ensures c.in_ok-matches.ensures.ok.2 (sym asked.2),
        asked.3,
      ),
    )

pub returns-in-Some-status_in-clause-named : goal.returns-in-Some-status_in-clause-named
returns-in-Some-status_in-clause-named c =
    let words = map string_bytes c.args.words.now in
    let app = app_of c.in_ok-command.command in
    let asked = c.in-Some-status_in.ensures in (
      no_faults app words c.in_ok-command.ensures c.in_ok-matches.ensures.kinds,
      inr (
        read_at status_config_at app words c.in_ok-matches.matches (Some c.in-Some-status_in.status.config.now) c.in_ok-command.ensures c.in_ok-matches.ensures.ok.2 (sym asked.0),
        asked.1,
        sym (read_at (λ command. if is_true (json_at command) then Some (codes "json") else None) app words c.in_ok-matches.matches (option_map (λ s. s.now) c.in-Some-status_in.status.folder) c.in_ok-command.ensures c.in_ok-matches.ensures.ok.2 asked.2),
        read_at (λ command. is_true (watch_at command)) app words c.in_ok-matches.matches c.in-Some-status_in.status.is_watched c.in_ok-command.ensures c.in_ok-matches.ensures.ok.2 (sym asked.3),
      ),
    )

pub returns-then-is_check-clause-named : goal.returns-then-is_check-clause-named
returns-then-is_check-clause-named c =
    let words = map string_bytes c.args.words.now in
    let app = app_of c.in_ok-command.command in (
      no_faults app words c.in_ok-command.ensures c.in_ok-matches.ensures.kinds,
      read_at config_at app words c.in_ok-matches.matches (Some c.in-Some.path.now) c.in_ok-command.ensures c.in_ok-matches.ensures.ok.2 c.in-Some.ensures,
      read_at (λ command. is_true (check_at command)) app words c.in_ok-matches.matches true c.in_ok-command.ensures c.in_ok-matches.ensures.ok.2 (sym c.if-is_check.true ∙ c.is_check.ensures),
    )

pub returns-then-is_pair-clause-named : goal.returns-then-is_pair-clause-named
returns-then-is_pair-clause-named c =
    let words = map string_bytes c.args.words.now in
    let app = app_of c.in_ok-command.command in (
      no_faults app words c.in_ok-command.ensures c.in_ok-matches.ensures.kinds,
      read_at is_pair app words c.in_ok-matches.matches true c.in_ok-command.ensures c.in_ok-matches.ensures.ok.2 (sym c.if-is_pair.true ∙ c.is_pair.ensures),
    )

pub returns-in-Some-directory_in-clause-named : goal.returns-in-Some-directory_in-clause-named
returns-in-Some-directory_in-clause-named c =
    let words = map string_bytes c.args.words.now in
    let app = app_of c.in_ok-command.command in (
      no_faults app words c.in_ok-command.ensures c.in_ok-matches.ensures.kinds,
      read_at directory_at app words c.in_ok-matches.matches (Some c.in-Some-directory_in.directory.now) c.in_ok-command.ensures c.in_ok-matches.ensures.ok.2 c.in-Some-directory_in.ensures,
      read_at (λ command. is_true (syncthing_at command)) app words c.in_ok-matches.matches c.is_syncthing.result c.in_ok-command.ensures c.in_ok-matches.ensures.ok.2 c.is_syncthing.ensures,
      read_at dial_at app words c.in_ok-matches.matches (option_map (λ s. s.now) c.dial_in.result) c.in_ok-command.ensures c.in_ok-matches.ensures.ok.2 c.dial_in.ensures,
      read_at listen_at app words c.in_ok-matches.matches (option_map (λ s. s.now) c.listen_in.result) c.in_ok-command.ensures c.in_ok-matches.ensures.ok.2 c.listen_in.ensures,
      read_at shared_at app words c.in_ok-matches.matches (option_map (λ s. s.now) c.shared_in.result) c.in_ok-command.ensures c.in_ok-matches.ensures.ok.2 c.shared_in.ensures,
    )

pub returns-clause-error : goal.returns-clause-error
returns-clause-error c =
    let words = map string_bytes c.args.words.now in
    let app = app_of c.in_ok-command.command in
    let m = c.in_ok-matches.matches in
    elim c.error_in.ensures [
      | inl missing ↦ inr (inr (
        read_at folder_at app words m None c.in_ok-command.ensures c.in_ok-matches.ensures.ok.2 c.in-None.ensures,
        read_at is_pair app words m false c.in_ok-command.ensures c.in_ok-matches.ensures.ok.2 (sym c.if-is_pair.false ∙ c.is_pair.ensures),
        read_at config_at app words m None c.in_ok-command.ensures c.in_ok-matches.ensures.ok.2 c.in_default.ensures,
        read_at directory_at app words m None c.in_ok-command.ensures c.in_ok-matches.ensures.ok.2 c.in_default-directory_in.ensures,
        elim c.in_default-asked_in.ensures [
          | inl lacks ↦ inl (read_at ask_config_at app words m None c.in_ok-command.ensures c.in_ok-matches.ensures.ok.2 (sym lacks))
          | inr lacks ↦ inr (read_at ask_command_at app words m None c.in_ok-command.ensures c.in_ok-matches.ensures.ok.2 (sym lacks))
        ],
        read_at status_config_at app words m None c.in_ok-command.ensures c.in_ok-matches.ensures.ok.2 (sym c.in_default-status_in.ensures),
        missing,
      ))
      | inr out ↦ inl out
    ]
