use Rattle.std.proofs.Common.{◌∙◌}
use Rattle.std.proofs.lemmas.Str.{IsUtf8-past_char}
use Rattle.node_status.proofs.ScreenLemmas.{shown_more, shown_end}
use Rattle.node_status.proofs.screen.push_shown.Goals as goal

pub loop-char-preserved : goal.loop-char-preserved
loop-char-preserved c =
    let before = c.loop-char.invariant in
    let divided = c.in-Some.ensures.steps.0 in
    record {
      is_text = IsUtf8-past_char _ _ c.in-Some.char before.is_text divided;
      pushed = shown_more _ _ _ _ c.in-Some.char before.is_text divided c.in_ok-push_char.ensures ∙ before.pushed;
    }

pub returns : goal.returns
returns c = shown_end _ _ _ _ c.in-None.ensures.steps.0.0 c.loop-char.invariant.pushed
