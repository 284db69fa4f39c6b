use Rattle.std.proofs.Common.{◌≡◌, subst, sym, arith}
use Rattle.std.specs.Prelude.{All, None}
use Rattle.std.proofs.lemmas.List.Elements.{All-push}
use Rattle.std.proofs.lemmas.Grind.{common_steps}
use Rattle.bep_messages.specs.declared.file_info.FileInfo.{FileInfo}
use Rattle.sync_names.specs.Refusal.{refusal}
use Rattle.index_sender.proofs.infos.file_infos.Goals as goal

abbrev IsSafe : FileInfo → Type 0
IsSafe info = refusal info.name ≡ None

pub loop-record-preserved : goal.loop-record-preserved
loop-record-preserved c = record {
  infos = grind (arith, common_steps);
  again = grind (arith, common_steps);
  safe = subst (All IsSafe) (sym c.in_ok-push.ensures.items) (All-push IsSafe c.loop-record.infos.items c.in_ok-to_info.field-0 c.loop-record.invariant.safe c.in_ok-to_info.ensures.again.0);
}
