use Rattle.std.proofs.Common.{◌≡◌, subst, arith}
use Rattle.std.specs.Prelude.{All, None}
use Rattle.std.proofs.lemmas.Grind.{common_steps}
use Rattle.std.proofs.lemmas.List.Elements.{All-tail}
use Rattle.bep_messages.specs.declared.file_info.FileInfo.{FileInfo}
use Rattle.sync_names.specs.Refusal.{refusal}
use Rattle.proof_layers.proofs.pages.records_of.Goals as goal

abbrev IsSafe : FileInfo → Type 0
IsSafe info = refusal info.name ≡ None

pub loop-info-preserved : goal.loop-info-preserved
loop-info-preserved c = record {
  all = grind (arith, common_steps);
  safe = All-tail IsSafe c.in-Some.info c.pop_front.new.self.items (subst (All IsSafe) c.in-Some.ensures.items c.loop-info.invariant.safe);
}
