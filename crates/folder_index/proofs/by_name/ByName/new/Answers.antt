use Rattle.std.proofs.Common.{List, [], sym, ap, subst, ◌∙◌}
use Rattle.folder_index.specs.declared.totals.Totals.{Totals}
use Rattle.folder_index.specs.Groups.{AreGroups, announced_in, promised_in}
use Rattle.folder_index.specs.Chunks.{groups_in}
use Rattle.folder_index.specs.declared.noted.Noted.{Noted}
use Rattle.folder_index.specs.Noted.{AreNoted}
use Rattle.folder_index.proofs.Noting.{none_noted}
use Rattle.folder_index.proofs.Listed.{Groups}
use Rattle.folder_index.proofs.Replaced.{no_groups}
use Rattle.folder_index.proofs.Found.{none_announced}
use Rattle.folder_index.proofs.by_name.ByName.new.Goals as goal

pub returns : goal.returns
returns c = λ i. record { me = c.args.me; announced = (ap announced_in c.new.ensures.empty ∙ none_announced) i; choices = 0; promised = ap promised_in c.new.ensures.empty i }

pub invariant_of-result : goal.invariant_of-result
invariant_of-result c = record {
  chunked = record {
    filled = c.new.ensures.filled;
    counted = c.new.ensures.counted;
    are = subst (λ (p : Groups × Totals). AreGroups c.args.me p.0 p.1) (λ i. (sym c.new.ensures.empty i, sym c.none.ensures i)) (no_groups c.args.me);
  };
  noted = subst (λ (ks : List Noted). AreNoted c.args.me ks (announced_in (groups_in c.new.result))) (sym c.new-2.ensures.items) (subst (AreNoted c.args.me []) (sym (ap announced_in c.new.ensures.empty ∙ none_announced)) (none_noted c.args.me));
}
