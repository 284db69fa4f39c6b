use Rattle.std.proofs.Common.{◌<◌, IfSome, Some, length, sym, subst, ap, ◌∙◌}
use Rattle.std.specs.Prelude.{option_and_then, option_copied, slice_get}
use Rattle.std.proofs.lemmas.Option.{slice_get-get_or}
use Rattle.folder_core.specs.Plain.{better_of, is_undominated}
use Rattle.folder_core.proofs.PlainFound.{taken, left}
use Rattle.folder_core.proofs.Choosing.{kept_best, new_best}
use Rattle.folder_core.proofs.choice.place_of_best.Goals as goal
use Rattle.folder_core.proofs.choice.place_of_best.Goals.{then-is_undominated+then-outranks, else-is_undominated, else-is_undominated-via-then-is_undominated+else-outranks, else-is_undominated-via-else-is_undominated}

pub loop-i-preserved : goal.loop-i-preserved
loop-i-preserved c =
    let es = c.args.entries.now in
    let i = c.loop-i.i in
    let e = c.index-entries-i.result in
    let before = c.loop-i.invariant.best in
    elim c.if-is_undominated.branch [
      | then-is_undominated+then-outranks w ↦ record {
        best = ap option_copied w.best-is
            ∙ sym (taken (is_undominated es) es i e c.loop-i-test.true c.index-entries-i.is (sym c.is_undominated.ensures ∙ w.if-is_undominated.true)
            ∙ ap (λ o. Some (better_of o e)) (sym before)
            ∙ ap Some (new_best (option_copied c.loop-i.best) e w.outranks.result w.outranks.ensures w.if-outranks.true));
        place = ap (option_and_then (λ i. slice_get es i)) w.place-is
            ∙ slice_get-get_or es i e c.loop-i-test.true
            ∙ ap Some (sym c.index-entries-i.is)
            ∙ sym (ap option_copied w.best-is);
        within = subst (λ o. IfSome o (λ j. j < length es)) (sym w.place-is) c.loop-i-test.true;
      }
      | else-is_undominated w ↦ record {
        best = ap option_copied w.best-is ∙ before ∙ elim w.else-is_undominated.branch [
          | else-is_undominated-via-then-is_undominated+else-outranks v ↦
              sym (taken (is_undominated es) es i e c.loop-i-test.true c.index-entries-i.is (sym c.is_undominated.ensures ∙ v.if-is_undominated.true)
              ∙ ap (λ o. Some (better_of o e)) (sym before)
              ∙ kept_best (option_copied c.loop-i.best) e v.outranks.result v.outranks.ensures v.if-outranks.false
              ∙ before)
          | else-is_undominated-via-else-is_undominated v ↦
              sym (left (is_undominated es) es i e c.loop-i-test.true c.index-entries-i.is (sym c.is_undominated.ensures ∙ v.if-is_undominated.false))
        ];
        place = ap (option_and_then (λ i. slice_get es i)) w.place-is ∙ c.loop-i.invariant.place ∙ sym (ap option_copied w.best-is);
        within = subst (λ o. IfSome o (λ j. j < length es)) (sym w.place-is) c.loop-i.invariant.within;
      }
    ]
