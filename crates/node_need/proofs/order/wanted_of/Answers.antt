use Rattle.std.proofs.Common.{◌∙◌, List, Some, ap, refl, sym}
use Rattle.std.specs.Prelude.{option_map}
use Rattle.folder_calls.specs.Calls.{answer_at, best_entry}
use Rattle.folder_core.specs.declared.best.Best.{Best}
use Rattle.sync_record.specs.Devices.{Identity}
use Rattle.node_need.specs.Orders.{is_reached}
use Rattle.node_need.proofs.order.wanted_of.Goals as goal

pub returns-in_ok-copy-in-Some-clause-asked : goal.returns-in_ok-copy-in-Some-clause-asked
returns-in_ok-copy-in-Some-clause-asked g c =
    record {
      name = c.in_ok-copy-in-Some.ensures;
      devices = c.in-Some.found.devices;
      best = answer_at (λ b. option_map best_entry b) c.in_ok-best.best;
      point = g.W.FolderCalls.view c.best.new.self;
      reads_best = c.in_ok-best.ensures.reads;
      best_is = ap (option_map best_entry) c.in-Some.is ∙ ap (λ (b : Best). Some (b.record, c.in-Some.found.devices)) (sym c.in-Some.found-is);
      reached = c.is_reached.ensures ∙ ap (λ (xs : List Identity). is_reached xs c.args.up.now) c.as_slice.ensures
          ∙ ap (λ (b : Best). is_reached b.devices c.args.up.now) c.in-Some.found-is;
      local = answer_at (λ r. r) c.in_ok-local-in-Some.local;
      reads_local = c.in_ok-local-in-Some.ensures.reads;
      local_is = refl;
    }
