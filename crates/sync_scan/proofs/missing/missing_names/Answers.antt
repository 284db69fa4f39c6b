use Rattle.std.proofs.Common.{◌∙◌, map, sym, subst, arith}
use Rattle.file_store.specs.declared.node.Listed.{Listed}
use Rattle.sync_scan.specs.AllNames.{AddsMissing, AreMissing}
use Rattle.sync_scan.proofs.PageLemmas.{Laws, collected-all, collected-page, nearer, ok-through, rises}
use Rattle.sync_scan.proofs.missing.missing_names.Goals as goal

pub returns-in_default-clause-missing : goal.returns-in_default-clause-missing
returns-in_default-clause-missing g c =
    let laws : Laws = record {
      folder = c.views_are_of_folders.ensures.folder;
      divided = c.histories_may_be_divided.ensures.legal;
      leads = c.histories_may_be_divided.ensures.leads;
      records = c.local_records_go_on.ensures.records;
      last = c.local_records_go_on.ensures.last;
      only = c.local_records_come_in_pages.ensures.only;
      all = c.local_records_come_in_pages.ensures.all;
    } in
    let listed = map (λ (e : Listed). e.name) c.args.entries.now in
    ok-through (AreMissing (g.W.FolderCalls.view c.args.calls.now) (g.W.FolderCalls.view c.local_since.new.self) listed) (λ v. v.items) c.loop-names.names.keys c.in_order.result c.in_order.ensures
    (collected-all laws _ _ _ _ _ _ _ c.loop-names.invariant.collected _ c.in_ok-page.ensures.reads (omega arith) c.as_slice.result.now c.as_slice.ensures
    c.in_default.ensures.value c.loop-names.invariant.order)

pub loop-names-smaller : goal.loop-names-smaller
loop-names-smaller g c =
    let laws : Laws = record {
      folder = c.views_are_of_folders.ensures.folder;
      divided = c.histories_may_be_divided.ensures.legal;
      leads = c.histories_may_be_divided.ensures.leads;
      records = c.local_records_go_on.ensures.records;
      last = c.local_records_go_on.ensures.last;
      only = c.local_records_come_in_pages.ensures.only;
      all = c.local_records_come_in_pages.ensures.all;
    } in
    nearer c.loop-names.cursor c.sequence-cursor.result
    (rises laws _ _ _ _ _ _ _ c.loop-names.invariant.collected _ c.in_ok-page.ensures.reads c.as_slice.result.now c.as_slice.ensures c.in-Some.last.now
    c.in-Some.ensures.value c.sequence-cursor.result c.sequence-cursor.ensures.value)
    c.sequence-cursor.ensures.fits

pub loop-names-preserved : goal.loop-names-preserved
loop-names-preserved g c =
    let laws : Laws = record {
      folder = c.views_are_of_folders.ensures.folder;
      divided = c.histories_may_be_divided.ensures.legal;
      leads = c.histories_may_be_divided.ensures.leads;
      records = c.local_records_go_on.ensures.records;
      last = c.local_records_go_on.ensures.last;
      only = c.local_records_come_in_pages.ensures.only;
      all = c.local_records_come_in_pages.ensures.all;
    } in
    let listed = map (λ (e : Listed). e.name) c.args.entries.now in
    record {
      folder = c.in_ok-page.ensures.folder ∙ c.loop-names.invariant.folder;
      collected = collected-page laws _ _ _ _ _ _ _ c.loop-names.invariant.collected _ c.in_ok-page.ensures.reads c.as_slice.result.now c.as_slice.ensures
          c.in-Some.last.now c.in-Some.ensures.value c.sequence-cursor.result c.sequence-cursor.ensures.value c.add_missing.new.names.keys
          (subst (λ rs. AddsMissing listed rs c.loop-names.names.keys c.add_missing.new.names.keys) (c.as_slice-in-loop-names.ensures ∙ sym c.as_slice.ensures)
          c.in_ok-add_missing.ensures.adds);
      order = c.in_ok-add_missing.ensures.order c.loop-names.invariant.order;
    }
