-- What a change of its entries leaves of a group.
use Rattle.std.proofs.Common.{◌≡◌, List, refl, sym, ap, subst, ◌∙◌}
use Rattle.std.specs.Prelude.{IsTrue, ◌<◌, ◌≤◌, ◌^◌, bytes_eq, T, filter, length, map, not, is_some}
use Rattle.std.specs.Bool.{passes}
use Rattle.std.specs.List.{list_all}
use Rattle.std.specs.FinMap.{is_sorted, put}
use Rattle.std.specs.FinMap.Entries.{is_sorted-put, is_sorted-where_key}
use Rattle.sync_record.specs.Devices.{Identity}
use Rattle.sync_record.specs.Records.{Name, FileRecord}
use Rattle.folder_core.specs.declared.announcement.Announcement.{Announcement as Entry}
use Rattle.folder_core.specs.Announced.{is_of, key, key_cmp}
use Rattle.folder_core.specs.Plain.{filed}
use Rattle.folder_core.specs.PlainPulls.{best_in}
use Rattle.folder_core.specs.PlainReads.{is_from, needed_of}
use Rattle.folder_core.proofs.ListFilters.{filter_map}
use Rattle.folder_core.proofs.Orders.{is_true, keys_total}
use Rattle.folder_index.specs.declared.group.Group.{Group}
use Rattle.folder_index.specs.Groups.{IsGroup, chosen, entries_in, name_in, room_in}
use Rattle.folder_index.proofs.Lists.{all_kept}
use Rattle.folder_index.proofs.Keeping.{named_filed, put_named}

pub group_set : (me d : Identity) (r : FileRecord) (old new : Group) → IsGroup me r.name old → map filed (entries_in new) ≡ put key_cmp (key r.name d) r (map filed (entries_in old)) → chosen new ≡ best_in (entries_in new) → new.is_needed ≡ is_some (needed_of me (entries_in new)) → (IsTrue new.is_promised → 1 ≤ room_in new) → name_in new ≡ r.name → length (entries_in new) < 2 ^ 32 → IsGroup me r.name new
group_set me d r old new group placed best needed fits name short = record {
  rises = is_true _ (subst (λ xs. T (is_sorted key_cmp xs)) (sym placed) (is_sorted-put key_cmp keys_total (key r.name d) r (map filed (entries_in old)) (passes _ group.rises)));
  named = named_filed r.name (entries_in new) ∙ ap (list_all (is_of r.name)) placed ∙ put_named r.name (key r.name d) r (map filed (entries_in old)) refl (sym (named_filed r.name (entries_in old)) ∙ group.named);
  best = best;
  needed = needed;
  fits = fits;
  name = name;
  short = short;
}

pub group_cleared : (me : Identity) (n : Name) (d : Identity) (old new : Group) → IsGroup me n old → (entries_in new) ≡ filter (λ e. not (is_from d e)) (entries_in old) → chosen new ≡ best_in (entries_in new) → new.is_needed ≡ is_some (needed_of me (entries_in new)) → (IsTrue new.is_promised → 1 ≤ room_in new) → name_in new ≡ n → length (entries_in new) < 2 ^ 32 → IsGroup me n new
group_cleared me n d old new group taken best needed fits name short = record {
  rises = ap (λ (es : List Entry). is_sorted key_cmp (map filed es)) taken
      ∙ ap (is_sorted key_cmp) (sym (filter_map filed (λ e. not (bytes_eq e.0.device d)) (entries_in old)))
      ∙ is_true _ (is_sorted-where_key key_cmp (λ k. not (bytes_eq k.device d)) (map filed (entries_in old)) (passes _ group.rises));
  named = ap (list_all (λ e. bytes_eq e.record.name n)) taken ∙ all_kept (λ e. bytes_eq e.record.name n) (λ e. not (is_from d e)) (entries_in old) group.named;
  best = best;
  needed = needed;
  fits = fits;
  name = name;
  short = short;
}
