-- What the plain folder counts is what the folder has.
use Rattle.std.proofs.Common.{◌≡◌, ℕ, Bool, List, length, refl, sym, ap, ◌∙◌}
use Rattle.std.specs.Prelude.{◌&&◌, count_by, filter, map, not}
use Rattle.std.specs.Bool.{passes}
use Rattle.std.specs.FinMap.{entries, entries-from_sorted, len, len-entries}
use Rattle.std.proofs.lemmas.List.{length-map}
use Rattle.std.proofs.lemmas.List.Sums.{length-filter}
use Rattle.sync_record.specs.Devices.{Identity, bytes_cmp}
use Rattle.sync_record.specs.Records.{FileRecord}
use Rattle.folder_core.specs.declared.announcement.Announcement.{Announcement as Entry}
use Rattle.folder_core.specs.declared.plain.pull.OpenPull.{OpenPull}
use Rattle.folder_core.specs.Announced.{is_by, key_cmp}
use Rattle.folder_core.specs.Codes.{Pulls}
use Rattle.folder_core.specs.Plain.{PullsRise, Rises, filed, folder_of, pulled, pulls_of}
use Rattle.folder_core.specs.PlainReads.{is_from, records_from}
use Rattle.folder_core.specs.Reads.{locals}
use Rattle.folder_core.proofs.ListFilters.{filter_filter, filter_map}
use Rattle.folder_core.proofs.PlainOwn.{locals_are}

module _ (me : Identity) (es : List Entry) (last : ℕ) (pulls : Pulls) (rises : Rises es) where
  -- of the local records, those that pass
  pub own_counted : (p : FileRecord → Bool) → length (filter (λ e. is_from me e && p e.record) es) ≡ count_by p (locals (folder_of me es last pulls))
  own_counted p =
      sym (ap length (filter_filter (is_from me) (λ e. p e.record) (λ e. is_from me e && p e.record) es (λ e. refl)))
      ∙ sym (length-map (filter (λ e. p e.record) (filter (is_from me) es)) (λ (e : Entry). e.record))
      ∙ ap length (sym (filter_map (λ (e : Entry). e.record) p (filter (is_from me) es)))
      ∙ length-filter p (records_from me es)
      ∙ ap (count_by p) (locals_are me es last pulls rises)

  pub others_counted : length (filter (λ e. not (is_from me e)) es) ≡ count_by (λ e. not (is_by me e)) (entries (folder_of me es last pulls).announced)
  others_counted =
      sym (length-map (filter (λ e. not (is_from me e)) es) filed)
      ∙ ap length (sym (filter_map filed (λ e. not (is_by me e)) es))
      ∙ length-filter (λ e. not (is_by me e)) (map filed es)
      ∙ ap (count_by (λ e. not (is_by me e))) (sym (entries-from_sorted key_cmp (map filed es) (passes _ rises)))

pub pulls_counted : (ps : List OpenPull) → PullsRise ps → length ps ≡ len (pulls_of ps)
pulls_counted ps rise = sym (len-entries (pulls_of ps) ∙ ap length (entries-from_sorted bytes_cmp (map pulled ps) (passes _ rise)) ∙ length-map ps pulled)
