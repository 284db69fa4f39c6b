-- A page from a read of the folder.
use Rattle.std.proofs.Common.{◌≡◌, ℕ, Bool, List, length, ◌++◌, sym, ap, ◌∙◌, append_assoc}
use Rattle.std.specs.Prelude.{Some, nat_lt}
use mathlib.Core.List.{IsPrefix}
use Rattle.sync_record.specs.Records.{FileRecord}
use Rattle.folder_core.specs.Reads.{LocalSince, local_since}
use Rattle.folder_calls.specs.declared.at.At.{At}
use Rattle.folder_calls.specs.declared.entry.Entry.{Entry}
use Rattle.folder_calls.specs.Histories.{state_after}
use Rattle.folder_calls.specs.Shared.{CallerView, ReadsAt, Sees, now}
use Rattle.index_sender.specs.Overlay.{GoesOn}
use Rattle.index_sender.specs.Pages.{Gives, GivesKept, Progress, after_page, page_of, up_to}
use Rattle.index_sender.specs.declared.page.Page.{Page}

prefix-on : (xs ys zs : List Entry) → IsPrefix xs ys → IsPrefix ys zs → IsPrefix xs zs
prefix-on xs ys zs first second = (first.0 ++ second.0, sym (append_assoc xs first.0 second.0) ∙ ap (λ l. l ++ second.0) first.1 ∙ second.1)

pub goes-on : (point before after : CallerView) → GoesOn point before → Sees before after → GoesOn point after
goes-on point before after go sees = record {
  opening = go.opening ∙ sym (ap (λ (v : CallerView). v.opening) sees.same);
  seen = prefix-on point.seen before.seen after.seen go.seen sees.longer;
}

pub read-gives : (before after : CallerView) (old new : Progress) (page : Page) (reply : At (List FileRecord)) → ReadsAt before (LocalSince old.cursor 1000) (Some reply) after
    → page ≡ page_of old.owes_index reply.value → new ≡ after_page old reply.value → Gives (now after) old page new
read-gives before after old new page reply reads page_is new_is = record {
  records = reply.value;
  read = reads.answer_is ∙ ap (λ s. local_since (state_after s after.seen) old.cursor 1000) (sym (ap (λ (v : CallerView). v.opening) reads.sees.same));
  page_is = page_is;
  new_is = new_is;
}

pub read-gives-kept : (before after : CallerView) (kept : ℕ) (old new : Progress) (page : Page) (is_waiting : Bool) (reply : At (List FileRecord)) → ReadsAt before (LocalSince old.cursor 1000) (Some reply) after
    → page ≡ page_of old.owes_index (up_to kept reply.value) → is_waiting ≡ nat_lt (length (up_to kept reply.value)) (length reply.value) → new ≡ after_page old (up_to kept reply.value)
    → GivesKept kept (now after) old page is_waiting new
read-gives-kept before after kept old new page is_waiting reply reads page_is waiting_is new_is = record {
  records = reply.value;
  read = reads.answer_is ∙ ap (λ s. local_since (state_after s after.seen) old.cursor 1000) (sym (ap (λ (v : CallerView). v.opening) reads.sees.same));
  page_is = page_is;
  waiting_is = waiting_is;
  new_is = new_is;
}
