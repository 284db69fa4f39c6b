use Rattle.file_store.proofs.LawLemmas.{listing_entries, listing_once}
use Rattle.file_store.proofs.laws.listings_are_exact.Goals as goal

pub returns : goal.returns
returns c = record {
  entries = λ old new listing e h. listing_entries old new listing h e;
  once = listing_once;
  unread = λ old new listing h. h.value.unread;
}
