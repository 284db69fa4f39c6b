-- Requests that were put, and one more.
use Rattle.std.proofs.Common.{◌≡◌, ◌++◌, ◌∷◌, [], List, map, refl, sym, subst, ◌∙◌, ap}
use Rattle.std.proofs.lemmas.List.{append_assoc, append-nil, map-append}
use Rattle.std.specs.Prelude.{Option, Some}
use Rattle.bep_frames.specs.declared.frame.Message.{Message}
use Rattle.bep_frames.specs.declared.frame.Message.TheVariants as message
use Rattle.bep_messages.specs.declared.request.Request.{Request}
use Rattle.peer_conn.proofs.Coming.{come-more}
use Rattle.peer_asks.specs.Requests.{PutsEach, PutsOne}

joined : (before between after : List Message) (requests : List Request) (request : Request)
    → between ≡ before ++ map message.Request requests → after ≡ between ++ message.Request request ∷ []
    → after ≡ before ++ map message.Request (requests ++ request ∷ [])
joined before between after requests request e f =
    f
    ∙ ap (λ (xs : List Message). xs ++ message.Request request ∷ []) e
    ∙ append_assoc before (map message.Request requests) (message.Request request ∷ [])
    ∙ ap (λ (xs : List Message). before ++ xs) (sym (map-append message.Request requests (request ∷ [])))

module _ {Q : Type 0} (comes : Q → Option Request → Q → Type 0) where
  pub none-put : (from : Q) (before : List Message) → PutsEach comes from from before before
  none-put from before = record { requests = []; came = refl; put = sym (append-nil before) }

  pub one-more : (from point to : Q) (before between after : List Message) → PutsEach comes from point before between → PutsOne comes point to between after
      → PutsEach comes from to before after
  one-more from point to before between after puts one = record {
    requests = puts.requests ++ one.0 ∷ [];
    came = come-more comes from puts.requests point one.0 to puts.came one.1;
    put = joined before between after puts.requests one.0 puts.put one.2;
  }
