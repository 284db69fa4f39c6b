-- What the calls of the ends tell.
use Rattle.std.proofs.Common.{◌≡◌, ℕ, List, [], ◌∷◌, ◌++◌, length, sym, refl, ap, ◌∙◌, subst, append-nil, arith}
use mathlib.Core.Option.{some}
use lib.ListN.{get_elem?}
use Rattle.crossbeam_channel.specs.Fifo.{Held}
use Rattle.peer_conn.specs.declared.known.SeatName.TheVariants.{Indexer, Server, Requester}
use Rattle.peer_conn.specs.declared.known.Sent.{Sent}
use Rattle.peer_conn.specs.declared.known.Account.{Account}
use Rattle.peer_conn.specs.declared.known.Known.{Known}
use Rattle.peer_conn.specs.Rule.{account, of, Tells}

module _ {T : Type 0} where
  no_length : (l : List (Sent T)) → length l ≡ 0 → l ≡ []
  no_length [] e = refl
  no_length (x ∷ xs) e = absurd (omega arith)

  empties_same : (v : Known T) → Held 0 (Tells v) → (i : ℕ) (c : Account T) → get_elem? v.accounts i ≡ some c → of c.from v.got ≡ c.put
  empties_same v h i c e = ap (λ (l : List (Sent T)). of c.from l) (sym (append-nil v.got) ∙ ap (λ (l : List (Sent T)). v.got ++ l) (sym (no_length h.0 h.1))) ∙ h.2 i c e

  -- a taker that finds the queue empty
  pub empties : (v w : Known T) → w ≡ v → Held 0 (Tells v) → (w.got ≡ v.got) × ((i : ℕ) (c : Account T) → get_elem? w.accounts i ≡ some c → of c.from w.got ≡ c.put)
  empties v w same h = (ap (λ (u : Known T). u.got) same, λ i c e. subst (λ (u : Known T). (i : ℕ) (c : Account T) → get_elem? u.accounts i ≡ some c → of c.from u.got ≡ c.put) (sym same) (empties_same v h) i c e)

  -- what was taken of each of three seats is what it put
  pub whole_all : (got : List (Sent T)) (cs rest : List (Account T)) (a b c : List T) → cs ≡ account Requester c ∷ account Server b ∷ account Indexer a ∷ rest
      → ((i : ℕ) (d : Account T) → get_elem? cs i ≡ some d → of d.from got ≡ d.put) → (of Indexer got ≡ a) × (of Server got ≡ b) × (of Requester got ≡ c)
  whole_all got cs rest a b c is whole = (
    whole 2 (account Indexer a) (ap (λ (l : List (Account T)). get_elem? l 2) is),
    whole 1 (account Server b) (ap (λ (l : List (Account T)). get_elem? l 1) is),
    whole 0 (account Requester c) (ap (λ (l : List (Account T)). get_elem? l 0) is),
  )
