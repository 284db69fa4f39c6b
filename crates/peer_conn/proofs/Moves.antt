-- Each step keeps the rule of the queue.
use Rattle.std.proofs.Common.{◌≡◌, ◌≢◌, ℕ, zero, suc, Bool, true, cond, true≢false, ◌==◌, List, [], ◌∷◌, ◌++◌, length, set, sym, refl, ap, ◌∙◌, subst, ⊎_elim, append_assoc, append-nil, arith}
use Rattle.std.proofs.lemmas.Bool.Decides.{nat_tests}
use mathlib.Core.Option.{some, some-injective, some-ne-none}
use lib.ListN.{get_elem?}
use Rattle.atomic_table.proofs.Lists.{at_set}
use Rattle.crossbeam_channel.specs.Fifo.{Pushes, Pops, Forks, Merges, Learns}
use Rattle.peer_conn.specs.declared.known.SeatName.{SeatName}
use Rattle.peer_conn.specs.declared.known.SeatName.TheVariants.{Indexer, Server, Requester}
use Rattle.peer_conn.specs.declared.known.Sent.{Sent}
use Rattle.peer_conn.specs.declared.known.Account.{Account}
use Rattle.peer_conn.specs.declared.known.Known.{Known}
use Rattle.peer_conn.specs.Rule.{is_same, account, of, newcomer, spent, Fits, RuleHolds, put_in, IsOfSeat, after_put, Waits, after_take, Tells, first_of, rest_of, left_of, right_of, joined, AlwaysBegins}
use Rattle.peer_conn.proofs.Lists.{at_none, at_one, of_append, all_set, all_end}
use Rattle.peer_conn.proofs.Names.{parts, of_own, of_other, same_self, same_not}

-- an account that was moved from one end to another
abbrev moved : ℕ → ℕ → ℕ → ℕ
moved from to port = cond (port == from) to port

moved_here : (from to port : ℕ) → port ≡ from → moved from to port ≡ to
moved_here from to port e = grind (arith, nat_tests)

moved_else : (from to port now : ℕ) → now ≢ from → port ≡ now → moved from to port ≡ now
moved_else from to port now n e = grind (arith, nat_tests)

module _ {T : Type 0} where
  fresh : (i : ℕ) (c : Account T) → get_elem? (account Indexer [] ∷ account Server [] ∷ account Requester [] ∷ []) i ≡ some c → c.put ≡ []
  fresh zero c e = ap (λ (d : Account T). d.put) (sym (some-injective (account Indexer []) c e))
  fresh (suc zero) c e = ap (λ (d : Account T). d.put) (sym (some-injective (account Server []) c e))
  fresh (suc (suc zero)) c e = ap (λ (d : Account T). d.put) (sym (some-injective (account Requester []) c e))
  fresh (suc (suc (suc i))) c e = absurd (some-ne-none c (sym e))

  pub begins : RuleHolds {T = T} [] (newcomer ∷ [])
  begins = record {
    owner = λ _. 0;
    put = λ _. [];
    reader = 0;
    got = [];
    even = λ name. refl;
    all = λ port v e. let h = at_one newcomer port v e in subst (λ (y : ℕ × Known T). Fits (λ _. 0) (λ _. []) 0 [] y.0 y.1) (λ i. (sym h.0 i, h.1 i))
        (record { owns = λ i c k. refl; says = fresh; reads = λ _. refl; took = λ _. refl });
  }

  -- the one account of a seat
  first_owned : (v : Known T) (name : SeatName) → IsOfSeat name v → get_elem? v.accounts 0 ≡ some (account name (put_in v.accounts))
  first_owned v name is = ap (λ (u : Known T). get_elem? u.accounts 0) is

  puts_kept : (port : ℕ) (v : Known T) (x : Sent T) (items : List (Sent T)) (views : List (Known T)) → IsOfSeat x.from v → (k : RuleHolds items views) → get_elem? views port ≡ some v → RuleHolds (items ++ x ∷ []) (set views port (after_put v x))
  puts_kept port v x items views is k at =
      let f = k.all port v at in
      let put : SeatName → List T = λ name. k.put name ++ of name (x ∷ []) in
      let here = first_owned v x.from is in
      let mine = f.owns 0 _ here in record {
        owner = k.owner;
        put = put;
        reader = k.reader;
        got = k.got;
        even = λ name. ap (λ (l : List (Sent T)). of name l) (sym (append_assoc k.got items (x ∷ []))) ∙ parts name (k.got ++ items) (x ∷ []) ∙ ap (λ (l : List T). l ++ of name (x ∷ [])) (k.even name);
        all = all_set (Fits k.owner put k.reader k.got) views port (after_put v x)
            (record {
              owns = λ i c e. ap (λ (d : Account T). k.owner d.from) (sym (at_one _ i c e).1) ∙ mine;
              says = λ i c e. subst (λ (d : Account T). d.put ≡ put d.from) (at_one (account x.from (put_in v.accounts ++ x.message ∷ [])) i c e).1
                  (ap (λ (l : List T). l ++ x.message ∷ []) (f.says 0 _ here) ∙ ap (λ (l : List T). k.put x.from ++ l) (sym (of_own x)));
              reads = λ p. absurd (true≢false (sym p));
              took = λ p. absurd (true≢false (sym p));
            })
            (λ j u apart e. let g = k.all j u e in record {
              owns = g.owns;
              says = λ i c h. g.says i c h ∙ sym (ap (λ (l : List T). k.put c.from ++ l) (of_other c.from x (λ q. apart (sym (g.owns i c h) ∙ ap k.owner q ∙ mine))) ∙ append-nil (k.put c.from));
              reads = g.reads;
              took = g.took;
            });
      }

  pub puts : (n port : ℕ) (v : Known T) (x : Sent T) → IsOfSeat x.from v → Pushes RuleHolds n port v x (λ w. w ≡ after_put v x)
  puts n port v x is items views room k at = (after_put v x, puts_kept port v x items views is k at, refl)

  takes_kept : (port : ℕ) (v : Known T) (x : Sent T) (items : List (Sent T)) (views : List (Known T)) → v.takes ≡ true → (k : RuleHolds (x ∷ items) views) → get_elem? views port ≡ some v → RuleHolds items (set views port (after_take v x))
  takes_kept port v x items views may k at =
      let f = k.all port v at in record {
        owner = k.owner;
        put = k.put;
        reader = k.reader;
        got = k.got ++ x ∷ [];
        even = λ name. ap (λ (l : List (Sent T)). of name l) (append_assoc k.got (x ∷ []) items) ∙ k.even name;
        all = all_set (Fits k.owner k.put k.reader (k.got ++ x ∷ [])) views port (after_take v x)
            (record { owns = f.owns; says = f.says; reads = λ _. f.reads may; took = λ _. ap (λ (l : List (Sent T)). l ++ x ∷ []) (f.took may) })
            (λ j u apart e. let g = k.all j u e in record { owns = g.owns; says = g.says; reads = g.reads; took = λ p. absurd (apart (g.reads p ∙ sym (f.reads may))) });
      }

  pub takes : (port : ℕ) (v : Known T) → v.takes ≡ true → Pops RuleHolds port v (λ x w. w ≡ after_take v x)
  takes port v may x items views k at = (after_take v x, takes_kept port v x items views may k at, refl)

  pub waits : (port : ℕ) (v : Known T) → Learns RuleHolds port v (Waits v)
  waits port v items views k at i c e = (of c.from k.got, (k.all port v at).says i c e ∙ sym (k.even c.from) ∙ parts c.from k.got items)

  pub tells : (port : ℕ) (v : Known T) → v.takes ≡ true → Learns RuleHolds port v (Tells v)
  tells port v may items views k at i c e = let f = k.all port v at in ap (λ (l : List (Sent T)). of c.from (l ++ items)) (f.took may) ∙ k.even c.from ∙ sym (f.says i c e)

  -- where the first account goes to a new end, no other account of the end is of the same seat
  pub cuts : (port : ℕ) (v : Known T) (a : Account T) (rest : List (Account T)) → v.accounts ≡ a ∷ rest → ((i : ℕ) (c : Account T) → get_elem? rest i ≡ some c → c.from ≢ a.from)
      → Forks RuleHolds port v (left_of v) (right_of v)
  cuts port v a rest is apart items views k at =
      let f = k.all port v at in
      let vs : List (Known T) = set views port (left_of v) in
      let new : ℕ = length vs in
      let owner : SeatName → ℕ = λ name. cond (is_same name a.from) new (k.owner name) in
      let own : k.owner a.from ≡ port = f.owns 0 a (ap (λ (l : List (Account T)). get_elem? l 0) is) in
      let old : (i : ℕ) (c : Account T) → get_elem? rest i ≡ some c → get_elem? v.accounts (suc i) ≡ some c = λ i c e. ap (λ (l : List (Account T)). get_elem? l (suc i)) is ∙ e in
      let left : (i : ℕ) (c : Account T) → get_elem? (rest_of v.accounts) i ≡ some c → get_elem? rest i ≡ some c = λ i c e. ap (λ (l : List (Account T)). get_elem? (rest_of l) i) (sym is) ∙ e in
      let right : (i : ℕ) (c : Account T) → get_elem? (first_of v.accounts) i ≡ some c → a ≡ c = λ i c e. (at_one a i c (ap (λ (l : List (Account T)). get_elem? (first_of l) i) (sym is) ∙ e)).1 in
      let kept : (name : SeatName) → name ≢ a.from → owner name ≡ k.owner name = λ name n. ap (λ (b : Bool). cond b new (k.owner name)) (same_not name a.from n) in record {
        owner = owner;
        put = k.put;
        reader = k.reader;
        got = k.got;
        even = k.even;
        all = all_end (Fits owner k.put k.reader k.got) vs (right_of v)
            (record {
              owns = λ i c e. ap (λ (d : Account T). owner d.from) (sym (right i c e)) ∙ ap (λ (b : Bool). cond b new (k.owner a.from)) (same_self a.from);
              says = λ i c e. subst (λ (d : Account T). d.put ≡ k.put d.from) (right i c e) (f.says 0 a (ap (λ (l : List (Account T)). get_elem? l 0) is));
              reads = λ p. absurd (true≢false (sym p));
              took = λ p. absurd (true≢false (sym p));
            })
            (all_set (Fits owner k.put k.reader k.got) views port (left_of v)
            (record {
              owns = λ i c e. kept c.from (apart i c (left i c e)) ∙ f.owns (suc i) c (old i c (left i c e));
              says = λ i c e. f.says (suc i) c (old i c (left i c e));
              reads = f.reads;
              took = f.took;
            })
            (λ j u other e. let g = k.all j u e in record {
              owns = λ i c h. kept c.from (λ q. other (sym (g.owns i c h) ∙ ap k.owner q ∙ own)) ∙ g.owns i c h;
              says = g.says;
              reads = g.reads;
              took = g.took;
            }));
      }

  pub takes_in : (port : ℕ) (v : Known T) (other : ℕ) (w : Known T) → Merges RuleHolds port v other w (joined v w) spent
  takes_in port v other w items views k at two at' =
      let f = k.all port v at in
      let both : Known T = joined v w in
      let vs : List (Known T) = set views port both in
      let was : get_elem? views other ≡ some w = ⊎_elim (λ x. absurd (two x.0)) (λ x. x.1) (at_set views port other both w at') in
      let g = k.all other w was in
      let owner : SeatName → ℕ = λ name. moved other port (k.owner name) in
      let Now : ℕ → Known T → Type 0 = λ j u. j ≢ other → Fits owner k.put k.reader k.got j u in
      let now : (j : ℕ) (u : Known T) → get_elem? vs j ≡ some u → Now j u = all_set Now views port both
      (λ _. record {
        owns = λ i c e. ⊎_elim (λ h. moved_here other port (k.owner c.from) (g.owns h.0 c h.1)) (λ h. moved_else other port (k.owner c.from) port (λ q. two (sym q)) (f.owns h.0 c h.1)) (of_append w.accounts v.accounts i c e);
        says = λ i c e. ⊎_elim (λ h. g.says h.0 c h.1) (λ h. f.says h.0 c h.1) (of_append w.accounts v.accounts i c e);
        reads = f.reads;
        took = f.took;
      })
      (λ j u _ e apart. let h = k.all j u e in record {
        owns = λ i c l. moved_else other port (k.owner c.from) j apart (h.owns i c l);
        says = h.says;
        reads = h.reads;
        took = h.took;
      }) in record {
        owner = owner;
        put = k.put;
        reader = k.reader;
        got = k.got;
        even = k.even;
        all = all_set (Fits owner k.put k.reader k.got) vs other spent
            (record { owns = λ i c e. absurd (at_none i c e); says = λ i c e. absurd (at_none i c e); reads = λ p. absurd (true≢false (sym p)); took = λ p. absurd (true≢false (sym p)) })
            (λ j u apart e. now j u e apart);
      }

  pub cut_only : (port : ℕ) (v : Known T) (a : Account T) → v.accounts ≡ a ∷ [] → Forks RuleHolds port v (left_of v) (right_of v)
  cut_only port v a is = cuts port v a [] is (λ i c e. absurd (at_none i c e))

  pub cut_last_two : (port : ℕ) (v : Known T) → v.accounts ≡ account Server [] ∷ account Requester [] ∷ [] → Forks RuleHolds port v (left_of v) (right_of v)
  cut_last_two port v is = cuts port v (account Server []) (account Requester [] ∷ []) is (λ i c e q. let h = ap (λ (d : Account T). d.from) (at_one (account Requester []) i c e).1 in cc)

  not_indexer : (i : ℕ) (c : Account T) → get_elem? (account Server [] ∷ account Requester [] ∷ []) i ≡ some c → c.from ≢ Indexer
  not_indexer zero c e q = let h = ap (λ (d : Account T). d.from) (some-injective (account Server []) c e) in cc
  not_indexer (suc i) c e q = let h = ap (λ (d : Account T). d.from) (at_one (account Requester []) i c e).1 in cc

  pub cut_all : (port : ℕ) (v : Known T) → v ≡ newcomer → Forks RuleHolds port v (left_of v) (right_of v)
  cut_all port v is = cuts port v (account Indexer []) (account Server [] ∷ account Requester [] ∷ []) (ap (λ (u : Known T). u.accounts) is) not_indexer

  pub always_begins : (items : List (Sent T)) (views : List (Known T)) → AlwaysBegins items views
  always_begins items views k i j name seat taker at at' is takes =
      let f = k.all i seat at in
      (of name items, f.says 0 _ (first_owned seat name is) ∙ sym (k.even name) ∙ parts name k.got items ∙ ap (λ (l : List (Sent T)). of name l ++ of name items) (sym ((k.all j taker at').took takes)))
