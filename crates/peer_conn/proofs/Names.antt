-- The messages of one seat.
use Rattle.std.proofs.Common.{◌≡◌, ◌≢◌, Bool, true, false, cond, true≢false, List, [], ◌∷◌, ◌++◌, sym, refl, ap}
use Rattle.peer_conn.specs.declared.known.SeatName.{SeatName}
use Rattle.peer_conn.specs.declared.known.SeatName.TheVariants.{Indexer, Server, Requester}
use Rattle.peer_conn.specs.declared.known.Sent.{Sent}
use Rattle.peer_conn.specs.Rule.{is_same, of}

pub same_is : (a b : SeatName) → is_same a b ≡ true → a ≡ b
same_is Indexer Indexer e = refl
same_is Indexer Server e = absurd (true≢false (sym e))
same_is Indexer Requester e = absurd (true≢false (sym e))
same_is Server Indexer e = absurd (true≢false (sym e))
same_is Server Server e = refl
same_is Server Requester e = absurd (true≢false (sym e))
same_is Requester Indexer e = absurd (true≢false (sym e))
same_is Requester Server e = absurd (true≢false (sym e))
same_is Requester Requester e = refl

pub same_self : (a : SeatName) → is_same a a ≡ true
same_self Indexer = refl
same_self Server = refl
same_self Requester = refl

same_not_by : (a b : SeatName) (r : Bool) → is_same a b ≡ r → a ≢ b → is_same a b ≡ false
same_not_by a b true e n = absurd (n (same_is a b e))
same_not_by a b false e n = e

pub same_not : (a b : SeatName) → a ≢ b → is_same a b ≡ false
same_not a b n = same_not_by a b (is_same a b) refl n

module _ {T : Type 0} where
  choose_append : (b : Bool) (m : T) (l k r : List T) → l ≡ k ++ r → cond b (m ∷ l) l ≡ cond b (m ∷ k) k ++ r
  choose_append true m l k r e = ap (λ (x : List T). m ∷ x) e
  choose_append false m l k r e = e

  pub parts : (name : SeatName) (xs ys : List (Sent T)) → of name (xs ++ ys) ≡ of name xs ++ of name ys
  parts name [] ys = refl
  parts name (x ∷ xs) ys = choose_append (is_same name x.from) x.message (of name (xs ++ ys)) (of name xs) (of name ys) (parts name xs ys)

  pub of_own : (x : Sent T) → of x.from (x ∷ []) ≡ x.message ∷ []
  of_own x = ap (λ (b : Bool). cond b (x.message ∷ []) []) (same_self x.from)

  of_other_by : (name : SeatName) (x : Sent T) (b : Bool) → is_same name x.from ≡ b → name ≢ x.from → cond b (x.message ∷ []) [] ≡ []
  of_other_by name x true e apart = absurd (apart (same_is name x.from e))
  of_other_by name x false e apart = refl

  pub of_other : (name : SeatName) (x : Sent T) → name ≢ x.from → of name (x ∷ []) ≡ []
  of_other name x apart = of_other_by name x (is_same name x.from) refl apart
