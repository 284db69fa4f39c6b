-- The pulls of a round, one after another.
use Rattle.std.proofs.Common.{◌≡◌, ℕ, List, [], ◌∷◌, ◌++◌, map, refl, sym, ap, ◌∙◌, subst, append_assoc, append-nil}
use Rattle.std.proofs.lemmas.List.Concat.{flat_map-append}
use Rattle.file_store.specs.Names.{Name}
use Rattle.sync_pull.specs.declared.answer.PullAnswer.{PullAnswer}
use Rattle.bepd_pair.specs.declared.peer.Peer.{Peer}
use Rattle.bepd_pair.specs.Lines.{pull_line}
use Rattle.bepd_pair.specs.Pulls.{Pulled, PullsEach, PullsOne, PullsRound, pulled_lines}

-- nothing but the store and the folder of the peer changed
abbrev pub KeepsOthers : Peer → Peer → Type 0
KeepsOthers old new = new ≡ record old { store = new.store; calls = new.calls }

pub others_more : (old mid new : Peer) → KeepsOthers old mid → KeepsOthers mid new → KeepsOthers old new
others_more old mid new e f = f ∙ ap (λ (p : Peer). record p { store = new.store; calls = new.calls }) e

pub record PullsSoFar (moment : ℕ) (names : List Name) (old : Peer) (before after : List ℕ) (new : Peer) : Type 0 where
  pub round : PullsRound moment names old before after new
  pub others : KeepsOthers old new

pub pulls_none : (moment : ℕ) (old : Peer) (before : List ℕ) → PullsSoFar moment [] old before before old
pulls_none moment old before = record {
  round = record { pulled = []; named = refl; pulls = refl; printed = sym (append-nil before) };
  others = refl;
}

each_more : (moment : ℕ) (old mid new : Peer) (pulled : List Pulled) (n : Name) (answer : PullAnswer) → PullsEach moment old pulled mid → PullsOne moment mid n answer new
    → PullsEach moment old (pulled ++ (n, answer) ∷ []) new
each_more moment old mid new [] n answer e one = (new, subst (λ p. PullsOne moment p n answer new) e one, refl)
each_more moment old mid new (p ∷ ps) n answer (next, this, later) one = (next, this, each_more moment next mid new ps n answer later one)

map_more : (pulled : List Pulled) (n : Name) (answer : PullAnswer) → map (λ (p : Pulled). p.0) (pulled ++ (n, answer) ∷ []) ≡ map (λ (p : Pulled). p.0) pulled ++ n ∷ []
map_more [] n answer = refl
map_more (p ∷ ps) n answer = ap (λ l. p.0 ∷ l) (map_more ps n answer)

pub pulls_more : (moment : ℕ) (names more : List Name) (old mid new : Peer) (before after last : List ℕ) (n : Name) (answer : PullAnswer) → PullsSoFar moment names old before after mid
    → PullsOne moment mid n answer new → last ≡ after ++ pull_line mid.side answer n → names ++ n ∷ [] ≡ more → PullsSoFar moment more old before last new
pulls_more moment names more old mid new before after last n answer h one printed next =
    let pulled = h.round.pulled in
    let side : mid.side ≡ old.side = ap (λ (p : Peer). p.side) h.others in
    let line : pulled_lines old.side (pulled ++ (n, answer) ∷ []) ≡ pulled_lines old.side pulled ++ pull_line old.side answer n =
    flat_map-append (λ (p : Pulled). pull_line old.side p.1 p.0) pulled ((n, answer) ∷ []) ∙ ap (λ l. pulled_lines old.side pulled ++ l) (append-nil (pull_line old.side answer n)) in
    record {
      round = record {
        pulled = pulled ++ (n, answer) ∷ [];
        named = map_more pulled n answer ∙ ap (λ l. l ++ n ∷ []) h.round.named ∙ next;
        pulls = each_more moment old mid new pulled n answer h.round.pulls one;
        printed = printed ∙ ap (λ s. after ++ pull_line s answer n) side ∙ ap (λ l. l ++ pull_line old.side answer n) h.round.printed
            ∙ append_assoc before (pulled_lines old.side pulled) (pull_line old.side answer n) ∙ ap (λ l. before ++ l) (sym line);
      };
      others = others_more old mid new h.others one.others;
    }
