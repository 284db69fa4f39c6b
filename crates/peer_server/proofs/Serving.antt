-- Requests that are answered one after the other.
use Rattle.std.proofs.Common.{◌≡◌, ℕ, zero, suc, ◌<◌, Bool, List, [], ◌∷◌, ◌++◌, length, get_or, set, map, refl, sym, ap, subst, ◌∙◌, append_assoc, append-nil, inl, inr, arith}
use Rattle.std.specs.Prelude.{IfErr, IfOk, Option, Some, Result, Ok, Err}
use Rattle.std.specs.List.{AllZip}
use mathlib.Core.List.{IsPrefix}
use Rattle.bep_frames.specs.declared.frame.Message.{Message}
use Rattle.bep_frames.specs.declared.frame.Message.TheVariants as message
use Rattle.bep_messages.specs.declared.response.Response.{Response}
use Rattle.folder_calls.specs.Histories.{own_entries}
use Rattle.folder_calls.specs.Shared.{CallerView, Sees}
use Rattle.folder_calls.specs.declared.entry.Entry.{Entry}
use Rattle.file_store.specs.Asked.{Call, Value}
use Rattle.file_store.specs.Trees.{Tree}
use Rattle.file_store.specs.declared.refusal.StoreRefusal.{StoreRefusal}
use Rattle.std.proofs.lemmas.List.{map-append}
use Rattle.peer_conn.specs.Sources.{ComeEach}
use Rattle.peer_conn.proofs.Coming.{come-more}
use Rattle.peer_server.specs.Answered.{Answers, OneGoesOn, Responds, RunsOut, Stays}
use Rattle.peer_server.specs.Served.{AnswersEach, HasServed, Leaves, PutsAnswer, ServesPeer, asked_of, message_of}
use Rattle.peer_server.specs.declared.request.PeerRequest.{PeerRequest}
use Rattle.peer_server.specs.declared.request.ServerFolder.{ServerFolder}
use Rattle.peer_server.specs.declared.server.ServerEnd.{ServerEnd}
use Rattle.peer_server.specs.declared.server.ServerEnd.TheVariants.{Closed, Gone, OutOfMemory}

-- ---- what a caller sees

sees-itself : (v : CallerView) → Sees v v
sees-itself v = record { longer = ([], append-nil v.seen); own = refl; same = refl }

longer : (a b c : List Entry) → IsPrefix a b → IsPrefix b c → IsPrefix a c
longer a b c x y = (x.0 ++ y.0, sym (append_assoc a x.0 y.0) ∙ ap (λ l. l ++ y.0) x.1 ∙ y.1)

pub sees-together : (a b c : CallerView) → Sees a b → Sees b c → Sees a c
sees-together a b c x y =
    let pass : b.pass ≡ a.pass = ap (λ (v : CallerView). v.pass) x.same in
    record {
      longer = longer a.seen b.seen c.seen x.longer y.longer;
      own = subst (λ p. own_entries p c.seen ≡ own_entries p b.seen) pass y.own ∙ x.own;
      same = y.same ∙ ap (λ (v : CallerView). record v { seen = c.seen }) x.same;
    }

-- ---- a list by places

module _ {A : Type 0} where
  -- the list before, at and behind a place
  pub record Divides (l : List A) (i : ℕ) (x : A) : Type 0 where
    pub front : List A
    pub back : List A
    pub whole : l ≡ front ++ x ∷ back
    pub place : length front ≡ i
    pub other : (y : A) → set l i y ≡ front ++ y ∷ back

  pub divides : (l : List A) (i : ℕ) (d : A) → i < length l → Divides l i (get_or l i d)
  divides [] i d lt = absurd (omega arith)
  divides (a ∷ rest) zero d lt = record { front = []; back = rest; whole = refl; place = refl; other = λ y. refl }
  divides (a ∷ rest) (suc i) d lt =
      let then = divides rest i d (omega arith) in
      record { front = a ∷ then.front; back = then.back; whole = ap (λ l. a ∷ l) then.whole; place = ap suc then.place; other = λ y. ap (λ l. a ∷ l) (then.other y) }

  module _ (R : A → A → Type 0) where
    all-refl : ((x : A) → R x x) → (l : List A) → AllZip R l l
    all-refl r [] = tt
    all-refl r (x ∷ xs) = (r x, all-refl r xs)

    all-trans : ((x y z : A) → R x y → R y z → R x z) → (a b c : List A) → AllZip R a b → AllZip R b c → AllZip R a c
    all-trans t [] [] [] p q = tt
    all-trans t [] [] (z ∷ zs) p q = absurd q
    all-trans t [] (y ∷ ys) c p q = absurd p
    all-trans t (x ∷ xs) [] c p q = absurd p
    all-trans t (x ∷ xs) (y ∷ ys) [] p q = absurd q
    all-trans t (x ∷ xs) (y ∷ ys) (z ∷ zs) p q = (t x y z p.0 q.0, all-trans t xs ys zs p.1 q.1)

    all-but-one : ((x : A) → R x x) → (front back : List A) (x y : A) → R x y → AllZip R (front ++ x ∷ back) (front ++ y ∷ back)
    all-but-one r [] back x y h = (h, all-refl r back)
    all-but-one r (a ∷ rest) back x y h = (r a, all-but-one r rest back x y h)

-- ---- one request

one-at : {S W : Type 0} (goes : ServerFolder S W → ServerFolder S W → Type 0) (old : List (ServerFolder S W)) (asked : PeerRequest) (place : ℕ) (d after : ServerFolder S W)
    → place < length old → asked.folder ≡ Some place → goes (get_or old place d) after → OneGoesOn goes old asked (set old place after)
one-at goes old asked place d after lt asks h =
    let parts = divides old place d lt in
    record {
      front = parts.front;
      before = get_or old place d;
      after = after;
      back = parts.back;
      old_is = parts.whole;
      new_is = parts.other after;
      place = asks ∙ ap Some (sym parts.place);
      goes_on = h;
    }

module _ {S W F : Type 0} (keeps : Bool) (tree : S → Tree) (folder : W → F) (view : W → CallerView) where
  abbrev Kept : ServerFolder S W → ServerFolder S W → Type 0
  Kept = Stays keeps tree folder view

  stays-itself : (f : ServerFolder S W) → Kept f f
  stays-itself f = record { folder_is = refl; sees = sees-itself (view f.calls); kept = λ k. refl }

  stays-together : (a b c : ServerFolder S W) → Kept a b → Kept b c → Kept a c
  stays-together a b c x y = record {
    folder_is = y.folder_is ∙ x.folder_is;
    sees = sees-together (view a.calls) (view b.calls) (view c.calls) x.sees y.sees;
    kept = λ k. y.kept k ∙ x.kept k;
  }

  stays-one : (goes : ServerFolder S W → ServerFolder S W → Type 0) → ((x y : ServerFolder S W) → goes x y → Kept x y)
      → (old : List (ServerFolder S W)) (asked : PeerRequest) (new : List (ServerFolder S W)) → OneGoesOn goes old asked new → AllZip Kept old new
  stays-one goes keep old asked new h =
      subst (λ l. AllZip Kept l new) (sym h.old_is)
      (subst (λ l. AllZip Kept (h.front ++ h.before ∷ h.back) l) (sym h.new_is)
      (all-but-one Kept stays-itself h.front h.back h.before h.after (keep h.before h.after h.goes_on)))

  stays-all : (l m : List (ServerFolder S W)) → m ≡ l → AllZip Kept l m
  stays-all l m e = subst (λ n. AllZip Kept l n) (sym e) (all-refl Kept stays-itself l)

  pub stays-on : (a b c : List (ServerFolder S W)) → AllZip Kept a b → AllZip Kept b c → AllZip Kept a c
  stays-on = all-trans Kept stays-together

  module _ (faults : S → ℕ) (gives : S → (call : Call) → Result (Value call) StoreRefusal → S → Type 0) where
    module _ {E : Type 0} (old : List (ServerFolder S W)) (asked : PeerRequest) (place : ℕ) (d after : ServerFolder S W) (lt : place < length old) (asks : asked.folder ≡ Some place) where
      pub answers-at : (r : Result Response E) → IfOk r (λ response. Responds keeps tree folder view faults gives asked.request response (get_or old place d) after) → IfOk r (λ response. Answers keeps tree folder view faults gives old asked response (set old place after))
      answers-at (Ok x) h = inl (one-at (Responds keeps tree folder view faults gives asked.request x) old asked place d after lt asks h)
      answers-at (Err e) h = tt

      pub runs-out-at : (r : Result Response E) → IfErr r (λ _. RunsOut keeps tree folder view faults asked.request (get_or old place d) after) → IfErr r (λ _. OneGoesOn (RunsOut keeps tree folder view faults asked.request) old asked (set old place after))
      runs-out-at (Ok x) h = tt
      runs-out-at (Err e) h = one-at (RunsOut keeps tree folder view faults asked.request) old asked place d after lt asks h

    -- ---- all requests

    abbrev Answer : List (ServerFolder S W) → PeerRequest → Response → List (ServerFolder S W) → Type 0
    Answer = Answers keeps tree folder view faults gives

    pub stays-answer : (old : List (ServerFolder S W)) (asked : PeerRequest) (response : Response) (new : List (ServerFolder S W)) → Answer old asked response new → AllZip Kept old new
    stays-answer old asked response new (inl h) = stays-one (Responds keeps tree folder view faults gives asked.request response) (λ x y g. g.stays) old asked new h
    stays-answer old asked response new (inr h) = stays-all old new h.same

    pub stays-each : (old : List (ServerFolder S W)) (served : List (PeerRequest × Response)) (new : List (ServerFolder S W)) → AnswersEach keeps tree folder view faults gives old served new → AllZip Kept old new
    stays-each old [] new h = stays-all old new h
    stays-each old (x ∷ xs) new h = stays-on old h.0 new (stays-answer old x.0 x.1 h.0 h.1) (stays-each h.0 xs new h.2)

    module _ {Q : Type 0} (comes : Q → Option PeerRequest → Q → Type 0) where
      stays-left : (from to : Q) (end : ServerEnd) (old new : List (ServerFolder S W)) → Leaves keeps tree folder view faults gives comes from to end old new → AllZip Kept old new
      stays-left from to Closed old new h = stays-all old new h.1
      stays-left from to Gone old new h = stays-answer old h.0 h.2.0 new h.2.1
      stays-left from to OutOfMemory old new h = stays-one (RunsOut keeps tree folder view faults h.0.request) (λ x y g. g.stays) old h.0 new h.2

      -- whatever a server did, each folder stays
      pub stays-served : (from to : Q) (old : List (ServerFolder S W)) (before after : List Message) (end : ServerEnd) (new : List (ServerFolder S W))
          → ServesPeer keeps tree folder view faults gives comes from to old before after end new → AllZip Kept old new
      stays-served from to old before after end new h =
          stays-on old h.point new (stays-each old h.has_served.served h.point h.has_served.answered) (stays-left h.source to end h.point new h.leaves)

    each-more : (old : List (ServerFolder S W)) (served : List (PeerRequest × Response)) (point : List (ServerFolder S W)) (asked : PeerRequest) (response : Response) (new : List (ServerFolder S W))
        → AnswersEach keeps tree folder view faults gives old served point → Answer point asked response new → AnswersEach keeps tree folder view faults gives old (served ++ (asked, response) ∷ []) new
    each-more old [] point asked response new h a = (new, subst (λ l. Answer l asked response new) h a, refl)
    each-more old (x ∷ xs) point asked response new h a = (h.0, h.1, each-more h.0 xs point asked response new h.2 a)

    module _ {Q : Type 0} (comes : Q → Option PeerRequest → Q → Type 0) where
      pub none-served : (from : Q) (old : List (ServerFolder S W)) (before : List Message) → HasServed keeps tree folder view faults gives comes from from old before before old
      none-served from old before = record { served = []; came = refl; put = sym (append-nil before); answered = refl }

      pub one-more : (from source to : Q) (old : List (ServerFolder S W)) (before then after : List Message) (point new : List (ServerFolder S W))
          → HasServed keeps tree folder view faults gives comes from source old before then point
          → (asked : PeerRequest) × comes source (Some asked) to × PutsAnswer keeps tree folder view faults gives asked point then after new
          → HasServed keeps tree folder view faults gives comes from to old before after new
      one-more from source to old before then after point new h n = record {
        served = h.served ++ (n.0, n.2.response) ∷ [];
        came = subst (λ l. ComeEach comes from l to) (sym (map-append asked_of h.served ((n.0, n.2.response) ∷ []))) (come-more comes from (map asked_of h.served) source n.0 to h.came n.1);
        put = n.2.put ∙ ap (λ l. l ++ message.Response n.2.response ∷ []) h.put ∙ append_assoc before (map message_of h.served) (message.Response n.2.response ∷ [])
            ∙ ap (λ l. before ++ l) (sym (map-append message_of h.served ((n.0, n.2.response) ∷ [])));
        answered = each-more old h.served point n.0 n.2.response new h.answered n.2.answers;
      }
