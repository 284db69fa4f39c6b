-- Each response that was put is the right one for its request.
use Rattle.std.proofs.Common.{◌≡◌, ℕ, zero, suc, ◌≤◌, Bool, List, [], ◌∷◌, ◌++◌, length, refl, sym, ap, subst, ◌∙◌, inl, inr, arith, length-append}
use Rattle.std.specs.Prelude.{Some, IfSome, Result, slice_get, unwrap_or}
use Rattle.std.specs.List.{AllZip}
use Rattle.std.proofs.lemmas.List.Elements.{length_all_zip}
use Rattle.bep_messages.specs.declared.response.Response.{Response}
use Rattle.folder_calls.specs.Shared.{CallerView}
use Rattle.file_store.specs.Asked.{Call, Value}
use Rattle.file_store.specs.Trees.{Tree, bytes_of}
use Rattle.file_store.specs.declared.refusal.StoreRefusal.{StoreRefusal}
use Rattle.block_server.specs.Served.{answers_code, asked_of}
use Rattle.block_server.specs.declared.code.Code.TheVariants.{NoSuchFile}
use Rattle.peer_server.specs.Answered.{Answers, Responds, Stays}
use Rattle.peer_server.specs.Served.{AnswersEach, IsAnswerOf}
use Rattle.peer_server.specs.declared.request.PeerRequest.{PeerRequest}
use Rattle.peer_server.specs.declared.request.ServerFolder.{ServerFolder}
use Rattle.peer_server.proofs.Serving.{sees-together, stays-answer, stays-each, stays-on}

module _ {A : Type 0} where
  inside : (d x y : A) → Some x ≡ Some y → x ≡ y
  inside d x y e = ap (λ o. unwrap_or o d) e

  get-divided : (front : List A) (x : A) (back : List A) → slice_get (front ++ x ∷ back) (length front) ≡ Some x
  get-divided [] x back = refl
  get-divided (a ∷ rest) x back = get-divided rest x back

  within : (l : List A) (i : ℕ) (x : A) → slice_get l i ≡ Some x → length l ≤ i → ⊥
  within [] i x e le = cc
  within (a ∷ rest) zero x e le = omega arith
  within (a ∷ rest) (suc i) x e le = within rest i x e (omega arith)

  zip-get : (R : A → A → Type 0) (l m : List A) (i : ℕ) (x y : A) → AllZip R l m → slice_get l i ≡ Some x → slice_get m i ≡ Some y → R x y
  zip-get R [] m i x y h e f = cc
  zip-get R (a ∷ rest) [] i x y h e f = absurd h
  zip-get R (a ∷ rest) (b ∷ bs) zero x y h e f = subst (λ z. R x z) (inside b b y f) (subst (λ z. R z b) (inside a a x e) h.0)
  zip-get R (a ∷ rest) (b ∷ bs) (suc i) x y h e f = zip-get R rest bs i x y h.1 e f

module _ {S W F : Type 0} (keeps : Bool) (tree : S → Tree) (folder : W → F) (view : W → CallerView) (faults : S → ℕ) (gives : S → (call : Call) → Result (Value call) StoreRefusal → S → Type 0) where
  abbrev Each : List (ServerFolder S W) → List (PeerRequest × Response) → List (ServerFolder S W) → Type 0
  Each = AnswersEach keeps tree folder view faults gives

  abbrev Kept : ServerFolder S W → ServerFolder S W → Type 0
  Kept = Stays keeps tree folder view

  record Between (old : List (ServerFolder S W)) (asked : PeerRequest) (response : Response) (new : List (ServerFolder S W)) : Type 0 where
    first : List (ServerFolder S W)
    then : List (ServerFolder S W)
    until : AllZip Kept old first
    answers : Answers keeps tree folder view faults gives first asked response then
    since : AllZip Kept then new

  between : (old new : List (ServerFolder S W)) (front back : List (PeerRequest × Response)) (asked : PeerRequest) (response : Response) → Each old (front ++ (asked, response) ∷ back) new → Between old asked response new
  between old new front back asked response h = by front old old (stays-each keeps tree folder view faults gives old [] old refl) h
    where
      by : (front : List (PeerRequest × Response)) (start old : List (ServerFolder S W)) → AllZip Kept start old → Each old (front ++ (asked, response) ∷ back) new → Between start asked response new
      by [] start old kept h = record { first = old; then = h.0; until = kept; answers = h.1; since = stays-each keeps tree folder view faults gives h.0 back new h.2 }
      by (x ∷ xs) start old kept h = by xs start h.0 (stays-on keeps tree folder view start old h.0 kept (stays-answer keeps tree folder view faults gives old x.0 x.1 h.0 h.1)) h.2

  of-folder : (a before after b : ServerFolder S W) (asked : PeerRequest) (response : Response) → Kept a before → Responds keeps tree folder view faults gives asked.request response before after → Kept after b
      → IsAnswerOf keeps tree folder view faults gives a b asked.request response
  of-folder a before after b asked response first answer last = record {
    point = view after.calls;
    saw = sees-together _ _ _ first.sees answer.stays.sees;
    goes_on = last.sees;
    before = before.store;
    after = after.store;
    given = answer.given;
    serves = record {
      read = answer.serves.read;
      answer_is = answer.serves.answer_is;
      bytes = λ k. subst (λ (t : Tree). IfSome answer.serves.read (λ bytes. bytes ≡ asked_of asked.request (bytes_of (t.names asked.request.name)))) (first.kept k) (answer.serves.bytes k);
      counted = answer.serves.counted;
      asked = answer.serves.asked;
    };
  }

  pub at-its-folder : (old new : List (ServerFolder S W)) (front back : List (PeerRequest × Response)) (asked : PeerRequest) (response : Response) (place : ℕ) (a b : ServerFolder S W)
      → Each old (front ++ (asked, response) ∷ back) new → asked.folder ≡ Some place → slice_get old place ≡ Some a → slice_get new place ≡ Some b
      → IsAnswerOf keeps tree folder view faults gives a b asked.request response
  at-its-folder old new front back asked response place a b h asks start end = let m = between old new front back asked response h in by m m.answers
    where
      by : (m : Between old asked response new) → Answers keeps tree folder view faults gives m.first asked response m.then → IsAnswerOf keeps tree folder view faults gives a b asked.request response
      by m (inl g) =
          let same : place ≡ length g.front = inside 0 place (length g.front) (sym asks ∙ g.place) in
          let first = ap (λ l. slice_get l (length g.front)) g.old_is ∙ get-divided g.front g.before g.back in
          let last = ap (λ l. slice_get l (length g.front)) g.new_is ∙ get-divided g.front g.after g.back in
          of-folder a g.before g.after b asked response
          (zip-get Kept old m.first (length g.front) a g.before m.until (subst (λ i. slice_get old i ≡ Some a) same start) first)
          g.goes_on
          (zip-get Kept m.then new (length g.front) g.after b m.since last (subst (λ i. slice_get new i ≡ Some b) same end))
      by m (inr g) = let less = g.none place asks in let long = length_all_zip Kept old m.first m.until in absurd (within old place a start (omega arith))

  pub at-no-folder : (old new : List (ServerFolder S W)) (front back : List (PeerRequest × Response)) (asked : PeerRequest) (response : Response)
      → Each old (front ++ (asked, response) ∷ back) new → ((place : ℕ) → asked.folder ≡ Some place → length old ≤ place) → response ≡ answers_code asked.request NoSuchFile
  at-no-folder old new front back asked response h none = let m = between old new front back asked response h in by m m.answers
    where
      by : (m : Between old asked response new) → Answers keeps tree folder view faults gives m.first asked response m.then → response ≡ answers_code asked.request NoSuchFile
      by m (inr g) = g.answer_is
      by m (inl g) =
          let less = none (length g.front) g.place in
          let long = length_all_zip Kept old m.first m.until in
          let parts = ap length g.old_is ∙ length-append g.front (g.before ∷ g.back) in absurd (omega arith)
