-- What happens on a connection, one thing after another.
use Rattle.std.proofs.Common.{◌≡◌, ◌++◌, ◌∷◌, [], ℤ, Bool, true, false, cond, List, refl, sym, ◌∙◌, ap, append_assoc}
use Rattle.bep_session.specs.Runs.{Act, Feeds, Opens, Says, Ticks, acted, run}
use Rattle.bep_session.specs.Sessions.{View, with_open}
use Rattle.peer_reader.specs.Reading.{AreOpenings, OnlyOpens, fed_of}

pub run_session-append : (v : View) (xs ys : List Act) → (run v (xs ++ ys)).session ≡ (run (run v xs).session ys).session
unfolding run
run_session-append v [] ys = refl
run_session-append v (x ∷ xs) ys = run_session-append (acted v x).session xs ys

pub run_events-append : (v : View) (xs ys : List Act) → (run v (xs ++ ys)).events ≡ (run v xs).events ++ (run (run v xs).session ys).events
unfolding run
run_events-append v [] ys = refl
run_events-append v (x ∷ xs) ys =
    let more = (run (run (acted v x).session xs).session ys).events in
    ap (λ l. (acted v x).events ++ l) (run_events-append (acted v x).session xs ys)
    ∙ sym (append_assoc (acted v x).events (run (acted v x).session xs).events more)

pub fed_of-append : (xs ys : List Act) → fed_of (xs ++ ys) ≡ fed_of xs ++ fed_of ys
fed_of-append [] ys = refl
fed_of-append (Feeds piece moment ∷ xs) ys = ap (λ l. piece ++ l) (fed_of-append xs ys) ∙ sym (append_assoc piece (fed_of xs) (fed_of ys))
fed_of-append (Opens id ∷ xs) ys = fed_of-append xs ys
fed_of-append (Says moment ∷ xs) ys = fed_of-append xs ys
fed_of-append (Ticks moment ∷ xs) ys = fed_of-append xs ys

pub opens_none : (v : View) → OnlyOpens v v
unfolding run
opens_none v = record { acts = []; only = tt; session = refl; events = refl; bytes = refl }

one_open : (v : View) (id : ℤ) → (run v (Opens id ∷ [])).session ≡ with_open v id
unfolding run
one_open v id = refl

no_event : (v : View) (id : ℤ) → (run v (Opens id ∷ [])).events ≡ []
unfolding run
no_event v id = refl

only-append : (acts : List Act) → AreOpenings acts → (id : ℤ) → AreOpenings (acts ++ Opens id ∷ [])
only-append [] only id = tt
only-append (Opens other ∷ xs) only id = only-append xs only id
only-append (Feeds piece moment ∷ xs) only id = absurd only
only-append (Says moment ∷ xs) only id = absurd only
only-append (Ticks moment ∷ xs) only id = absurd only

-- one id more was opened, or none
pub opens_more : (a b c : View) (booked : Bool) (id : ℤ) → OnlyOpens a b → c ≡ cond booked (with_open b id) b → OnlyOpens a c
opens_more a b c true id o e =
    let more = Opens id ∷ [] in
    record {
      acts = o.acts ++ more;
      only = only-append o.acts o.only id;
      session = e ∙ ap (λ v. with_open v id) o.session ∙ sym (run_session-append a o.acts more ∙ one_open (run a o.acts).session id);
      events = run_events-append a o.acts more ∙ ap (λ l. l ++ (run (run a o.acts).session more).events) o.events ∙ no_event (run a o.acts).session id;
      bytes = fed_of-append o.acts more ∙ ap (λ l. l ++ []) o.bytes;
    }
opens_more a b c false id o e = record { acts = o.acts; only = o.only; session = e ∙ o.session; events = o.events; bytes = o.bytes }
