-- How far a reader has come.
use Rattle.std.proofs.Common.{◌≡◌, ◌++◌, ◌⊎◌, ◌∷◌, [], ℕ, List, Option, map, refl, sym, ◌∙◌, ap, subst, inl, inr, append_assoc, append-nil}
use Rattle.std.specs.Io.KnownBytes.{Consumes, Keeps}
use Rattle.std.proofs.KnownBytes.{Consumes-kept, Consumes-trans}
use Rattle.std.proofs.lemmas.List.{map-append}
use Rattle.bep_session.specs.declared.event.Event.{Event}
use Rattle.bep_session.specs.Runs.{Act, Feeds, Opens, Says, Ticks, run}
use Rattle.bep_session.specs.Sessions.{View, begun, fed}
use Rattle.bep_session.specs.Times.{tick_at}
use Rattle.bep_session.specs.declared.times.Tick.TheVariants.{TimedOut}
use Rattle.folder_calls.specs.Shared.{CallerView}
use Rattle.peer_reader.proofs.EachLemmas.{GoTogether}
use Rattle.peer_reader.proofs.ReadingLemmas.{each_together, heard_no_event}
use Rattle.peer_reader.proofs.RunLemmas.{fed_of-append, run_events-append, run_session-append}
use Rattle.peer_reader.specs.Counts.{no_counts}
use Rattle.peer_reader.specs.declared.counts.ReaderCounts.{ReaderCounts}
use Rattle.peer_reader.specs.declared.folder.ReaderFolder.{ReaderFolder}
use Rattle.peer_reader.specs.declared.stop.ReaderStop.{ReaderStop}
use Rattle.peer_reader.specs.declared.stop.ReaderStop.TheVariants as stop
use Rattle.peer_reader.specs.Effects.{Heard, after_event}
use Rattle.peer_reader.specs.Hears.{AsksEach, applied, heard_of}
use Rattle.peer_reader.specs.Reading.{HasHeardAll, HasTimedOut, HearsPiece, AreOpenings, AreTimed, IsOfEvents, OnlyOpens, ReadsAll, ReadsTo, ReadsUpTo, ShowsLater, StopsIn, StopsInPiece, after_events, at_a_later_look, at_the_next_look, fed_of, last_fed}
use Rattle.sync_record.specs.Devices.{Identity}

folders-append : (peer : Identity) (fs : List Heard) (xs ys : List Event)
    → (after_events peer fs (xs ++ ys)).folders ≡ (after_events peer (after_events peer fs xs).folders ys).folders
folders-append peer fs [] ys = refl
folders-append peer fs (x ∷ xs) ys = folders-append peer (after_event peer fs x).folders xs ys

made-append : (peer : Identity) (fs : List Heard) (xs ys : List Event)
    → (after_events peer fs (xs ++ ys)).made ≡ (after_events peer fs xs).made ++ (after_events peer (after_events peer fs xs).folders ys).made
made-append peer fs [] ys = refl
made-append peer fs (x ∷ xs) ys =
    let next = (after_event peer fs x).folders in
    let one = (after_event peer fs x).made in
    ap (λ l. one ++ l) (made-append peer next xs ys)
    ∙ sym (append_assoc one (after_events peer next xs).made (after_events peer (after_events peer next xs).folders ys).made)

count-append : (peer : Identity) (fs : List Heard) (xs ys : List Event) (c : ReaderCounts)
    → (after_events peer fs (xs ++ ys)).count c ≡ (after_events peer (after_events peer fs xs).folders ys).count ((after_events peer fs xs).count c)
count-append peer fs [] ys c = refl
count-append peer fs (x ∷ xs) ys c = count-append peer (after_event peer fs x).folders xs ys ((after_event peer fs x).count c)

-- the pieces that are fed after ids were opened
feed_session : (v opened : View) (o : OnlyOpens v opened) (piece : List ℕ) (moment : ℕ)
    → (run v (o.acts ++ Feeds piece moment ∷ [])).session ≡ (fed opened piece moment).session
unfolding run
feed_session v opened o piece moment =
    run_session-append v o.acts (Feeds piece moment ∷ []) ∙ ap (λ (w : View). (fed w piece moment).session) (sym o.session)

feed_events : (v opened : View) (o : OnlyOpens v opened) (piece : List ℕ) (moment : ℕ)
    → (run v (o.acts ++ Feeds piece moment ∷ [])).events ≡ (fed opened piece moment).events
unfolding run
feed_events v opened o piece moment =
    run_events-append v o.acts (Feeds piece moment ∷ []) ∙ ap (λ l. l ++ ((fed (run v o.acts).session piece moment).events ++ [])) o.events
    ∙ append-nil (fed (run v o.acts).session piece moment).events ∙ ap (λ (w : View). (fed w piece moment).events) (sym o.session)

feed_bytes : (v opened : View) (o : OnlyOpens v opened) (piece : List ℕ) (moment : ℕ) → fed_of (o.acts ++ Feeds piece moment ∷ []) ≡ piece
feed_bytes v opened o piece moment = fed_of-append o.acts (Feeds piece moment ∷ []) ∙ ap (λ l. l ++ (piece ++ [])) o.bytes ∙ append-nil piece

last_fed-append : (last : ℕ) (xs ys : List Act) → last_fed last (xs ++ ys) ≡ last_fed (last_fed last xs) ys
last_fed-append last [] ys = refl
last_fed-append last (Feeds piece moment ∷ xs) ys = last_fed-append moment xs ys
last_fed-append last (Opens id ∷ xs) ys = last_fed-append last xs ys
last_fed-append last (Says moment ∷ xs) ys = last_fed-append last xs ys
last_fed-append last (Ticks moment ∷ xs) ys = last_fed-append last xs ys

-- ids that are opened feed nothing
last_fed-openings : (last : ℕ) (acts : List Act) → AreOpenings acts → last_fed last acts ≡ last
last_fed-openings last [] only = refl
last_fed-openings last (Opens id ∷ acts) only = last_fed-openings last acts only
last_fed-openings last (Feeds piece moment ∷ acts) only = absurd only
last_fed-openings last (Says moment ∷ acts) only = absurd only
last_fed-openings last (Ticks moment ∷ acts) only = absurd only

module _ (shows : ℕ → ℕ → Type 0) where
  timed-append : (last : ℕ) (xs ys : List Act) → AreTimed shows last xs → AreTimed shows (last_fed last xs) ys → AreTimed shows last (xs ++ ys)
  timed-append last [] ys a b = b
  timed-append last (Feeds piece moment ∷ xs) ys a b = (a.0, timed-append moment xs ys a.1 b)
  timed-append last (Opens id ∷ xs) ys a b = timed-append last xs ys a b
  timed-append last (Says moment ∷ xs) ys a b = absurd a
  timed-append last (Ticks moment ∷ xs) ys a b = absurd a

  timed-openings : (last : ℕ) (acts : List Act) → AreOpenings acts → AreTimed shows last acts
  timed-openings last [] only = tt
  timed-openings last (Opens id ∷ acts) only = timed-openings last acts only
  timed-openings last (Feeds piece moment ∷ acts) only = absurd only
  timed-openings last (Says moment ∷ acts) only = absurd only
  timed-openings last (Ticks moment ∷ acts) only = absurd only

  -- ids are opened and a piece is fed after these acts
  timed-feed : (last : ℕ) (xs opens : List Act) (piece : List ℕ) (moment : ℕ) → AreTimed shows last xs → AreOpenings opens → ShowsLater shows (last_fed last xs) moment
      → AreTimed shows last (xs ++ (opens ++ Feeds piece moment ∷ []))
  timed-feed last xs opens piece moment timed only later =
      let mid = last_fed last xs in
      timed-append last xs (opens ++ Feeds piece moment ∷ []) timed
      (timed-append mid opens (Feeds piece moment ∷ []) (timed-openings mid opens only)
      (subst (λ l. ShowsLater shows l moment) (sym (last_fed-openings mid opens only)) later, tt))

  last_fed-feed : (last : ℕ) (xs opens : List Act) (piece : List ℕ) (moment : ℕ) → last_fed last (xs ++ (opens ++ Feeds piece moment ∷ [])) ≡ moment
  last_fed-feed last xs opens piece moment =
      last_fed-append last xs (opens ++ Feeds piece moment ∷ []) ∙ last_fed-append (last_fed last xs) opens (Feeds piece moment ∷ [])

  -- what a look shows after this moment or after a later look
  shown_later : (last mid now : ℕ) → (mid ≡ last) ⊎ ShowsLater shows last mid → shows mid now → ShowsLater shows last now
  shown_later last mid now (inl e) shown = at_the_next_look now (subst (λ m. shows m now) e shown)
  shown_later last mid now (inr l) shown = at_a_later_look mid now l shown

module _ {W F : Type 0} (view : W → CallerView) (folder : W → F) where
  heard_together : GoTogether → (peer : Identity) (xs ys : List Event) (olds mids news : List (ReaderFolder W)) (counts before later : ReaderCounts)
      → HasHeardAll view folder peer xs olds counts mids before → HasHeardAll view folder peer ys mids before news later
      → HasHeardAll view folder peer (xs ++ ys) olds counts news later
  heard_together together peer xs ys olds mids news counts before later a b =
      let fs = map heard_of olds in
      let now = after_events peer fs xs in
      let same : map heard_of mids ≡ now.folders = a.heard in
      let then = after_events peer now.folders ys in
      let more = subst (λ l. AsksEach view folder 0 (map applied (after_events peer l ys).made) mids news) same b.asks in
      record {
        heard = b.heard ∙ ap (λ l. (after_events peer l ys).folders) same ∙ sym (folders-append peer fs xs ys);
        asks = subst (λ l. AsksEach view folder 0 l olds news) (sym (ap (map applied) (made-append peer fs xs ys) ∙ map-append applied now.made then.made))
            (each_together view folder together 0 (map applied now.made) (map applied then.made) olds mids news a.asks more);
        counts_are = b.counts_are ∙ ap (λ l. (after_events peer l ys).count before) same ∙ ap (λ c. then.count c) a.counts_are ∙ sym (count-append peer fs xs ys counts);
      }

  stops_together : GoTogether → (peer : Identity) (xs ys : List Event) (olds mids news : List (ReaderFolder W)) (counts before later : ReaderCounts) (why : ReaderStop)
      → HasHeardAll view folder peer xs olds counts mids before → StopsIn view folder peer ys mids before why news later
      → StopsIn view folder peer (xs ++ ys) olds counts why news later
  stops_together together peer xs ys olds mids news counts before later why a s =
      record {
        before = xs ++ s.before;
        event = s.event;
        after = s.after;
        divided = ap (λ l. xs ++ l) s.divided ∙ sym (append_assoc xs s.before (s.event ∷ s.after));
        mids = s.mids;
        counts_before = s.counts_before;
        heard = heard_together together peer xs s.before olds mids s.mids counts before s.counts_before a s.heard;
        stops = s.stops;
      }

  -- all that was read was heard, when the clock showed the moments of it, this one last
  pub record IsSoFar (shows : ℕ → ℕ → Type 0) (peer : Identity) (given left : Option (List ℕ)) (session : View) (olds news : List (ReaderFolder W)) (counts : ReaderCounts) (now : ℕ) : Type 0 where
    pub moment : ℕ
    pub acts : List Act
    pub taken : Consumes given left (fed_of acts)
    pub session_is : session ≡ (run (begun moment) acts).session
    pub heard : HasHeardAll view folder peer (run (begun moment) acts).events olds no_counts news counts
    pub begun_then : ShowsLater shows 0 moment
    pub timed : AreTimed shows moment acts
    pub now_then : (now ≡ last_fed moment acts) ⊎ ShowsLater shows (last_fed moment acts) now

  pub at_first : (shows : ℕ → ℕ → Type 0) (peer : Identity) (given : Option (List ℕ)) (moment : ℕ) (session : View) (olds : List (ReaderFolder W)) (counts : ReaderCounts)
      → Consumes given given [] → session ≡ begun moment → counts ≡ no_counts → shows 0 moment → IsSoFar shows peer given given session olds olds counts moment
  unfolding run
  at_first shows peer given moment session olds counts none e c shown =
      record {
        moment = moment;
        acts = [];
        taken = none;
        session_is = e;
        heard = subst (λ (x : ReaderCounts). HasHeardAll view folder peer [] olds no_counts olds x) (sym c) (heard_no_event view folder peer olds no_counts);
        begun_then = at_the_next_look moment shown;
        timed = tt;
        now_then = inl refl;
      }

  -- nothing was read
  pub nothing_read : (peer : Identity) (given : Option (List ℕ)) (olds : List (ReaderFolder W)) (counts : ReaderCounts)
      → Consumes given given [] → counts ≡ no_counts → ReadsAll view folder peer given given [] olds olds counts
  unfolding run
  nothing_read peer given olds counts none c =
      record {
        moment = 0;
        acts = [];
        taken = none;
        heard = subst (λ (x : ReaderCounts). HasHeardAll view folder peer [] olds no_counts olds x) (sym c) (heard_no_event view folder peer olds no_counts);
      }

  -- nothing more was read
  pub no_more : (shows : ℕ → ℕ → Type 0) (peer : Identity) (given left after : Option (List ℕ)) (session : View) (olds news : List (ReaderFolder W)) (counts : ReaderCounts) (now : ℕ)
      → IsSoFar shows peer given left session olds news counts now → Keeps left after → IsSoFar shows peer given after session olds news counts now
  no_more shows peer given left after session olds news counts now a kept =
      record {
        moment = a.moment;
        acts = a.acts;
        taken = Consumes-kept given left after (fed_of a.acts) a.taken kept;
        session_is = a.session_is;
        heard = a.heard;
        begun_then = a.begun_then;
        timed = a.timed;
        now_then = a.now_then;
      }

  -- the clock was looked at once more
  pub looked : (shows : ℕ → ℕ → Type 0) (peer : Identity) (given left : Option (List ℕ)) (session : View) (olds news : List (ReaderFolder W)) (counts : ReaderCounts) (last now : ℕ)
      → IsSoFar shows peer given left session olds news counts last → shows last now → IsSoFar shows peer given left session olds news counts now
  looked shows peer given left session olds news counts last now a shown =
      record {
        moment = a.moment;
        acts = a.acts;
        taken = a.taken;
        session_is = a.session_is;
        heard = a.heard;
        begun_then = a.begun_then;
        timed = a.timed;
        now_then = inr (shown_later shows (last_fed a.moment a.acts) last now a.now_then shown);
      }

  pub at_end : (shows : ℕ → ℕ → Type 0) (peer : Identity) (given left after : Option (List ℕ)) (session : View) (olds news : List (ReaderFolder W)) (counts : ReaderCounts) (now : ℕ)
      → IsSoFar shows peer given left session olds news counts now → Consumes left after [] → ReadsAll view folder peer given after [] olds news counts
  at_end shows peer given left after session olds news counts now a none =
      record { moment = a.moment; acts = a.acts; taken = Consumes-trans given left after (fed_of a.acts) [] a.taken none; heard = a.heard }

  pub one_piece : (shows : ℕ → ℕ → Type 0) → GoTogether → (peer : Identity) (given left next : Option (List ℕ)) (session after : View) (olds mids news : List (ReaderFolder W)) (counts later : ReaderCounts) (piece : List ℕ) (last moment : ℕ)
      → IsSoFar shows peer given left session olds mids counts last → shows last moment → Consumes left next piece → HearsPiece view folder peer session mids counts piece moment after news later
      → IsSoFar shows peer given next after olds news later moment
  one_piece shows together peer given left next session after olds mids news counts later piece last moment a shown taken h =
      let more = h.opens.acts ++ Feeds piece moment ∷ [] in
      let start = begun a.moment in
      let events : (run start (a.acts ++ more)).events ≡ (run start a.acts).events ++ (fed h.opened piece moment).events
      = run_events-append start a.acts more ∙ ap (λ (v : View). (run start a.acts).events ++ (run v more).events) (sym a.session_is)
      ∙ ap (λ l. (run start a.acts).events ++ l) (feed_events session h.opened h.opens piece moment) in
      record {
        moment = a.moment;
        acts = a.acts ++ more;
        taken = subst (λ l. Consumes given next l) (sym (fed_of-append a.acts more ∙ ap (λ l. fed_of a.acts ++ l) (feed_bytes session h.opened h.opens piece moment)))
            (Consumes-trans given left next (fed_of a.acts) piece a.taken taken);
        session_is = h.after_is ∙ sym (run_session-append start a.acts more ∙ ap (λ (v : View). (run v more).session) (sym a.session_is) ∙ feed_session session h.opened h.opens piece moment);
        heard = subst (λ l. HasHeardAll view folder peer l olds no_counts news later) (sym events)
            (heard_together together peer (run start a.acts).events (fed h.opened piece moment).events olds mids news no_counts counts later a.heard h.heard);
        begun_then = a.begun_then;
        timed = timed-feed shows a.moment a.acts h.opens.acts piece moment a.timed h.opens.only
            (shown_later shows (last_fed a.moment a.acts) last moment a.now_then shown);
        now_then = inl (sym (last_fed-feed shows a.moment a.acts h.opens.acts piece moment));
      }

  -- ---- how it ends

  pub reads_all : (shows : ℕ → ℕ → Type 0) (peer : Identity) (given left : Option (List ℕ)) (session : View) (olds news : List (ReaderFolder W)) (counts : ReaderCounts) (now : ℕ)
      → IsSoFar shows peer given left session olds news counts now → ReadsAll view folder peer given left [] olds news counts
  reads_all shows peer given left session olds news counts now a =
      record { moment = a.moment; acts = a.acts; taken = subst (λ l. Consumes given left l) (sym (append-nil (fed_of a.acts))) a.taken; heard = a.heard }

  pub times_out : (shows : ℕ → ℕ → Type 0) (peer : Identity) (given left : Option (List ℕ)) (session : View) (olds news : List (ReaderFolder W)) (counts : ReaderCounts) (now : ℕ)
      → IsSoFar shows peer given left session olds news counts now → tick_at session.conversation.received session.conversation.said now ≡ TimedOut → HasTimedOut shows given left
  times_out shows peer given left session olds news counts now a late =
      record {
        moment = a.moment;
        acts = a.acts;
        now = now;
        taken = a.taken;
        begun_then = a.begun_then;
        timed = a.timed;
        now_then = a.now_then;
        late = subst (λ (v : View). tick_at v.conversation.received v.conversation.said now ≡ TimedOut) a.session_is late;
      }

  lost_piece : (shows : ℕ → ℕ → Type 0) (peer : Identity) (given left next : Option (List ℕ)) (session : View) (olds news : List (ReaderFolder W)) (counts : ReaderCounts) (piece : List ℕ) (now : ℕ)
      → IsSoFar shows peer given left session olds news counts now → Consumes left next piece → ReadsAll view folder peer given next piece olds news counts
  lost_piece shows peer given left next session olds news counts piece now a taken =
      record { moment = a.moment; acts = a.acts; taken = Consumes-trans given left next (fed_of a.acts) piece a.taken taken; heard = a.heard }

  up_to : (shows : ℕ → ℕ → Type 0) → GoTogether → (peer : Identity) (given left next : Option (List ℕ)) (session opened : View) (olds mids news : List (ReaderFolder W)) (counts later : ReaderCounts) (piece : List ℕ) (moment : ℕ) (why : ReaderStop)
      → IsSoFar shows peer given left session olds mids counts moment → Consumes left next piece → OnlyOpens session opened → StopsIn view folder peer (fed opened piece moment).events mids counts why news later
      → ReadsUpTo view folder peer given next olds why news later
  up_to shows together peer given left next session opened olds mids news counts later piece moment why a taken o s =
      let more = o.acts ++ Feeds piece moment ∷ [] in
      let start = begun a.moment in
      let events : (run start (a.acts ++ more)).events ≡ (run start a.acts).events ++ (fed opened piece moment).events
      = run_events-append start a.acts more ∙ ap (λ (v : View). (run start a.acts).events ++ (run v more).events) (sym a.session_is)
      ∙ ap (λ l. (run start a.acts).events ++ l) (feed_events session opened o piece moment) in
      record {
        moment = a.moment;
        acts = a.acts ++ more;
        taken = subst (λ l. Consumes given next l) (sym (fed_of-append a.acts more ∙ ap (λ l. fed_of a.acts ++ l) (feed_bytes session opened o piece moment)))
            (Consumes-trans given left next (fed_of a.acts) piece a.taken taken);
        stops = subst (λ l. StopsIn view folder peer l olds no_counts why news later) (sym events)
            (stops_together together peer (run start a.acts).events (fed opened piece moment).events olds mids news no_counts counts later why a.heard s);
      }

  stops_to : (peer : Identity) (given now : Option (List ℕ)) (olds news : List (ReaderFolder W)) (later : ReaderCounts) (why : ReaderStop)
      → ReadsUpTo view folder peer given now olds why news later → ReadsTo view folder peer given now olds why news later
  stops_to peer given now olds news later stop.InputEnded u = absurd u.stops.stops
  stops_to peer given now olds news later (stop.Read kind) u = absurd u.stops.stops
  stops_to peer given now olds news later stop.TimedOut u = absurd u.stops.stops
  stops_to peer given now olds news later (stop.Closed reason) u = u
  stops_to peer given now olds news later (stop.Fault fault) u = u
  stops_to peer given now olds news later stop.HistoryFull u = u
  stops_to peer given now olds news later stop.OutOfMemory u = inr u

  pub piece_stops : (shows : ℕ → ℕ → Type 0) → GoTogether → (peer : Identity) (given left next : Option (List ℕ)) (session : View) (olds mids news : List (ReaderFolder W)) (counts later : ReaderCounts) (piece : List ℕ) (moment : ℕ) (why : ReaderStop)
      → IsSoFar shows peer given left session olds mids counts moment → Consumes left next piece → StopsInPiece view folder peer session mids counts piece moment why news later
      → ReadsTo view folder peer given next olds why news later
  piece_stops shows together peer given left next session olds mids news counts later piece moment why a taken (inl s) =
      stops_to peer given next olds news later why (up_to shows together peer given left next session s.0 olds mids news counts later piece moment why a taken s.1 s.2)
  piece_stops shows together peer given left next session olds mids news counts later piece moment why a taken (inr s) =
      subst (λ (w : ReaderStop). ReadsTo view folder peer given next olds w news later) (sym s.0)
      (inl (
        piece,
        subst (λ (x : List (ReaderFolder W) × ReaderCounts). ReadsAll view folder peer given next piece olds x.0 x.1) (λ i. (sym s.1 i, sym s.2 i))
            (lost_piece shows peer given left next session olds mids counts piece moment a taken),
      ))

  -- such an end is none of a read or a clock
  of_events : (peer : Identity) (events : List Event) (olds news : List (ReaderFolder W)) (counts later : ReaderCounts) (why : ReaderStop)
      → StopsIn view folder peer events olds counts why news later → IsOfEvents why
  of_events peer events olds news counts later stop.InputEnded s = absurd s.stops
  of_events peer events olds news counts later (stop.Read kind) s = absurd s.stops
  of_events peer events olds news counts later stop.TimedOut s = absurd s.stops
  of_events peer events olds news counts later (stop.Closed reason) s = tt
  of_events peer events olds news counts later (stop.Fault fault) s = tt
  of_events peer events olds news counts later stop.HistoryFull s = tt
  of_events peer events olds news counts later stop.OutOfMemory s = tt

  pub of_piece : (peer : Identity) (session : View) (olds news : List (ReaderFolder W)) (counts later : ReaderCounts) (piece : List ℕ) (moment : ℕ) (why : ReaderStop)
      → StopsInPiece view folder peer session olds counts piece moment why news later → IsOfEvents why
  of_piece peer session olds news counts later piece moment why (inl s) = of_events peer (fed s.0 piece moment).events olds news counts later why s.2
  of_piece peer session olds news counts later piece moment why (inr s) = subst IsOfEvents (sym s.0) tt

  -- the same of values that are equal
  pub same_so_far : (shows : ℕ → ℕ → Type 0) (peer : Identity) (given left : Option (List ℕ)) (v w : View) (olds ms ns : List (ReaderFolder W)) (c d : ReaderCounts) (m n : ℕ)
      → w ≡ v → ns ≡ ms → d ≡ c → n ≡ m → IsSoFar shows peer given left v olds ms c m → IsSoFar shows peer given left w olds ns d n
  same_so_far shows peer given left v w olds ms ns c d m n e f h k a =
      subst (λ (x : View). IsSoFar shows peer given left x olds ns d n) (sym e)
      (subst (λ (x : List (ReaderFolder W)). IsSoFar shows peer given left v olds x d n) (sym f)
      (subst (λ (x : ReaderCounts). IsSoFar shows peer given left v olds ms x n) (sym h)
      (subst (λ (x : ℕ). IsSoFar shows peer given left v olds ms c x) (sym k) a)))
