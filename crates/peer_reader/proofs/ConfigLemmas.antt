-- A ClusterConfig, heard one folder after another.
use Rattle.std.proofs.Common.{◌≡◌, ◌<◌, ◌≤◌, ◌+◌, ◌-◌, ◌++◌, ◌∷◌, [], ℕ, List, Bool, true, false, cond, Option, Some, map, take, drop, length, set, get_or, refl, sym, ◌∙◌, ap, subst, arith}
use Rattle.std.specs.List.{slice_get}
use Rattle.std.proofs.lemmas.List.{append-nil, drop_all, get_or-append_right, set-get_or, get_or-drop, get_or-map, length-map, length-take-le, map-append, map-set, take_more}
use Rattle.std.proofs.Math.Nat.{le_refl}
use Rattle.std.proofs.lemmas.List.Edits.{map_over_more}
use Rattle.std.proofs.lemmas.Option.{get_or_from_slice_get, slice_get-get_or, slice_get_within}
use Rattle.std.proofs.Math.Seq.{take-length}
use Rattle.bep_session.specs.declared.event.Event.TheVariants.{PeerConfig}
use Rattle.peer_reader.specs.declared.hearing.Passed.TheVariants as passed
use Rattle.peer_reader.specs.declared.stop.ReaderStop.{ReaderStop}
use Rattle.peer_reader.specs.declared.stop.ReaderStop.TheVariants as stop
use Rattle.bep_messages.specs.declared.cluster_config.ClusterConfig.{ClusterConfig}
use Rattle.folder_calls.specs.Adds.{Asked}
use Rattle.folder_calls.specs.Shared.{CallerView}
use Rattle.peer_reader.proofs.EachLemmas.{GoTogether, at_place, each_more, each_same}
use Rattle.peer_reader.proofs.EffectLemmas.{count_changes-append, forgets-more}
use Rattle.peer_reader.specs.declared.counts.ReaderCounts.{ReaderCounts}
use Rattle.peer_reader.specs.declared.folder.ReaderFolder.{ReaderFolder}
use Rattle.peer_reader.specs.Counts.{one_change}
use Rattle.peer_reader.specs.Effects.{Heard, count_changes, forgets, forgets_one, is_forgotten, told_by}
use Rattle.peer_reader.specs.Hears.{AsksEach, AsksOne, HasHeard, IsCutShort, Stops, StopsOne, applied, counted_forget, forget_asked, forget_due, heard_of}
use Rattle.folder_core.specs.declared.answer.Answer.TheVariants.{Applied, HistoryFull}
use Rattle.folder_core.specs.declared.change.Change.TheVariants.{Forget}
use Rattle.sync_record.specs.Devices.{Identity}

le_below : (i n : ℕ) → i < n → i ≤ n
le_below i n h = omega arith

one_applied : (b : Bool) (peer : Identity) (k : ℕ)
    → map applied (cond b ((k, Forget peer) ∷ []) []) ≡ at_place k (cond b ((Forget peer, Applied) ∷ []) [])
one_applied true peer k = refl
one_applied false peer k = refl

one_counted : (b : Bool) (peer : Identity) (k : ℕ) (c : ReaderCounts)
    → cond b (one_change c) c ≡ count_changes (cond b ((k, Forget peer) ∷ []) []) c
one_counted true peer k c = refl
one_counted false peer k c = refl

module _ {W F : Type 0} (view : W → CallerView) (folder : W → F) where
  -- the first i folders heard it
  pub record Front (peer : Identity) (config : ClusterConfig) (i : ℕ) (olds : List (ReaderFolder W)) (counts : ReaderCounts) (news : List (ReaderFolder W)) (later : ReaderCounts) : Type 0 where
    pub heard : map heard_of news ≡ map (told_by peer config) (take i (map heard_of olds)) ++ drop i (map heard_of olds)
    pub asks : AsksEach view folder 0 (map applied (forgets peer config 0 (take i (map heard_of olds)))) olds news
    pub counts_are : later ≡ count_changes (forgets peer config 0 (take i (map heard_of olds))) counts

  pub front_none : (peer : Identity) (config : ClusterConfig) (olds : List (ReaderFolder W)) (counts : ReaderCounts)
      → Front peer config 0 olds counts olds counts
  front_none peer config olds counts = record { heard = refl; asks = each_same view folder 0 olds; counts_are = refl }

  -- the folder at the place i is as it was
  pub at_front : (peer : Identity) (config : ClusterConfig) (i : ℕ) (olds : List (ReaderFolder W)) (counts : ReaderCounts) (news : List (ReaderFolder W)) (later : ReaderCounts) (f : ReaderFolder W)
      → Front peer config i olds counts news later → slice_get news i ≡ Some f → i < length (map heard_of olds) → get_or (map heard_of olds) i (heard_of f) ≡ heard_of f
  at_front peer config i olds counts news later f a there h =
      let xs = map heard_of olds in
      let front = map (told_by peer config) (take i xs) in
      let long : length front ≡ i = length-map (take i xs) (told_by peer config) ∙ length-take-le i xs (le_below i (length xs) h) in
      let here : i + (i - i) ≡ i = omega arith in
      let now : get_or (map heard_of news) i (heard_of f) ≡ heard_of f
      = get_or-map heard_of news i f (heard_of f) (slice_get_within news i f there) ∙ ap heard_of (get_or_from_slice_get news i f f there) in
      sym (ap (λ l. get_or l i (heard_of f)) a.heard ∙ get_or-append_right front (drop i xs) i i (heard_of f) long (le_refl i)
      ∙ get_or-drop i xs (i - i) (heard_of f) ∙ ap (λ (k : ℕ). get_or xs k (heard_of f)) here) ∙ now

  pub front_more : GoTogether → (peer : Identity) (config : ClusterConfig) (i : ℕ) (olds : List (ReaderFolder W)) (counts : ReaderCounts) (news : List (ReaderFolder W)) (later : ReaderCounts) (f g : ReaderFolder W) (last : ReaderCounts)
      → Front peer config i olds counts news later → slice_get news i ≡ Some f → i < length (map heard_of olds)
      → heard_of g ≡ told_by peer config (heard_of f) → AsksOne view folder (forget_asked peer config (heard_of f)) f g
      → last ≡ counted_forget peer config (heard_of f) later
      → Front peer config (i + 1) olds counts (set news i g) last
  front_more together peer config i olds counts news later f g last a there h heard asks counted =
      let xs = map heard_of olds in
      let x = heard_of f in
      let same = at_front peer config i olds counts news later f a there h in
      let fronts : take (i + 1) xs ≡ take i xs ++ x ∷ [] = take_more xs i x h ∙ ap (λ y. take i xs ++ y ∷ []) same in
      let short : length (take i xs) ≡ i = length-take-le i xs (le_below i (length xs) h) in
      let long : 0 + length (take i xs) ≡ i = omega (arith, short) in
      let made : forgets peer config 0 (take (i + 1) xs) ≡ forgets peer config 0 (take i xs) ++ forgets_one peer config i x
      = ap (forgets peer config 0) fronts ∙ forgets-more peer config 0 (take i xs) x
      ∙ ap (λ (p : ℕ). forgets peer config 0 (take i xs) ++ forgets_one peer config p x) long in
      let due = is_forgotten peer config x in
      let place : 0 + i ≡ i = omega arith in
      let all : map applied (forgets peer config 0 (take (i + 1) xs)) ≡ map applied (forgets peer config 0 (take i xs)) ++ at_place (0 + i) (forget_asked peer config x)
      = ap (map applied) made ∙ map-append applied (forgets peer config 0 (take i xs)) (forgets_one peer config i x)
      ∙ ap (λ l. map applied (forgets peer config 0 (take i xs)) ++ l) (one_applied due peer i)
      ∙ ap (λ (p : ℕ). map applied (forgets peer config 0 (take i xs)) ++ at_place p (forget_asked peer config x)) (sym place) in
      record {
        heard = map-set heard_of news i g ∙ ap (λ y. set (map heard_of news) i y) heard
            ∙ map_over_more (told_by peer config) xs (map heard_of news) i x h a.heard (sym (get_or-map heard_of news i f x (slice_get_within news i f there) ∙ ap heard_of (get_or_from_slice_get news i f f there)));
        asks = subst (λ l. AsksEach view folder 0 l olds (set news i g)) (sym all)
            (each_more view folder together 0 (map applied (forgets peer config 0 (take i xs))) olds news i f g (forget_asked peer config x) a.asks there asks);
        counts_are = counted ∙ one_counted due peer i later ∙ ap (count_changes (forgets_one peer config i x)) a.counts_are
            ∙ sym (count_changes-append (forgets peer config 0 (take i xs)) (forgets_one peer config i x) counts)
            ∙ ap (λ l. count_changes l counts) (sym made);
      }

  -- one of them is as before, but for what it was asked for
  same_folders : (peer : Identity) (config : ClusterConfig) (i : ℕ) (olds : List (ReaderFolder W)) (counts : ReaderCounts) (news : List (ReaderFolder W)) (later : ReaderCounts) (f g : ReaderFolder W)
      → Front peer config i olds counts news later → slice_get news i ≡ Some f → heard_of g ≡ heard_of f
      → map heard_of (set news i g) ≡ map (told_by peer config) (take i (map heard_of olds)) ++ drop i (map heard_of olds)
  same_folders peer config i olds counts news later f g a there same =
      let now : get_or (map heard_of news) i (heard_of f) ≡ heard_of f
      = get_or-map heard_of news i f (heard_of f) (slice_get_within news i f there) ∙ ap heard_of (get_or_from_slice_get news i f f there) in
      map-set heard_of news i g ∙ ap (set (map heard_of news) i) (same ∙ sym now) ∙ set-get_or (map heard_of news) i (heard_of f) ∙ a.heard

  cut_short : GoTogether → (peer : Identity) (config : ClusterConfig) (i : ℕ) (olds : List (ReaderFolder W)) (counts : ReaderCounts) (news : List (ReaderFolder W)) (later : ReaderCounts) (f g : ReaderFolder W) (last : ReaderCounts) (asked : List Asked)
      → Front peer config i olds counts news later → slice_get news i ≡ Some f → heard_of g ≡ heard_of f → AsksOne view folder asked f g → last ≡ later
      → IsCutShort view folder peer (PeerConfig config) olds counts i (at_place i asked) (set news i g) last
  cut_short together peer config i olds counts news later f g last asked a there same asks counted =
      let xs = map heard_of olds in
      let made = map applied (forgets peer config 0 (take i xs)) in
      let place : 0 + i ≡ i = omega arith in
      record {
        heard = same_folders peer config i olds counts news later f g a there same;
        asks = subst (λ (p : ℕ). AsksEach view folder 0 (made ++ at_place p asked) olds (set news i g)) place
            (each_more view folder together 0 made olds news i f g asked a.asks there asks);
        counts_are = counted ∙ a.counts_are;
      }

  pub front_stops : GoTogether → (peer : Identity) (config : ClusterConfig) (i : ℕ) (olds : List (ReaderFolder W)) (counts : ReaderCounts) (news : List (ReaderFolder W)) (later : ReaderCounts) (f g : ReaderFolder W) (last : ReaderCounts) (why : ReaderStop)
      → Front peer config i olds counts news later → slice_get news i ≡ Some f → i < length (map heard_of olds)
      → StopsOne view folder (forget_due peer config (Some (heard_of f))) f g why → last ≡ later
      → Stops view folder peer (PeerConfig config) olds counts why (set news i g) last
  front_stops together peer config i olds counts news later f g last stop.HistoryFull a there h stops counted =
      let xs = map heard_of olds in
      let change = stops.1.0 in
      let here : slice_get xs i ≡ Some (heard_of f) = slice_get-get_or xs i (heard_of f) h ∙ ap (λ y. Some y) (at_front peer config i olds counts news later f a there h) in
      let due = subst (λ (o : Option Heard). forget_due peer config o change) (sym here) stops.1.1 in
      (i, (change, due, cut_short together peer config i olds counts news later f g last ((change, HistoryFull) ∷ []) a there stops.0 stops.1.2 counted))
  front_stops together peer config i olds counts news later f g last stop.OutOfMemory a there h stops counted =
      (i, cut_short together peer config i olds counts news later f g last [] a there stops.0 stops.1 counted)
  front_stops together peer config i olds counts news later f g last stop.InputEnded a there h stops counted = stops
  front_stops together peer config i olds counts news later f g last (stop.Read kind) a there h stops counted = stops
  front_stops together peer config i olds counts news later f g last (stop.Closed reason) a there h stops counted = absurd stops
  front_stops together peer config i olds counts news later f g last (stop.Fault fault) a there h stops counted = absurd stops
  front_stops together peer config i olds counts news later f g last stop.TimedOut a there h stops counted = stops

  -- all of them heard it
  pub front_all : (peer : Identity) (config : ClusterConfig) (olds : List (ReaderFolder W)) (counts : ReaderCounts) (news : List (ReaderFolder W)) (later : ReaderCounts) (n : ℕ)
      → Front peer config n olds counts news later → n ≡ length olds
      → HasHeard view folder peer (PeerConfig config) olds counts (passed.Config config) news later
  front_all peer config olds counts news later n a e =
      let xs = map heard_of olds in
      let whole : take n xs ≡ xs = ap (λ (k : ℕ). take k xs) (e ∙ sym (length-map olds heard_of)) ∙ take-length xs in
      let none : drop n xs ≡ [] = drop_all n xs (omega (arith, e, length-map olds heard_of)) in
      record {
        heard = a.heard ∙ ap (λ l. map (told_by peer config) l ++ drop n xs) whole ∙ ap (λ l. map (told_by peer config) xs ++ l) none ∙ append-nil (map (told_by peer config) xs);
        asks = subst (λ l. AsksEach view folder 0 (map applied (forgets peer config 0 l)) olds news) whole a.asks;
        counts_are = a.counts_are ∙ ap (λ l. count_changes (forgets peer config 0 l) counts) whole;
        passed_is = refl;
      }
