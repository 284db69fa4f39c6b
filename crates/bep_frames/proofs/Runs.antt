-- What a reader gave and what it has to give are one stream, whatever comes.
use Rattle.std.specs.List.{flat_map}
use Rattle.std.proofs.Math.ListN.{drop_of_length-le}
use Rattle.bep_frames.specs.declared.fault.FrameFault.TheVariants.{BadMagic, TooLong, Compressed, BadHeader, BadBody, OutOfMemory}
use Rattle.std.proofs.Common.{◌≡◌, ℕ, zero, suc, get_or, drop, add-one, ◌+◌, ◌<◌, ◌≤◌, Bool, List, [], ◌∷◌, ◌++◌, length, Result, Ok, Err, Option, Some, None, refl, sym, ap, subst, ◌∙◌, inl, inr, arith, append_assoc, append-nil}
use Rattle.bep_frames.specs.declared.fault.FrameFault.{FrameFault}
use Rattle.bep_frames.specs.declared.frame.Frame.{Frame}
use Rattle.bep_frames.specs.Grammar.{Shows}
use Rattle.bep_frames.specs.Stream.{Stream, first_then, ended, stream}
use Rattle.bep_frames.specs.State.{State, start, grown, fed, GivesFault, Gives, to_give, remaining, with_front, Stops, EndsAs}
use Rattle.bep_frames.proofs.Readings.{empty_more, stream_more, stream_whole, stream_broken, more_partial, partial_more, whole_longer, broken_longer, begins_shorter}

remaining_none : (s : State) (more : List ℕ) → s.fault ≡ None → remaining (fed s more) ≡ stream s.hello (s.rest ++ more)
remaining_none s more e = ap (λ (f : Option FrameFault). to_give s.hello (grown s.rest more f) f) e

remaining_fault : (s : State) (more : List ℕ) (e : FrameFault) → s.fault ≡ Some e → remaining (fed s more) ≡ ended (Err e)
remaining_fault s more e is = ap (λ (f : Option FrameFault). to_give s.hello (grown s.rest more f) f) is

pub after_frame : (old new : State) (f : Frame) (more : List ℕ) → Gives old (Some (Ok f)) new → remaining (fed old more) ≡ first_then f (remaining (fed new more))
after_frame old new f more g =
    remaining_none old more g.0
    ∙ stream_whole old.hello (old.rest ++ more) f (new.rest ++ more) (whole_longer old.hello old.rest more f new.rest g.1)
    ∙ ap (first_then f) (sym (remaining_none new more g.3 ∙ ap (λ (due : Bool). stream due (new.rest ++ more)) g.2))

pub after_fault : (old new : State) (e : FrameFault) (more : List ℕ) → GivesFault old e new → remaining (fed new more) ≡ remaining (fed old more)
after_fault old new e more (inl h) = ap (λ (s : State). remaining (fed s more)) h.1
after_fault old new e more (inr h) =
    ap (λ (s : State). remaining (fed s more)) h.2 ∙ sym (remaining_none old more h.0 ∙ stream_broken old.hello (old.rest ++ more) e (broken_longer old.hello old.rest more e h.1))

pub fault_stops : (old new : State) (e : FrameFault) → GivesFault old e new → new.fault ≡ Some e
fault_stops old new e (inl h) = ap (λ (s : State). s.fault) h.1 ∙ h.0
fault_stops old new e (inr h) = ap (λ (s : State). s.fault) h.2

pub shorter : (old new : State) (f : Frame) → Gives old (Some (Ok f)) new → length new.rest < length old.rest
shorter old new f g = begins_shorter old.hello old.rest f new.rest g.1

-- one more frame at the front
pub front_push : (frames : List Frame) (f : Frame) (s : Stream) → with_front (frames ++ f ∷ []) s ≡ with_front frames (first_then f s)
front_push frames f s = ap (λ (l : List Frame). record { frames = l; end = s.end }) (append_assoc frames (f ∷ []) s.frames)

fed_by : (s : State) (f : Option FrameFault) (a b : List ℕ) → grown (grown s.rest a f) b f ≡ grown s.rest (a ++ b) f
fed_by s None a b = append_assoc s.rest a b
fed_by s (Some e) a b = refl

-- two pieces are one
pub fed_fed : (s : State) (a b : List ℕ) → fed (fed s a) b ≡ fed s (a ++ b)
fed_fed s a b = ap (λ (l : List ℕ). record { hello = s.hello; rest = l; fault = s.fault }) (fed_by s s.fault a b)

-- where nothing more comes
abbrev end_of : State → Option FrameFault → Result (List ℕ) FrameFault
end_of s None = Ok s.rest
end_of s (Some f) = Err f

stops_end : (s : State) (fault : Option FrameFault) → Stops s fault → remaining (fed s []) ≡ ended (end_of s fault)
stops_end s None h = remaining_none s [] h.0 ∙ ap (stream s.hello) (append-nil s.rest) ∙ stream_more s.hello s.rest (partial_more s.hello s.rest h.1)
stops_end s (Some f) h = remaining_fault s [] f h

given_all : (s : State) (fault : Option FrameFault) → Stops s fault → (frames : List Frame) (all : Stream) → with_front frames (remaining (fed s [])) ≡ all → with_front frames (ended (end_of s fault)) ≡ all
given_all s fault h frames all e = ap (with_front frames) (sym (stops_end s fault h)) ∙ e

pub ends_stream : (s : State) (fault : Option FrameFault) → Stops s fault → (frames : List Frame) (all : Stream) → with_front frames (remaining (fed s [])) ≡ all → frames ≡ all.frames
ends_stream s fault h frames all e = sym (append-nil frames) ∙ ap (λ (r : Stream). r.frames) (given_all s fault h frames all e)

pub ends_rest : (s : State) (frames : List Frame) (all : Stream) → Stops s None → with_front frames (remaining (fed s [])) ≡ all → EndsAs all.end (Ok (length s.rest))
ends_rest s frames all h e = subst (λ (r : Stream). EndsAs r.end (Ok (length s.rest))) (given_all s None h frames all e) refl

pub ends_fault : (s : State) (f : FrameFault) (frames : List Frame) (all : Stream) → Stops s (Some f) → with_front frames (remaining (fed s [])) ≡ all → EndsAs all.end (Err f)
ends_fault s f frames all h e = subst (λ (r : Stream). EndsAs r.end (Err f)) (given_all s (Some f) h frames all e) refl

-- a fault ends the stream, and where there is no frame, all that is left is less than one
pub fault_ends : (old new : State) (e : FrameFault) (more : List ℕ) → GivesFault old e new → remaining (fed new more) ≡ ended (Err e)
fault_ends old new e more gives = remaining_fault new more e (fault_stops old new e gives)

pub none_ends : (s new : State) → Gives s None new → remaining (fed s []) ≡ ended (Ok s.rest)
none_ends s new g = stops_end s None (g.0, g.1)

pub starts : (due : Bool) → Stops (start due) None
starts due = (refl, more_partial due [] (empty_more due))

pub begin : (due : Bool) (s : State) (frames : List Frame) (all : List ℕ) → s ≡ start due → frames ≡ [] → with_front frames (remaining (fed s all)) ≡ stream due all
begin due s frames all e none = ap (λ (t : State). with_front frames (remaining (fed t all))) e ∙ ap (λ (l : List Frame). with_front l (stream due all)) none

pub begin_stops : (due : Bool) (s : State) → s ≡ start due → Stops s None
begin_stops due s e = subst (λ (t : State). Stops t None) (sym e) (starts due)

pub gives_fault : (old new : State) (e : FrameFault) → Gives old (Some (Err e)) new → (e ≡ OutOfMemory → ⊥) → GivesFault old e new
gives_fault old new BadMagic g ne = g
gives_fault old new TooLong g ne = g
gives_fault old new Compressed g ne = g
gives_fault old new BadHeader g ne = g
gives_fault old new BadBody g ne = g
gives_fault old new OutOfMemory g ne = absurd (ne refl)

gives_by : (old new : State) (e : FrameFault) → GivesFault old e new → (e ≡ OutOfMemory → ⊥) → Gives old (Some (Err e)) new
gives_by old new BadMagic g ne = g
gives_by old new TooLong g ne = g
gives_by old new Compressed g ne = g
gives_by old new BadHeader g ne = g
gives_by old new BadBody g ne = g
gives_by old new OutOfMemory g ne = absurd (ne refl)

-- a fault that the unread bytes show is given
pub new_fault : (seen old : State) (e : FrameFault) → seen ≡ old → seen.fault ≡ None → Shows seen.hello seen.rest e → (e ≡ OutOfMemory → ⊥) → Gives old (Some (Err e)) (record { hello = seen.hello; rest = seen.rest; fault = Some e })
new_fault seen old e same none shows ne =
    let new : State = record { hello = seen.hello; rest = seen.rest; fault = Some e } in
    subst (λ (s : State). Gives s (Some (Err e)) new) same (gives_by seen new e (inr (none, shows, refl)) ne)

-- an error leaves the unread bytes
kept_by : (old new : State) (e : FrameFault) → GivesFault old e new → (new.rest ≡ old.rest) × (new.hello ≡ old.hello)
kept_by old new e (inl h) = (ap (λ (t : State). t.rest) h.1, ap (λ (t : State). t.hello) h.1)
kept_by old new e (inr h) = (ap (λ (t : State). t.rest) h.2, ap (λ (t : State). t.hello) h.2)

pub error_keeps : (old new : State) (e : FrameFault) → Gives old (Some (Err e)) new → (new.rest ≡ old.rest) × (new.hello ≡ old.hello)
error_keeps old new BadMagic g = kept_by old new BadMagic g
error_keeps old new TooLong g = kept_by old new TooLong g
error_keeps old new Compressed g = kept_by old new Compressed g
error_keeps old new BadHeader g = kept_by old new BadHeader g
error_keeps old new BadBody g = kept_by old new BadBody g
error_keeps old new OutOfMemory g = (ap (λ (t : State). t.rest) g.2, ap (λ (t : State). t.hello) g.2)

-- one more piece
pub more_given : (reader fed_reader new : State) (frames given : List Frame) (piece rest : List ℕ) (all : Stream) → fed_reader ≡ fed reader piece → ((more : List ℕ) → with_front given (remaining (fed new more)) ≡ with_front frames (remaining (fed fed_reader more))) → with_front frames (remaining (fed reader (piece ++ rest))) ≡ all → with_front given (remaining (fed new rest)) ≡ all
more_given reader fed_reader new frames given piece rest all is more e =
    more rest ∙ ap (λ (s : State). with_front frames (remaining (fed s rest))) is ∙ ap (λ (s : State). with_front frames (remaining s)) (fed_fed reader piece rest) ∙ e

pieces_suc : {A : Type 0} (bytes : A → List ℕ) (pieces : List A) (i : ℕ) (x : A) (piece : List ℕ) → i < length pieces → x ≡ get_or pieces i x → piece ≡ bytes x → flat_map bytes (drop i pieces) ≡ piece ++ flat_map bytes (drop (suc i) pieces)
pieces_suc bytes [] i x piece lt is e = absurd (omega (arith, lt))
pieces_suc bytes (y ∷ pieces) zero x piece lt is e = ap (λ (l : List ℕ). l ++ flat_map bytes pieces) (sym (e ∙ ap bytes is))
pieces_suc bytes (y ∷ pieces) (suc i) x piece lt is e = pieces_suc bytes pieces i x piece (omega (arith, lt)) is e

pub pieces_next : {A : Type 0} (bytes : A → List ℕ) (pieces : List A) (i : ℕ) (x : A) (piece : List ℕ) → i < length pieces → x ≡ get_or pieces i x → piece ≡ bytes x → flat_map bytes (drop i pieces) ≡ piece ++ flat_map bytes (drop (i + 1) pieces)
pieces_next bytes pieces i x piece lt is e = pieces_suc bytes pieces i x piece lt is e ∙ ap (λ (k : ℕ). piece ++ flat_map bytes (drop k pieces)) (sym (add-one i))

pub pieces_over : {A : Type 0} (bytes : A → List ℕ) (pieces : List A) (i : ℕ) → length pieces ≤ i → flat_map bytes (drop i pieces) ≡ []
pieces_over bytes pieces i le = ap (flat_map bytes) (drop_of_length-le pieces le)

pub whole_over : {A : Type 0} (bytes : A → List ℕ) (pieces : List A) (i : ℕ) (frames : List Frame) (s : State) (all : Stream) → length pieces ≤ i → with_front frames (remaining (fed s (flat_map bytes (drop i pieces)))) ≡ all → with_front frames (remaining (fed s [])) ≡ all
whole_over bytes pieces i frames s all le e = ap (λ (l : List ℕ). with_front frames (remaining (fed s l))) (sym (pieces_over bytes pieces i le)) ∙ e

-- ---- pieces without bytes

front_empty : (a b : List ℕ) → a ++ b ≡ [] → a ≡ []
front_empty [] b e = refl
front_empty (x ∷ a) b e = absurd cc

drop_empty : {A : Type 0} (bytes : A → List ℕ) (pieces : List A) (i : ℕ) → flat_map bytes pieces ≡ [] → flat_map bytes (drop i pieces) ≡ []
drop_empty bytes pieces zero e = e
drop_empty bytes [] (suc i) e = e
drop_empty bytes (y ∷ pieces) (suc i) e = drop_empty bytes pieces i (ap (λ (l : List ℕ). l ++ flat_map bytes pieces) (sym (front_empty (bytes y) (flat_map bytes pieces) e)) ∙ e)

pub piece_empty : {A : Type 0} (bytes : A → List ℕ) (pieces : List A) (i : ℕ) (piece rest : List ℕ) → flat_map bytes (drop i pieces) ≡ piece ++ rest → flat_map bytes pieces ≡ [] → piece ≡ []
piece_empty bytes pieces i piece rest next e = front_empty piece rest (sym next ∙ drop_empty bytes pieces i e)

grown_empty : (rest piece : List ℕ) (fault : Option FrameFault) → rest ≡ [] → piece ≡ [] → grown rest piece fault ≡ []
grown_empty rest piece None e p = ap (λ (l : List ℕ). l ++ piece) e ∙ p
grown_empty rest piece (Some f) e p = e

pub fed_empty : (s t : State) (piece : List ℕ) → t ≡ fed s piece → s.rest ≡ [] → piece ≡ [] → t.rest ≡ []
fed_empty s t piece is e p = ap (λ (u : State). u.rest) is ∙ grown_empty s.rest piece s.fault e p

pub stays_empty : (old new : List ℕ) → length new ≤ length old → old ≡ [] → new ≡ []
stays_empty old [] le e = refl
stays_empty old (x ∷ new) le e = absurd (omega (arith, le, ap length e))
