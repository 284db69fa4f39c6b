-- What was taken of the seats, once they were taken in and the queue was empty.
use Rattle.std.proofs.Common.{◌≡◌, ℕ, ◌<◌, List, ◌∷◌, ◌++◌, length, Result, Ok, Err, sym, ap, subst, ◌∙◌}
use Rattle.std.specs.Prelude.{OnOk, IsErrOf}
use Rattle.bep_frames.specs.declared.fault.WriteFault.{WriteFault}
use Rattle.bep_frames.specs.Grammar.{max_message_bytes}
use Rattle.bep_frames.specs.Written.{body_of, message_frame}
use Rattle.bep_frames.specs.declared.frame.Message.{Message}
use Rattle.peer_conn.specs.declared.ends.Taker.{Taker}
use Rattle.peer_conn.specs.declared.known.SeatName.TheVariants.{Indexer, Server, Requester}
use Rattle.peer_conn.specs.declared.known.Account.{Account}
use Rattle.peer_conn.specs.Rule.{account}
use Rattle.peer_conn.specs.Words.{taken_of, ended_of, IsWhole}
use Rattle.peer_conn.specs.Sending.{IsAll, data_of}
use Rattle.peer_conn.proofs.Told.{whole_all}

pub all_sent : {X E : Type 0} (r : Result X E) (t : Taker Message) (rest : List (Account Message)) (a b c : List Message) → ended_of t ≡ account Requester c ∷ account Server b ∷ account Indexer a ∷ rest
    → OnOk r (IsWhole t) → OnOk r (IsAll (taken_of t) a b c)
all_sent (Ok x) t rest a b c is whole =
    let w = whole_all (taken_of t) (ended_of t) rest a b c is whole in record { indexer_is = w.0; server_is = w.1; requester_is = w.2 }
all_sent (Err e) t rest a b c is whole = tt

-- ---- a message that was matched

pub front_as : (old new : List ℕ) (m x : Message) → m ≡ x → new ++ data_of x ≡ old ++ message_frame x → new ++ data_of m ≡ old ++ message_frame m
front_as old new m x e is = subst (λ m. new ++ data_of m ≡ old ++ message_frame m) (sym e) is

pub long_as : (P : Type 0) (m x : Message) → m ≡ x → (P → max_message_bytes < length (body_of x)) → P → max_message_bytes < length (body_of m)
long_as P m x e is = subst (λ m. P → max_message_bytes < length (body_of m)) (sym e) is

-- an error, of another type of values
as_err : {T U : Type 0} → WriteFault → Result T WriteFault → Result U WriteFault
as_err other (Ok t) = Err other
as_err other (Err e) = Err e

pub err_as : {T U : Type 0} (r : Result T WriteFault) (s : Result U WriteFault) (e f why : WriteFault) → r ≡ Err e → e ≡ f → s ≡ Err f → IsErrOf r why → IsErrOf s why
unfolding as_err
err_as r s e f why re ef sf is = sf ∙ ap (as_err f) (sym (re ∙ ap Err ef) ∙ is)
