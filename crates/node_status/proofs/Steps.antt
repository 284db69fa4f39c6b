-- Lists that calls append to one after another.
use Rattle.std.proofs.Common.{◌≡◌, List, ◌++◌, Result, Ok, Err, OnOk, is_ok, if◌then◌else◌, ap, ◌∙◌, append_assoc}

-- two calls
pub both : {A : Type 0} (old mid new a b : List A) → mid ≡ old ++ a → new ≡ mid ++ b → new ≡ old ++ (a ++ b)
both old mid new a b e f = f ∙ ap (λ v. v ++ b) e ∙ append_assoc old a b

-- the last call, which may fail
pub last : {A X E : Type 0} (r : Result X E) (old mid new a b : List A) → mid ≡ old ++ a → OnOk r (new ≡ mid ++ b) → OnOk r (new ≡ old ++ (a ++ b))
last (Ok _) old mid new a b e f = both old mid new a b e f
last (Err _) old mid new a b e f = tt

-- the same, by what a push of a text says
pub last_text : {A X E : Type 0} (r : Result X E) (old mid new a b : List A) → mid ≡ old ++ a → new ≡ (if is_ok r then mid ++ b else mid) → OnOk r (new ≡ old ++ (a ++ b))
last_text (Ok _) old mid new a b e f = both old mid new a b e f
last_text (Err _) old mid new a b e f = tt
