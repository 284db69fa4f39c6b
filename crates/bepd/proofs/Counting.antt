-- What counted readers read.
use Rattle.std.proofs.Common.{◌≡◌, ℕ, ◌+◌, ◌-◌, ◌≤◌, List, [], ◌++◌, length, take, drop, Option, Some, None, Result, Ok, Err, sym, ap, subst, ◌∙◌, arith, length-take-le}
use Rattle.std.proofs.KnownBytes.{Appends-kept, Appends-trans, Consumes-nil, Consumes-kept, Consumes-trans, Keeps-trans}
use Rattle.std.proofs.lemmas.List.{length-append, take-append-drop, take_rest}
use Rattle.std.proofs.Math.Seq.{take-add}
use Rattle.std.specs.Io.KnownBytes.{Appends, Consumes, Keeps, ReadConsumes, WriteAppends}
use Rattle.bepd.specs.Counts.{Input, Reads, WritesSome, count_more}

keeps_consumes : (a b c : Option (List ℕ)) (bytes : List ℕ) → Keeps a b → Consumes b c bytes → Consumes a c bytes
keeps_consumes None b c bytes k p = tt
keeps_consumes (Some xs) None c bytes k p = absurd k
keeps_consumes (Some xs) (Some ys) None bytes k p = absurd p
keeps_consumes (Some xs) (Some ys) (Some zs) bytes k p = sym k ∙ p

-- a read after reads that gave nothing
pub read_later : {E : Type 0} → (a b c : Option (List ℕ)) (r : Result ℕ E) (buffer : List ℕ) → Keeps a b → ReadConsumes b c r buffer → ReadConsumes a c r buffer
read_later a b c (Ok n) buffer k p = (keeps_consumes a b c (take n buffer) k p.0, p.1)
read_later a b c (Err e) buffer k p = Keeps-trans a b c k p

-- before the first read
pub reads_nothing : (a : Input) → Reads [] a a
reads_nothing a = record { taken = Consumes-nil a.left; counted = omega arith }

-- one more read
pub reads_more : (a b c : Input) (bytes : List ℕ) (count : ℕ) (buffer : List ℕ) → count ≤ length buffer → Consumes b.left c.left (take count buffer) → c.given ≡ count_more b.given count
    → Reads bytes a b → Reads (bytes ++ take count buffer) a c
reads_more a b c bytes count buffer fits taken given r =
    let piece = take count buffer in
    let size : length piece ≡ count = length-take-le count buffer fits in
    let sum : length (bytes ++ piece) ≡ length bytes + length piece = length-append bytes piece in
    record { taken = Consumes-trans a.left b.left c.left bytes piece r.taken taken; counted = omega (arith, size, sum, given, r.counted) }

-- a read that failed
pub reads_failed : (a b c : Input) (bytes : List ℕ) → Keeps b.left c.left → c.given ≡ b.given → Reads bytes a b → Reads bytes a c
reads_failed a b c bytes kept given r = record { taken = Consumes-kept a.left b.left c.left bytes r.taken kept; counted = given ∙ r.counted }

keeps_appends : (a b c : Option (List ℕ)) (bytes : List ℕ) → Keeps a b → Appends b c bytes → Appends a c bytes
keeps_appends None b c bytes k p = tt
keeps_appends (Some xs) None c bytes k p = absurd k
keeps_appends (Some xs) (Some ys) None bytes k p = absurd p
keeps_appends (Some xs) (Some ys) (Some zs) bytes k p = p ∙ ap (λ l. l ++ bytes) k

-- a write after writes that took nothing
pub write_later : {E : Type 0} → (a b c : Option (List ℕ)) (r : Result ℕ E) (bytes : List ℕ) → Keeps a b → WriteAppends b c r bytes → WriteAppends a c r bytes
write_later a b c (Ok n) bytes k p = keeps_appends a b c (take n bytes) k p
write_later a b c (Err e) bytes k p = Keeps-trans a b c k p

-- ---- what was written

-- a front was written, and nothing more
pub writes_kept : (a b c : Option (List ℕ)) (bytes : List ℕ) (at : ℕ) → Appends a b (take at bytes) → Keeps b c → WritesSome bytes a c
writes_kept a b c bytes at put kept = (take at bytes, drop at bytes, sym (take-append-drop at bytes), Appends-kept a b c (take at bytes) put kept)

-- and then the front of what was left
pub appends_more : (a b c : Option (List ℕ)) (bytes : List ℕ) (at count : ℕ) → Appends a b (take at bytes) → Appends b c (take count (take (length bytes - at) (drop at bytes)))
    → Appends a c (take (at + count) bytes)
appends_more a b c bytes at count put more =
    let piece = take count (drop at bytes) in
    let last : Appends b c piece = subst (λ l. Appends b c (take count l)) (take_rest bytes at) more in
    subst (Appends a c) (sym (take-add at count bytes)) (Appends-trans a b c (take at bytes) piece put last)

pub writes_more : (a b c : Option (List ℕ)) (bytes : List ℕ) (at count : ℕ) → Appends a b (take at bytes) → Appends b c (take count (take (length bytes - at) (drop at bytes)))
    → WritesSome bytes a c
writes_more a b c bytes at count put more = (take (at + count) bytes, drop (at + count) bytes, sym (take-append-drop (at + count) bytes), appends_more a b c bytes at count put more)
