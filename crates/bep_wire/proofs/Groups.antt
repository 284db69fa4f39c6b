-- A varint that is read group by group.
use Rattle.std.proofs.Common.{◌≡◌, ℕ, suc, ◌+◌, ◌-◌, ◌*◌, ◌^◌, ◌%◌, ◌<◌, ◌≤◌, List, length, get_or, drop, Result, Ok, Err, refl, sym, ap, ◌∙◌, arith, add-one}
use Rattle.std.proofs.Math.Nat.{add-mod-mod, mod-add-mod}
use Rattle.std.proofs.Math.Seq.{drop-cons}
use Rattle.std.proofs.Math.ListN.{drop_of_length-le}
use Rattle.std.proofs.lemmas.Nat.{pow-add}
use Rattle.std.proofs.lemmas.Bool.{lt-ltb, le-ltb}
use Rattle.bep_wire.specs.declared.fault.WireFault.{WireFault}
use Rattle.bep_wire.specs.declared.fault.WireFault.TheVariants.{Truncated, LongVarint}
use Rattle.bep_wire.specs.Reading.{◌>>=◌, groups_at, varint_at}

-- what was read before, and what is still read
abbrev pub with_low : ℕ → ℕ → Result (ℕ × List ℕ) WireFault → Result (ℕ × List ℕ) WireFault
with_low low turn read = read >>= λ x. Ok ((low + 2 ^ (7 * turn) * x.0) % 2 ^ 64, x.1)

scale_more : (turn : ℕ) → 2 ^ (7 * (turn + 1)) ≡ 2 ^ (7 * turn) * 128
scale_more turn =
    let e : 7 * (turn + 1) ≡ 7 * turn + 7 = omega arith in
    rw e (pow-add 2 (7 * turn) 7)

sum_more : (low b scale x : ℕ) → (low + scale * (b % 128 + 128 * x)) % 2 ^ 64 ≡ ((low + b % 128 * scale % 2 ^ 64) % 2 ^ 64 + scale * 128 * x) % 2 ^ 64
sum_more low b scale x =
    let e : low + scale * (b % 128 + 128 * x) ≡ low + b % 128 * scale + scale * 128 * x = grind arith in
    let f = mod-add-mod (low + b % 128 * scale % 2 ^ 64) (2 ^ 64) (scale * 128 * x) in
    let g : low + b % 128 * scale % 2 ^ 64 + scale * 128 * x ≡ low + scale * 128 * x + b % 128 * scale % 2 ^ 64 = omega arith in
    let h = add-mod-mod (low + scale * 128 * x) (b % 128 * scale) (2 ^ 64) in
    let k : low + scale * 128 * x + b % 128 * scale ≡ low + b % 128 * scale + scale * 128 * x = omega arith in
    cc

pub starts : (read : Result (ℕ × List ℕ) WireFault) → with_low 0 0 read ≡ (read >>= λ x. Ok (x.0 % 2 ^ 64, x.1))
starts (Ok x) = let e : 0 + 1 * x.0 ≡ x.0 = omega arith in rw e refl
starts (Err f) = refl

pub varint_starts : (bytes : List ℕ) → with_low 0 0 (groups_at 10 bytes) ≡ varint_at bytes
unfolding varint_at
varint_starts bytes = starts (groups_at 10 bytes)

next : (low turn b : ℕ) (read : Result (ℕ × List ℕ) WireFault)
    → with_low low turn (read >>= λ x. Ok (b % 128 + 128 * x.0, x.1)) ≡ with_low ((low + b % 128 * 2 ^ (7 * turn) % 2 ^ 64) % 2 ^ 64) (turn + 1) read
next low turn b (Ok x) = rw (scale_more turn) (ap (λ (n : ℕ). Ok (n, x.1)) (sum_more low b (2 ^ (7 * turn)) x.0))
next low turn b (Err f) = refl

pub goes_on : (low turn at : ℕ) (bytes : List ℕ) (total : Result (ℕ × List ℕ) WireFault) → turn < 10 → at < length bytes → 128 ≤ get_or bytes at 0
    → with_low low turn (groups_at (10 - turn) (drop at bytes)) ≡ total
    → with_low ((low + get_or bytes at 0 % 128 * 2 ^ (7 * turn) % 2 ^ 64) % 2 ^ 64) (turn + 1) (groups_at (10 - (turn + 1)) (drop (at + 1) bytes)) ≡ total
unfolding groups_at
goes_on low turn at bytes total lt within high so_far =
    let k : 10 - turn ≡ suc (10 - (turn + 1)) = omega arith in
    let front = drop-cons bytes at 0 within in
    let one = add-one at in
    let test = le-ltb (get_or bytes at 0) 128 high in
    let step : with_low low turn (groups_at (10 - turn) (drop at bytes)) ≡ with_low ((low + get_or bytes at 0 % 128 * 2 ^ (7 * turn) % 2 ^ 64) % 2 ^ 64) (turn + 1) (groups_at (10 - (turn + 1)) (drop (at + 1) bytes))
    = rw (k, front, test, one) (next low turn (get_or bytes at 0) (groups_at (10 - (turn + 1)) (drop (suc at) bytes))) in
    sym step ∙ so_far

pub ends : (low turn at : ℕ) (bytes : List ℕ) (total : Result (ℕ × List ℕ) WireFault) → turn < 10 → at < length bytes → get_or bytes at 0 < 128
    → with_low low turn (groups_at (10 - turn) (drop at bytes)) ≡ total
    → total ≡ Ok ((low + get_or bytes at 0 % 128 * 2 ^ (7 * turn) % 2 ^ 64) % 2 ^ 64, drop (at + 1) bytes)
unfolding groups_at
ends low turn at bytes total lt within last so_far =
    let k : 10 - turn ≡ suc (10 - (turn + 1)) = omega arith in
    let front = drop-cons bytes at 0 within in
    let one = add-one at in
    let test = lt-ltb (get_or bytes at 0) 128 last in
    let flip : 2 ^ (7 * turn) * (get_or bytes at 0 % 128) ≡ get_or bytes at 0 % 128 * 2 ^ (7 * turn) = grind arith in
    let step : with_low low turn (groups_at (10 - turn) (drop at bytes)) ≡ Ok ((low + get_or bytes at 0 % 128 * 2 ^ (7 * turn) % 2 ^ 64) % 2 ^ 64, drop (at + 1) bytes)
    = rw (k, front, test, one, add-mod-mod low (get_or bytes at 0 % 128 * 2 ^ (7 * turn)) (2 ^ 64), flip) refl in
    sym so_far ∙ step

-- a varint of one byte is that byte
pub ends_at_once : (at : ℕ) (bytes : List ℕ) → at < length bytes → get_or bytes at 0 < 128 → varint_at (drop at bytes) ≡ Ok (get_or bytes at 0, drop (at + 1) bytes)
ends_at_once at bytes within last =
    let value : (0 + get_or bytes at 0 % 128 * 2 ^ (7 * 0) % 2 ^ 64) % 2 ^ 64 ≡ get_or bytes at 0 = omega (arith, last) in
    ends 0 0 at bytes _ (omega arith) within last (varint_starts (drop at bytes)) ∙ ap (λ (n : ℕ). Ok (n, drop (at + 1) bytes)) value

pub stops : (low turn at : ℕ) (bytes : List ℕ) (total : Result (ℕ × List ℕ) WireFault) → turn < 10 → length bytes ≤ at
    → with_low low turn (groups_at (10 - turn) (drop at bytes)) ≡ total → total ≡ Err Truncated
unfolding groups_at
stops low turn at bytes total lt past so_far =
    let k : 10 - turn ≡ suc (10 - (turn + 1)) = omega arith in
    let none = drop_of_length-le bytes past in
    let step : with_low low turn (groups_at (10 - turn) (drop at bytes)) ≡ Err Truncated = rw (k, none) refl in
    sym so_far ∙ step

pub is_long : (low turn at : ℕ) (bytes : List ℕ) (total : Result (ℕ × List ℕ) WireFault) → 10 ≤ turn
    → with_low low turn (groups_at (10 - turn) (drop at bytes)) ≡ total → total ≡ Err LongVarint
unfolding groups_at
is_long low turn at bytes total ge so_far =
    let k : 10 - turn ≡ 0 = omega arith in
    let step : with_low low turn (groups_at (10 - turn) (drop at bytes)) ≡ Err LongVarint = rw k refl in
    sym so_far ∙ step
