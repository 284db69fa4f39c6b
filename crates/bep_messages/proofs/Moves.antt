-- A head that is put before its content.
use Rattle.std.proofs.Common.{◌≡◌, ℕ, ◌+◌, ◌*◌, ◌-◌, ◌≤◌, List, [], ◌++◌, length, take, drop, refl, sym, ap, ◌∙◌, append_assoc, arith}
use Rattle.std.proofs.lemmas.List.{drop-take, drop-drop, take_rest, drop_all, append-nil, length-drop, take-append-le, drop-append-le, length-take-le, take_all}
use Rattle.std.proofs.Math.Seq.{drop-append_seam, take-append_seam}
use borrow.Rule.Slice.PartMut.{put_mid}
use Rattle.bep_wire.specs.Written.{shortest, bytes_field}

-- the parts of a list after a place: up to another place, and from it on
pub turned : (bytes : List ℕ) (begin end : ℕ) → begin ≤ end → end ≤ length bytes → (new : List ℕ)
    → (let part = take (length bytes - begin) (drop begin bytes) in let n = length part - (length bytes - end) in new ≡ drop n part ++ take n part)
    → put_mid begin (length bytes - begin) bytes new ≡ take begin bytes ++ (drop end bytes ++ drop begin (take end bytes))
turned bytes begin end order within new e =
    let part : take (length bytes - begin) (drop begin bytes) ≡ drop begin bytes = take_rest bytes begin in
    let n : length (drop begin bytes) - (length bytes - end) ≡ end - begin = omega (arith, length-drop begin bytes) in
    let back : drop (end - begin) (drop begin bytes) ≡ drop end bytes =
    drop-drop (end - begin) begin bytes ∙ ap (λ (k : ℕ). drop k bytes) (sum begin end order) in
    let front : take (end - begin) (drop begin bytes) ≡ drop begin (take end bytes) =
    sym (drop-take begin (end - begin) bytes) ∙ ap (λ (k : ℕ). drop begin (take k bytes)) (sum begin end order) in
    let none : drop (length bytes - begin) (drop begin bytes) ≡ [] = drop_all (length bytes - begin) (drop begin bytes) (omega (arith, length-drop begin bytes)) in
    let made : new ≡ drop end bytes ++ drop begin (take end bytes) = e ∙ rw (part, n, back, front) refl in
    rw (none, append-nil) (ap (λ (l : List ℕ). take begin bytes ++ l) made)
  where
    sum : (a b : ℕ) → a ≤ b → a + (b - a) ≡ b
    sum a b le = omega arith

-- with a head at the end, turned before what is there from a place on: seen from where the writing began
pub headed : (items head new : List ℕ) (start from : ℕ) → start + from ≤ length items
    → new ≡ take (start + from) (items ++ head) ++ (drop (length items) (items ++ head) ++ drop (start + from) (take (length items) (items ++ head)))
    → drop start new ≡ take from (drop start items) ++ (head ++ drop from (drop start items))
headed items head new start from within e =
    let first : take (start + from) (items ++ head) ≡ take (start + from) items = take-append-le (start + from) items head within in
    let second : drop (length items) (items ++ head) ≡ head = drop-append_seam items head in
    let third : take (length items) (items ++ head) ≡ items = take-append_seam items head in
    let made : new ≡ take (start + from) items ++ (head ++ drop (start + from) items) = e ∙ rw (first, second, third) refl in
    let long : start ≤ length (take (start + from) items) = omega (arith, length-take-le (start + from) items within) in
    ap (drop start) made
    ∙ drop-append-le start (take (start + from) items) (head ++ drop (start + from) items) long
    ∙ ap (λ (l : List ℕ). l ++ (head ++ drop (start + from) items)) (drop-take start from items)
    ∙ ap (λ (l : List ℕ). take from (drop start items) ++ (head ++ l)) (sym (drop-drop from start items))

-- a slice of a whole vector that was written: the vector's items after it
pub written_back : (items new : List ℕ) (len : ℕ) → length new ≡ length items → len ≡ length items → take len (new ++ drop (length new) items) ≡ new
written_back items new len same e =
    let none : drop (length new) items ≡ [] = drop_all (length new) items (omega arith) in
    rw (none, append-nil) (take_all len new (omega arith))

pub as_field : (number len : ℕ) (front bytes : List ℕ) → len ≡ length bytes → front ++ ((shortest (8 * number + 2) ++ shortest len) ++ bytes) ≡ front ++ bytes_field number bytes
as_field number len front bytes e = rw e (ap (λ (l : List ℕ). front ++ l) (append_assoc (shortest (8 * number + 2)) (shortest (length bytes)) bytes))
