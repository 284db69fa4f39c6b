-- Fields whose number has no row.
use Rattle.std.proofs.Common.{◌≡◌, ℕ, ◌<◌, ◌≤◌, Bool, true, false, ltb, ◌&&◌, ◌==◌, List, [], ◌∷◌, ◌++◌, Option, None, Some, refl, sym, ap, ◌∙◌, arith, inl, inr, if◌then◌else◌}
use Rattle.std.proofs.lemmas.Bool.{cases_eq, eq-eqb, ne_eqb, ltb-true, leb-true}
use Rattle.bep_wire.specs.declared.field.TheConstants.{MAX_FIELD_NUMBER}
use Rattle.bep_wire.specs.Content.{Item}
use Rattle.bep_messages.specs.declared.fault.MessageFault.{MessageFault}
use Rattle.bep_messages.specs.Tables.{Table, End, One, Message, Texts, Messages, rises}
use Rattle.bep_messages.specs.Faults.{or_else, first_fault, item_fault, bytes_fault, scalar_fault, text_fault, message_fault}

-- the parts of a test that holds
pub both : (a b : Bool) → (a && b) ≡ true → (a ≡ true) × (b ≡ true)
both true b e = (refl, e)
both false b e = absurd cc

pub below : (a b : ℕ) → ltb a b ≡ true → a < b
below a b e = ltb-true a b e

pub record Rises (before number : ℕ) (rows : Table) : Type 0 where
  pub above : before < number
  pub rows_rise : rises number rows ≡ true

pub record RisesWithin (before number : ℕ) (inner rows : Table) : Type 0 where
  pub above : before < number
  pub inner_rises : rises 0 inner ≡ true
  pub rows_rise : rises number rows ≡ true

pub rising : (before number : ℕ) (rows : Table) → (ltb before number && rises number rows) ≡ true → Rises before number rows
rising before number rows e =
    let p = both (ltb before number) (rises number rows) e in
    record { above = below before number p.0; rows_rise = p.1 }

pub rising_within : (before number : ℕ) (inner rows : Table) → ((ltb before number && rises 0 inner) && rises number rows) ≡ true → RisesWithin before number inner rows
rising_within before number inner rows e =
    let p = both (ltb before number && rises 0 inner) (rises number rows) e in
    let q = both (ltb before number) (rises 0 inner) p.0 in
    record { above = below before number q.0; inner_rises = q.1; rows_rise = p.1 }

-- no number of a table is above the greatest
pub top : (before : ℕ) (table : Table) → rises before table ≡ true → before ≤ MAX_FIELD_NUMBER
top before End e = leb-true before MAX_FIELD_NUMBER e
top before (One number kind rows) e = let r = rising before number rows e in let t = top number rows r.rows_rise in omega (arith, r.above, t)
top before (Message number inner rows) e = let r = rising_within before number inner rows e in let t = top number rows r.rows_rise in omega (arith, r.above, t)
top before (Texts number rows) e = let r = rising before number rows e in let t = top number rows r.rows_rise in omega (arith, r.above, t)
top before (Messages number inner rows) e = let r = rising_within before number inner rows e in let t = top number rows r.rows_rise in omega (arith, r.above, t)

-- ---- a row for another number

pub skip : {A : Type 0} (n m : ℕ) (x y : A) → (n ≡ m → ⊥) → (if n == m then x else y) ≡ y
skip n m x y other = let t = ne_eqb n m other in rw t refl

pub here : {A : Type 0} (n m : ℕ) (x y : A) → n ≡ m → (if n == m then x else y) ≡ x
here n m x y same = let t = eq-eqb n m same in rw t refl

-- a number up to which a table has none has no fault in it
pub absent_fault : (before : ℕ) (table : Table) (i : Item) → rises before table ≡ true → i.number ≤ before → item_fault table i ≡ None
absent_fault before End i e le = refl
absent_fault before (One number kind rows) i e le =
    let r = rising before number rows e in
    skip number i.number (scalar_fault kind i.content) (item_fault rows i) (λ same. omega (arith, same, r.above)) ∙ absent_fault number rows i r.rows_rise (omega (arith, r.above))
absent_fault before (Message number inner rows) i e le =
    let r = rising_within before number inner rows e in
    skip number i.number (bytes_fault (message_fault inner) i.content) (item_fault rows i) (λ same. omega (arith, same, r.above)) ∙ absent_fault number rows i r.rows_rise (omega (arith, r.above))
absent_fault before (Texts number rows) i e le =
    let r = rising before number rows e in
    skip number i.number (bytes_fault text_fault i.content) (item_fault rows i) (λ same. omega (arith, same, r.above)) ∙ absent_fault number rows i r.rows_rise (omega (arith, r.above))
absent_fault before (Messages number inner rows) i e le =
    let r = rising_within before number inner rows e in
    skip number i.number (bytes_fault (message_fault inner) i.content) (item_fault rows i) (λ same. omega (arith, same, r.above)) ∙ absent_fault number rows i r.rows_rise (omega (arith, r.above))

-- ---- fields without a fault

pub no_first : (a b : Option MessageFault) → or_else a b ≡ None → (a ≡ None) × (b ≡ None)
no_first None b e = (refl, e)
no_first (Some f) b e = absurd cc

pub none_then : (a b : Option MessageFault) → a ≡ None → b ≡ None → or_else a b ≡ None
none_then a b p q = ap (λ (o : Option MessageFault). or_else o b) p ∙ q

-- fields none of which has a fault
abbrev pub AreFine : (Item → Option MessageFault) → List Item → Type 0
AreFine fault items = first_fault fault items None ≡ None

pub fine_then : (fault : Item → Option MessageFault) (xs ys : List Item) → AreFine fault xs → AreFine fault ys → AreFine fault (xs ++ ys)
fine_then fault [] ys p q = q
fine_then fault (x ∷ xs) ys p q =
    let h = no_first (fault x) (first_fault fault xs None) p in
    none_then (fault x) (first_fault fault (xs ++ ys) None) h.0 (fine_then fault xs ys h.1 q)

-- fields that are fine by a row and those after it are fine by those alone, if these have other numbers
pub fine_after : (fault : Item → Option MessageFault) (number : ℕ) (rows : Table) (items : List Item) → rises number rows ≡ true
    → AreFine (λ i. if number == i.number then fault i else item_fault rows i) items → AreFine (item_fault rows) items
fine_after fault number rows [] e fine = refl
fine_after fault number rows (i ∷ items) e fine =
    let h = no_first (if number == i.number then fault i else item_fault rows i) _ fine in
    let one : item_fault rows i ≡ None =
    elim (cases_eq number i.number) [
      | inl same ↦ absent_fault number rows i e (omega (arith, same))
      | inr other ↦ sym (skip number i.number (fault i) (item_fault rows i) other) ∙ h.0
    ] in
    none_then (item_fault rows i) _ one (fine_after fault number rows items e h.1)
