use Rattle.std.proofs.Common.{◌≡◌, ◌∙◌, ℕ, Bool, true, false, ◌&&◌, ◌==◌, ap, sym}
use Rattle.std.specs.Bool.{beq}
use Rattle.std.specs.Ordering.{int_eq}
use Rattle.std.proofs.Math.Bool.{and_assoc}
use Rattle.sync_record.specs.declared.fields.Plain.{Plain}
use Rattle.sync_record.specs.Records.{FileRecord}
use Rattle.sync_record.specs.Same.{same_numbers}
use Rattle.sync_record.proofs.same.same_numbers.Goals as goal

-- the derived comparison
abbrev same_plain : Plain → Plain → Bool
same_plain a b =
    int_eq a.type_number b.type_number
    && (int_eq a.size b.size
    && ((a.permissions == b.permissions)
    && (int_eq a.modified_s b.modified_s
    && (int_eq a.modified_ns b.modified_ns
    && ((a.modified_by == b.modified_by)
    && (beq a.deleted b.deleted && (beq a.invalid b.invalid && (beq a.no_permissions b.no_permissions && int_eq a.block_size b.block_size))))))))

-- the order of the `&&` is free
regroup : (a b c d e f g h i j k : Bool)
    → ((a && (b && (c && (d && (e && (f && (g && (h && (i && j))))))))) && k) ≡ (a && b && c && d && e && f && g && h && i && j && k)
regroup a b c d e f g h i j k = simp and_assoc

with_numbers : FileRecord → Plain → ℕ → FileRecord
with_numbers r p sequence = record r {
  type_number = p.type_number;
  size = p.size;
  permissions = p.permissions;
  modified_s = p.modified_s;
  modified_ns = p.modified_ns;
  modified_by = p.modified_by;
  deleted = p.deleted;
  invalid = p.invalid;
  no_permissions = p.no_permissions;
  block_size = p.block_size;
  sequence = sequence;
}

same_at : (a b : FileRecord) (p q : Plain) (m n : ℕ)
    → (same_plain p q && (m == n)) ≡ same_numbers (with_numbers a p m) (with_numbers b q n)
unfolding with_numbers
same_at a b p q m n =
    regroup (int_eq p.type_number q.type_number) (int_eq p.size q.size) (p.permissions == q.permissions)
    (int_eq p.modified_s q.modified_s) (int_eq p.modified_ns q.modified_ns) (p.modified_by == q.modified_by)
    (beq p.deleted q.deleted) (beq p.invalid q.invalid) (beq p.no_permissions q.no_permissions)
    (int_eq p.block_size q.block_size) (m == n)

first_true : (p q : Bool) → p ≡ true → q ≡ (p && q)
first_true p q h = ap (λ t. t && q) (sym h)

first_false : (p q : Bool) → p ≡ false → false ≡ (p && q)
first_false p q h = ap (λ t. t && q) (sym h)

pub returns-then-eq : goal.returns-then-eq
unfolding with_numbers
returns-then-eq c =
    let a = ap (λ (f : FileRecord). record f { sequence = c.a.inside.sequence }) (c.behind-a.view_is ∙ c.deref.ensures) ∙ c.a.view_is in
    let b = ap (λ (f : FileRecord). record f { sequence = c.b.inside.sequence }) (c.behind-b.view_is ∙ c.deref-2.ensures) ∙ c.b.view_is in
    first_true (same_plain c.behind-a.inside.plain c.behind-b.inside.plain) (c.a.inside.sequence == c.b.inside.sequence) (sym c.eq.ensures ∙ c.if-eq.true)
    ∙ same_at c.args.a.now c.args.b.now c.behind-a.inside.plain c.behind-b.inside.plain c.a.inside.sequence c.b.inside.sequence
    ∙ (λ i. same_numbers (a i) (b i))

pub returns-else-eq : goal.returns-else-eq
unfolding with_numbers
returns-else-eq c =
    let a = ap (λ (f : FileRecord). record f { sequence = c.a.inside.sequence }) (c.behind-a.view_is ∙ c.deref.ensures) ∙ c.a.view_is in
    let b = ap (λ (f : FileRecord). record f { sequence = c.b.inside.sequence }) (c.behind-b.view_is ∙ c.deref-2.ensures) ∙ c.b.view_is in
    c.if-eq.false
    ∙ first_false (same_plain c.behind-a.inside.plain c.behind-b.inside.plain) (c.a.inside.sequence == c.b.inside.sequence) (sym c.eq.ensures ∙ c.if-eq.false)
    ∙ same_at c.args.a.now c.args.b.now c.behind-a.inside.plain c.behind-b.inside.plain c.a.inside.sequence c.b.inside.sequence
    ∙ (λ i. same_numbers (a i) (b i))
