-- A message field by field, as a loop goes.
use Rattle.std.proofs.Common.{◌≡◌, ℕ, List, [], ◌∷◌, inl, inr, true, Option, Some, None, sym, ap, subst, ◌∙◌}
use Rattle.bep_wire.specs.declared.fault.WireFault.{WireFault}
use Rattle.bep_wire.specs.Content.{Item}
use Rattle.bep_wire.specs.Fields.{Fields, fields, ended, broken, first_then}
use Rattle.bep_messages.specs.declared.fault.MessageFault.{MessageFault}
use Rattle.bep_messages.specs.declared.fault.MessageFault.TheVariants.{Wire, NotUtf8, OutOfMemory}
use Rattle.bep_messages.specs.Tables.{Table, Values, rises}
use Rattle.bep_messages.specs.Faults.{first_fault, item_fault, or_else, message_fault, Reports}
use Rattle.bep_messages.specs.Memory.{ItemTakes, TakesMemory, SomeTakes}
use Rattle.bep_messages.specs.Values.{values}
use Rattle.bep_messages.proofs.Joins.{values-none, values-next}

-- the fault of these fields
abbrev of_fields : Table → Fields → Option MessageFault
of_fields table fs = first_fault (item_fault table) fs.items fs.fault

pub at_broken : (table : Table) (bytes : List ℕ) (f : WireFault) (total : Option MessageFault) → fields bytes ≡ broken f → message_fault table bytes ≡ total → total ≡ Some (Wire f)
at_broken table bytes f total e so_far = sym so_far ∙ ap (of_fields table) e

pub at_end : (table : Table) (bytes : List ℕ) (total : Option MessageFault) → fields bytes ≡ ended → message_fault table bytes ≡ total → total ≡ None
at_end table bytes total e so_far = sym so_far ∙ ap (of_fields table) e

at_field : (table : Table) (bytes rest : List ℕ) (i : Item) → fields bytes ≡ first_then i (fields rest) → message_fault table bytes ≡ or_else (item_fault table i) (message_fault table rest)
at_field table bytes rest i e = ap (of_fields table) e

pub goes_on : (table : Table) (bytes rest : List ℕ) (i : Item) (total : Option MessageFault) → fields bytes ≡ first_then i (fields rest) → item_fault table i ≡ None → message_fault table bytes ≡ total → message_fault table rest ≡ total
goes_on table bytes rest i total e fine so_far = sym (at_field table bytes rest i e ∙ ap (λ (o : Option MessageFault). or_else o (message_fault table rest)) fine) ∙ so_far

reports_first : (fault other total : Option MessageFault) (e : MessageFault) → total ≡ or_else fault other → Reports fault e → Reports total e
reports_first fault other total (Wire f) is h = is ∙ ap (λ (o : Option MessageFault). or_else o other) h
reports_first fault other total NotUtf8 is h = is ∙ ap (λ (o : Option MessageFault). or_else o other) h
reports_first fault other total OutOfMemory is h = tt

pub stops : (table : Table) (bytes rest : List ℕ) (i : Item) (total : Option MessageFault) (e : MessageFault) → fields bytes ≡ first_then i (fields rest) → Reports (item_fault table i) e → message_fault table bytes ≡ total → Reports total e
stops table bytes rest i total e is h so_far = reports_first (item_fault table i) (message_fault table rest) total e (sym so_far ∙ at_field table bytes rest i is) h

-- one of these fields takes memory
abbrev of_table : Table → Fields → Type 0
of_table table fs = SomeTakes (ItemTakes table) (item_fault table) fs.items

pub takes_here : (table : Table) (bytes rest : List ℕ) (i : Item) → fields bytes ≡ first_then i (fields rest) → ItemTakes table i → TakesMemory table bytes
takes_here table bytes rest i is takes = subst (of_table table) (sym is) (inl takes)

pub takes_later : (table : Table) (bytes rest : List ℕ) (i : Item) → fields bytes ≡ first_then i (fields rest) → item_fault table i ≡ None → TakesMemory table rest → TakesMemory table bytes
takes_later table bytes rest i is fine later = subst (of_table table) (sym is) (inr (fine, later))

pub values_go_on : (table : Table) → rises 0 table ≡ true → (old new : Values table) (bytes rest : List ℕ) (i : Item) (total : Values table)
    → fields bytes ≡ first_then i (fields rest) → item_fault table i ≡ None → new ≡ values table old (i ∷ []) → values table old (fields bytes).items ≡ total → values table new (fields rest).items ≡ total
values_go_on table e old new bytes rest i total is fine took so_far =
    ap (λ (v : Values table). values table v (fields rest).items) took ∙ values-next table e old i (fields rest).items fine
    ∙ sym (ap (λ (fs : Fields). values table old fs.items) is) ∙ so_far

pub values_end : (table : Table) (v : Values table) (bytes : List ℕ) (total : Values table) → fields bytes ≡ ended → values table v (fields bytes).items ≡ total → v ≡ total
values_end table v bytes total e so_far = sym (values-none table v) ∙ sym (ap (λ (fs : Fields). values table v fs.items) e) ∙ so_far
