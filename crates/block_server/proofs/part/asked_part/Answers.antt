use Rattle.std.proofs.Common.{◌≡◌, sym, subst, ◌∙◌, inl, inr}
use Rattle.std.specs.Prelude.{IfSome, Err, Result}
use Rattle.sync_names.specs.declared.fault.NameFault.{NameFault}
use Rattle.sync_names.specs.declared.fault.NameFault.TheVariants.{OutOfMemory}
use Rattle.sync_names.specs.Refusal.{shape_refusal}
use Rattle.std.proofs.lemmas.Bool.{true≢false}
use Rattle.block_server.proofs.Shapes.{answered-memory, shape-memory}
use Rattle.block_server.proofs.part.asked_part.Goals as goal

told-memory : {X : Type 0} (result : Result X NameFault) (one other : NameFault) → result ≡ Err one → result ≡ Err other → other ≡ OutOfMemory → one ≡ OutOfMemory
told-memory result one other told is memory = let same : one ≡ OutOfMemory = cc in same

pub returns-in-Err-OutOfMemory-clause-free : goal.returns-in-Err-OutOfMemory-clause-free
returns-in-Err-OutOfMemory-clause-free g c = λ early. absurd (elim early [
  | inl t ↦ true≢false (sym t ∙ c.if-request.false)
  | inr some ↦ answered-memory (shape_refusal c.args.request.now.name) (shape-memory c.args.request.now.name) (λ fault. c.parse.result ≡ Err fault)
      (λ fault told. let same : fault ≡ OutOfMemory = told-memory c.parse.result fault c.in-Err-OutOfMemory.field-0 told c.in-Err-OutOfMemory.is c.in-Err-OutOfMemory.field-0-is in same) some
      (subst (λ text. IfSome (shape_refusal text) (λ fault. c.parse.result ≡ Err fault)) c.as_str.ensures c.parse.ensures.shape)
])
