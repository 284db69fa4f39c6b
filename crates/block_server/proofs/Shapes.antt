-- Names whose shape is refused, before anything is allocated.
use Rattle.std.proofs.Common.{◌≡◌, Bool, true, false, List, [], ◌∷◌, refl, sym, ap, ◌∙◌, ◌⊎◌, inl, inr}
use Rattle.std.specs.Prelude.{ℕ, cond, find, is_some, IfSome, IsSome, Option, None, Some}
use Rattle.std.specs.Option.{option_or}
use Rattle.std.proofs.lemmas.Bool.{true≢false}
use Rattle.std.proofs.lemmas.List.Folds.{find-append}
use Rattle.std.proofs.lemmas.Option.{none-some}
use Rattle.bep_messages.specs.declared.request.Request.{Request}
use Rattle.sync_names.specs.declared.fault.NameFault.{NameFault}
use Rattle.sync_names.specs.declared.fault.NameFault.TheVariants.{Empty, Absolute, BadComponent, Nul, NotNfc, Internal, OutOfMemory}
use Rattle.sync_names.specs.Refusal.{refusal, refuses, shape_refusal, shape_tests}
use Rattle.sync_record.specs.Records.{FileRecord}
use Rattle.block_server.specs.declared.code.Code.TheVariants.{NoSuchFile, InvalidFile}
use Rattle.block_server.specs.Served.{record_refuses, refused}

no-memory : (a b c d : Bool) → cond a (Some Empty) (cond b (Some Absolute) (cond c (Some Nul) (cond d (Some BadComponent) None))) ≡ Some OutOfMemory → ⊥
no-memory true b c d e = cc
no-memory false true c d e = cc
no-memory false false true d e = cc
no-memory false false false true e = cc
no-memory false false false false e = cc

pub shape-memory : (text : List ℕ) → shape_refusal text ≡ Some OutOfMemory → ⊥
unfolding shape_refusal
shape-memory text e = no-memory (refuses Empty text) (refuses Absolute text) (refuses Nul text) (refuses BadComponent text) e

refused-first : (text : List ℕ) → refusal text ≡ option_or (shape_refusal text) (find (λ fault. refuses fault text) (NotNfc ∷ Internal ∷ []))
unfolding refusal shape_refusal
refused-first text = find-append (λ fault. refuses fault text) shape_tests (NotNfc ∷ Internal ∷ [])

shape-some : (o p : Option NameFault) → IsSome o → is_some (option_or o p) ≡ true
shape-some (Some fault) p some = refl
shape-some None p some = absurd (true≢false (sym some))

-- a request of such a name, or of a temporary file, is refused
pub early-refused : (q : Request) (r : Option FileRecord) → (q.from_temporary ≡ true) ⊎ IsSome (shape_refusal q.name) → refused q r ≡ None → ⊥
early-refused q r (inl t) e =
    none-some NoSuchFile (sym e ∙ ap (λ b. cond b (Some NoSuchFile) (cond (is_some (refusal q.name)) (Some InvalidFile) (record_refuses q r))) t)
early-refused q r (inr some) e = by q.from_temporary e
  where
    unsafe : is_some (refusal q.name) ≡ true
    unsafe = ap is_some (refused-first q.name) ∙ shape-some (shape_refusal q.name) (find (λ fault. refuses fault q.name) (NotNfc ∷ Internal ∷ [])) some

    by : (b : Bool) → cond b (Some NoSuchFile) (cond (is_some (refusal q.name)) (Some InvalidFile) (record_refuses q r)) ≡ None → ⊥
    by true f = none-some NoSuchFile (sym f)
    by false f = none-some InvalidFile (sym f ∙ ap (λ b. cond b (Some InvalidFile) (record_refuses q r)) unsafe)

-- the shape's refusal is what was answered, so it is not out of memory
pub answered-memory : (o : Option NameFault) → (o ≡ Some OutOfMemory → ⊥) → (P : NameFault → Type 0) → ((fault : NameFault) → P fault → fault ≡ OutOfMemory) → IsSome o → IfSome o P → ⊥
answered-memory None none P is some told = absurd (true≢false (sym some))
answered-memory (Some fault) none P is some told = none (ap Some (is fault told))
