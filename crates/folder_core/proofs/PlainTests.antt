-- The first test of a call that holds is its answer.
use Rattle.std.proofs.Common.{◌≡◌, Bool, true, false, List, [], ◌∷◌, refl, sym, ap, ◌∙◌}
use Rattle.std.specs.Prelude.{cond, not, Option, Some, None, is_some}
use Rattle.std.proofs.lemmas.Bool.{true≢false}
use Rattle.folder_core.specs.PlainScans.{first_of}
use Rattle.folder_core.specs.States.{FolderState}
use Rattle.folder_core.specs.declared.answer.Answer.{Answer}
use Rattle.folder_core.specs.Steps.{first_answer, is_accepted}
use Rattle.folder_core.proofs.ListTests.{by_or, inside}

pub first-none : (s : FolderState) (ts : List (Bool × Answer)) (made : Answer × FolderState) → None ≡ first_of ts → first_answer s ts made ≡ made
first-none s [] made e = refl
first-none s (t ∷ ts) made e =
    by_or t.0 (first_answer s (t ∷ ts) made ≡ made)
    (λ is. absurd (let f : None ≡ Some t.1 = e ∙ ap (λ b. cond b (Some t.1) (first_of ts)) is in cc))
    (λ is. ap (λ b. cond b (t.1, s) (first_answer s ts made)) is ∙ first-none s ts made (e ∙ ap (λ b. cond b (Some t.1) (first_of ts)) is))

pub first-some : (s : FolderState) (ts : List (Bool × Answer)) (made : Answer × FolderState) (a : Answer) → Some a ≡ first_of ts → first_answer s ts made ≡ (a, s)
first-some s [] made a e = absurd (let f : Some a ≡ None = e in cc)
first-some s (t ∷ ts) made a e =
    by_or t.0 (first_answer s (t ∷ ts) made ≡ (a, s))
    (λ is. ap (λ b. cond b (t.1, s) (first_answer s ts made)) is ∙ ap (λ x. (x, s)) (sym (inside a t.1 (e ∙ ap (λ b. cond b (Some t.1) (first_of ts)) is))))
    (λ is. ap (λ b. cond b (t.1, s) (first_answer s ts made)) is ∙ first-some s ts made a (e ∙ ap (λ b. cond b (Some t.1) (first_of ts)) is))

-- what is refused, and what is not
pub accepted-answer : {O : Type 0} (f : O → Answer) (first : Option O) (b : Bool) (d : Answer × FolderState) → is_some first ≡ not b
    → ((o : O) → is_accepted (f o) ≡ false) → ((o : O) → first ≡ Some o → d.0 ≡ f o) → (first ≡ None → is_accepted d.0 ≡ true) → b ≡ is_accepted d.0
accepted-answer f None true d is refused answered made = sym (made refl)
accepted-answer f None false d is refused answered made = absurd (true≢false (sym is))
accepted-answer f (Some o) true d is refused answered made = absurd (true≢false is)
accepted-answer f (Some o) false d is refused answered made = sym (ap is_accepted (answered o refl) ∙ refused o)
