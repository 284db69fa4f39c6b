use Rattle.std.proofs.Common.{◌≡◌, ◌∙◌, ℕ, List, ◌++◌, inl, inr, sym, ap, codes}
use Rattle.std.proofs.lemmas.Bool.{true≢false}
use Rattle.std.proofs.lemmas.Str.Pattern.{contains_text, starts_text}
use Rattle.std.specs.List.{starts_with}
use Rattle.std.specs.Prelude.{eqb}
use Rattle.node_socket.proofs.answer.Answer.is_error.Goals as goal

pub returns-else-starts_with : goal.returns-else-starts_with
returns-else-starts_with c =
    let text = c.args.self.now.text.now in
    let found = contains_text c.contains.result (codes "\nerror ") text c.contains.ensures.cases in
    let begins = starts_text c.starts_with.result (codes "error ") text c.starts_with.ensures.cases in
    let no : ((rest : List ℕ) × (text ≡ codes "error " ++ rest)) → ⊥ =
    λ front. true≢false (sym (begins ∙ ap (λ t. starts_with eqb t (codes "error ")) front.1) ∙ c.if-starts_with.false) in (
      λ yes. inr (found.0 yes),
      λ is. elim is [
        | inl front ↦ absurd (no front)
        | inr sub ↦ found.1 sub
      ],
    )
