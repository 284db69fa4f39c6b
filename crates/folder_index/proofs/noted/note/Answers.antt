use Rattle.std.proofs.Common.{List, length, refl, ap, ◌∙◌, ◌++◌, ◌∷◌, [], arith}
use Rattle.std.specs.Prelude.{bytes_eq, find, unwrap_or}
use Rattle.folder_index.specs.declared.noted.Noted.{Noted}
use Rattle.folder_index.specs.Noted.{nothing_of}
use Rattle.folder_index.proofs.Noting.{found_new, found_other}
use Rattle.folder_index.proofs.noted.note.Goals as goal

pub push_reserved-requires : goal.push_reserved-requires
push_reserved-requires c =
    let is = ap (λ (l : List Noted). length l) c.forget.ensures.taken in
    omega (arith, c.requires, c.forget.ensures.capacity, c.forget.new.noted.ok.0)

pub returns-clause-here : goal.returns-clause-here
returns-clause-here c =
    let d = c.args.new.device in
    ap (λ (l : List Noted). unwrap_or (find (λ k. bytes_eq k.device d) l) (nothing_of d)) (c.push_reserved.ensures.items ∙ ap (λ (l : List Noted). l ++ c.args.new ∷ []) c.forget.ensures.taken)
    ∙ ap (λ o. unwrap_or o (nothing_of d)) (found_new d c.args.new refl c.args.noted.now.items)

pub returns-clause-others : goal.returns-clause-others
returns-clause-others c = λ e other.
    let d = c.args.new.device in
    ap (λ (l : List Noted). unwrap_or (find (λ k. bytes_eq k.device e) l) (nothing_of e)) (c.push_reserved.ensures.items ∙ ap (λ (l : List Noted). l ++ c.args.new ∷ []) c.forget.ensures.taken)
    ∙ ap (λ o. unwrap_or o (nothing_of e)) (found_other d c.args.new refl e other c.args.noted.now.items)
