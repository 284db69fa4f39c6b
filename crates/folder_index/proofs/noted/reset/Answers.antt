use Rattle.std.proofs.Common.{List, ap, ◌∙◌}
use Rattle.std.specs.Prelude.{bytes_eq, find, unwrap_or}
use Rattle.folder_index.specs.declared.noted.Noted.{Noted}
use Rattle.folder_index.specs.Noted.{nothing_of}
use Rattle.folder_index.proofs.Noting.{found_none, found_still}
use Rattle.folder_index.proofs.noted.reset.Goals as goal

pub returns-clause-here : goal.returns-clause-here
returns-clause-here c =
    let d = c.args.device in
    ap (λ (l : List Noted). unwrap_or (find (λ k. bytes_eq k.device d) l) (nothing_of d)) c.forget.ensures.taken ∙ ap (λ o. unwrap_or o (nothing_of d)) (found_none d c.args.noted.now.items)

pub returns-clause-others : goal.returns-clause-others
returns-clause-others c = λ e other.
    let d = c.args.device in
    ap (λ (l : List Noted). unwrap_or (find (λ k. bytes_eq k.device e) l) (nothing_of e)) c.forget.ensures.taken ∙ ap (λ o. unwrap_or o (nothing_of e)) (found_still d e other c.args.noted.now.items)
