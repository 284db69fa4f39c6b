use Rattle.std.proofs.Common.{rules, ◌≡◌, ◌<◌, ◌≤◌, length, true, false, get_or, take, sym, ap, ◌∙◌}
use Rattle.std.specs.Prelude.{bytes_eq, nat_eq, ◌&&◌}
use Rattle.file_store.proofs.ParentLemmas.{no_parent_of_short, parent_by_byte}
use Rattle.file_store.proofs.parents.is_below.Goals as goal

pub returns-then-name-dir : goal.returns-then-name-dir
returns-then-name-dir c =
    let short : length c.args.name.now ≤ length c.args.dir.now = search rules in
    sym (no_parent_of_short c.args.dir.now c.args.name.now short)

pub returns-then-name-dir-ne47 : goal.returns-then-name-dir-ne47
returns-then-name-dir-ne47 c =
    let d = c.args.dir.now in
    let n = c.args.name.now in
    let long : length d < length n = search rules in
    let other : nat_eq (get_or n (length d) 0) 47 ≡ false = search rules in
    sym (parent_by_byte d n long ∙ ap (λ b. b && bytes_eq (take (length d) n) d) other)

pub returns : goal.returns
returns c =
    let d = c.args.dir.now in
    let n = c.args.name.now in
    let long : length d < length n = search rules in
    let slash : nat_eq (get_or n (length d) 0) 47 ≡ true = search rules in
    let is : c.eq.result ≡ bytes_eq (take (length d) n) d = search rules in
    is ∙ sym (parent_by_byte d n long ∙ ap (λ b. b && bytes_eq (take (length d) n) d) slash)
