use Rattle.std.proofs.Common.{rules, ◌≡◌, ◌∙◌, ◌++◌, ◌∷◌, [], ap, sym, subst, map, length, arith, w64, to_z, of_z}
use Rattle.std.specs.String.{string_bytes}
use Rattle.std.proofs.lemmas.List.{length-append}
use Rattle.folder_look.specs.Tables.{ArePacked, named, view_of}
use Rattle.folder_look.specs.declared.table.Row.{Row}
use Rattle.folder_look.proofs.TableLemmas.{added-row, added-name, packed-more}
use Rattle.folder_look.proofs.table.add.Goals as goal

pub returns : goal.returns
returns c packed =
    let names = c.args.names.now.items in
    let rows = c.args.rows.now.items in
    let e = c.args.entry.now in
    let name = string_bytes e.name in
    let m : to_z w64 (of_z w64 e.facts.modified) ≡ e.facts.modified = search rules in
    let h : to_z w64 (of_z w64 e.facts.changed) ≡ e.facts.changed = search rules in
    let row : Row = record {
      start = c.in-Ok-Ok.start;
      len = c.in-Ok-Ok.len;
      kind = e.facts.kind;
      size = e.facts.size;
      modified = to_z w64 (of_z w64 e.facts.modified);
      changed = to_z w64 (of_z w64 e.facts.changed);
      inode = e.facts.inode;
    } in
    let at : c.extend_from_slice.new.self.items ≡ names ++ name = c.in_ok-extend_from_slice.ensures.items ∙ ap (λ n. names ++ n) c.as_bytes-name.ensures.value in
    let start : row.start ≡ length names = omega (arith, c.in-Ok-Ok.ensures) in
    let len : row.len ≡ length name = omega (arith, c.in-Ok-Ok.ensures', ap length c.as_bytes-name.ensures.value) in
    let is : named (names ++ name) row ≡ view_of e =
    λ k. (added-name names name row start len k, record { kind = e.facts.kind; size = e.facts.size; modified = m k; changed = h k; inode = e.facts.inode }) in
    let put : c.push.new.self.items ≡ rows ++ row ∷ [] = c.in_ok-push.ensures.items in (
      subst (λ r. ArePacked c.extend_from_slice.new.self.items r) (sym put) (subst (λ n. ArePacked n (rows ++ row ∷ [])) (sym at) (packed-more names name rows row packed (omega (arith, length-append names name)))),
      (λ k. map (named (at k)) (put k)) ∙ added-row names name rows row e packed is,
    )
