use Rattle.std.proofs.Common.{◌≡◌, Some, [], true, rules, sym, ap, ◌∙◌}
use Rattle.std.specs.Prelude.{unwrap_or, is_some}
use Rattle.file_store.specs.declared.node.Node.TheVariants.{Directory, File}
use Rattle.file_store.specs.Maps.{found_at, put_at}
use Rattle.file_store.proofs.PutLemmas.{put_again, replaced}
use Rattle.file_store.proofs.changes.commit_temp.Goals as goal
use Rattle.file_store.proofs.changes.commit_temp.Goals.{then-not-contains+in_ok-insert, else-not-contains}

pub returns-in-Some-clause-names : goal.returns-in-Some-clause-names
returns-in-Some-clause-names c =
    let n = c.args.name.now in
    let f = found_at c.args.names.now in
    let g = found_at c.if-not-contains.names in
    let h = found_at c.replace.new.self in
    let v = File c.in-Some.bytes c.epoch.result in
    let is : unwrap_or (found_at c.args.temps.now n) [] ≡ c.in-Some.bytes = search rules in
    let put : h ≡ put_at n (Some v) f = elim c.if-not-contains.branch [
      | then-not-contains+in_ok-insert w ↦
          let made : g ≡ put_at n (Some Directory) f = search rules in
          put_again n f g h Directory v made c.replace.ensures
      | else-not-contains w ↦
          let same : g ≡ f = search rules in
          let there : is_some (g n) ≡ true = search rules in
          replaced n g h v c.replace.ensures there ∙ ap (put_at n (Some v)) same
    ] in
    put ∙ ap (λ m. put_at n (Some (File c.in-Some.bytes m)) f) c.epoch.ensures ∙ ap (λ b. put_at n (Some (File b 0)) f) (sym is)
