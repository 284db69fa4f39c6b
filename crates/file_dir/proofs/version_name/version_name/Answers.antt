use Rattle.std.proofs.Common.{◌≡◌, ℕ, List, [], ◌∷◌, ◌++◌, ◌-◌, length, get_or, take, string_bytes, ap, subst, ◌∙◌, arith}
use Rattle.std.proofs.lemmas.List.{take_all, take_more}
use Rattle.file_dir.specs.Versions.{IsCut, version_mark}
use Rattle.file_dir.proofs.version_name.version_name.Goals as goal

pub returns-clause-name : goal.returns-clause-name
returns-clause-name c =
    let items = c.version_mark-byte-items.result in
    let back = c.cut-back.result.now in
    let front = c.cut-front.result.now in
    let all : take c.loop-byte.byte-index items ≡ version_mark c.args.moment = take_all c.loop-byte.byte-index items (omega arith) ∙ c.version_mark-byte-items.ensures.value in
    let name : string_bytes c.loop-byte.name ≡ front ++ version_mark c.args.moment
    = c.loop-byte.invariant ∙ ap (λ (l : List ℕ). l ++ take c.loop-byte.byte-index items) c.in_ok-name.ensures.ok ∙ ap (λ (l : List ℕ). front ++ l) all in
    let Back : List ℕ → Type 0 = λ l. IsCut 239 l back in
    let Front : List ℕ → Type 0 = λ l. IsCut (239 - length back) l front in record {
      front = front;
      back = back;
      is = c.in_ok-push_str.ensures.bytes ∙ ap (λ (l : List ℕ). l ++ back) name;
      extension = subst Back c.split_extension.ensures.extension c.cut-back.ensures;
      stem = subst Front c.split_extension.ensures.stem c.cut-front.ensures;
    }
