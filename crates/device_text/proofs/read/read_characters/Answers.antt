use Rattle.std.proofs.Common.{◌≡◌, ℕ, ◌<◌, ◌≤◌, false, List, length, get_or, sym, ap, subst, ◌∙◌, arith}
use Rattle.std.proofs.lemmas.List.{length-set}
use Rattle.device_text.specs.Read.{is_separator}
use Rattle.device_text.proofs.Reading.{kept_set, too_many, found_all}
use Rattle.device_text.proofs.read.read_characters.Goals as goal

pub loop-c-preserved : goal.loop-c-preserved
loop-c-preserved c =
    let xs = c.args.text.now in
    let i = c.loop-c.c-index in
    let b = get_or c.as_bytes-c-items.result.now i 0 in
    let inside : i < length xs = subst (λ (l : List ℕ). i < length l) c.as_bytes-c-items.ensures.value c.loop-c-test.true in
    let at : b ≡ get_or xs i 0 = ap (λ (l : List ℕ). get_or l i 0) c.as_bytes-c-items.ensures.value in
    let apart : is_separator b ≡ false = sym c.is_separator.ensures ∙ c.if-is_separator.false in (
      length-set c.loop-c.found c.loop-c.count b ∙ c.loop-c.invariant.0,
      omega arith,
      kept_set xs c.loop-c.found i c.loop-c.count b inside (omega arith) at apart c.loop-c.invariant.2,
    )

pub returns-then-count-eq56 : goal.returns-then-count-eq56
returns-then-count-eq56 c =
    let xs = c.args.text.now in
    let i = c.loop-c.c-index in
    let b = get_or c.as_bytes-c-items.result.now i 0 in
    let inside : i < length xs = subst (λ (l : List ℕ). i < length l) c.as_bytes-c-items.ensures.value c.loop-c-test.true in
    let at : b ≡ get_or xs i 0 = ap (λ (l : List ℕ). get_or l i 0) c.as_bytes-c-items.ensures.value in
    let apart : is_separator b ≡ false = sym c.is_separator.ensures ∙ c.if-is_separator.false in
    too_many xs c.loop-c.found i c.loop-c.count inside c.loop-c.invariant.0 c.if-count-eq56.true (ap is_separator (sym at) ∙ apart) c.loop-c.invariant.2

pub returns-then-count-eq56-2 : goal.returns-then-count-eq56-2
returns-then-count-eq56-2 c =
    let xs = c.args.text.now in
    let i = c.loop-c.c-index in
    found_all xs c.loop-c.found i c.loop-c.count (subst (λ (l : List ℕ). length l ≤ i) c.as_bytes-c-items.ensures.value c.loop-c-test.false)
    c.loop-c.invariant.0 c.if-count-eq56-2.true c.loop-c.invariant.2
