use Rattle.std.proofs.Common.{◌≡◌, ◌≤◌, ◌<◌, List, length, map, take, drop, refl, sym, ap, subst, ◌∙◌, arith}
use Rattle.std.specs.Prelude.{Some, bytes_eq, false, filter, not, option_copied, slice_get}
use Rattle.std.specs.Option.{option_map_or}
use Rattle.std.proofs.lemmas.Option.{slice_get_read}
use Rattle.folder_index.specs.declared.group.Group.{Group}
use Rattle.folder_index.specs.Chunks.{is_lesser, keyed}
use Rattle.folder_index.specs.Groups.{name_in}
use Rattle.folder_index.proofs.Chunked.{chunk_sorted, gap_first, gap_in, got_at, is_named_at, none_begun}
use Rattle.folder_index.proofs.Listed.{Sorted}
use Rattle.folder_index.proofs.chunks.Chunks.find_in.Goals as goal

pub returns-in_default : goal.returns-in_default
returns-in_default c =
    let begun = c.args.begun in
    let none : begun ≡ 0 = none_begun begun c.in_default.ensures in
    gap_first c.args.name.now c.args.self.now c.requires.searchable begun none c.requires.others

pub index-requires : goal.index-requires
index-requires c =
    let some = c.in-Some.ensures in
    omega (arith, some.0, some.1, c.requires.bound)

pub count_lesser_near-place-requires : goal.count_lesser_near-place-requires
count_lesser_near-place-requires c =
    let vs = c.args.self.now.chunks.items in
    let v = c.index.result.now in
    let some = c.in-Some.ensures in
    let short : c.in-Some.chunk < length vs = (let len = c.args.self.now.chunks.ok.0 in omega (arith, some.0, some.1, c.requires.bound)) in
    let at : slice_get vs c.in-Some.chunk ≡ Some v = slice_get_read vs (length vs) c.in-Some.chunk v refl short c.index.ensures in
    subst (λ (gs : List Group). Sorted (map keyed gs)) (sym c.as_slice-groups.ensures.value) (chunk_sorted c.args.name.now c.args.self.now c.requires.searchable c.in-Some.chunk v at)

pub returns-then-is_named : goal.returns-then-is_named
returns-then-is_named c =
    let n = c.args.name.now in
    let vs = c.args.self.now.chunks.items in
    let v = c.index.result.now in
    let some = c.in-Some.ensures in
    let short : c.in-Some.chunk < length vs = (let len = c.args.self.now.chunks.ok.0 in omega (arith, some.0, some.1, c.requires.bound)) in
    let at : slice_get vs c.in-Some.chunk ≡ Some v = slice_get_read vs (length vs) c.in-Some.chunk v refl short c.index.ensures in
    let p = c.count_lesser_near-place.result in
    let found : option_copied c.get.result ≡ slice_get v.items p = got_at c.as_slice-groups.result.now p c.get.result (c.get.ensures.lookup.0, c.get.ensures.lookup.1) ∙ ap (λ xs. slice_get xs p) c.as_slice-groups.ensures.value in
    let named = is_named_at n (slice_get v.items p) (ap (λ o. option_map_or (λ g. bytes_eq (name_in g) n) o false) (sym found) ∙ sym c.is_named.ensures ∙ c.if-is_named.true) in
    record { chunk = v; at = at; group = named.0; is = named.1; named = named.2 }

pub returns-else-is_named : goal.returns-else-is_named
returns-else-is_named c =
    let n = c.args.name.now in
    let vs = c.args.self.now.chunks.items in
    let v = c.index.result.now in
    let some = c.in-Some.ensures in
    let short : c.in-Some.chunk < length vs = (let len = c.args.self.now.chunks.ok.0 in omega (arith, some.0, some.1, c.requires.bound)) in
    let at : slice_get vs c.in-Some.chunk ≡ Some v = slice_get_read vs (length vs) c.in-Some.chunk v refl short c.index.ensures in
    let p = c.count_lesser_near-place.result in
    let begun = c.args.begun in
    let is = c.as_slice-groups.ensures.value in
    let found : option_copied c.get.result ≡ slice_get v.items p = got_at c.as_slice-groups.result.now p c.get.result (c.get.ensures.lookup.0, c.get.ensures.lookup.1) ∙ ap (λ xs. slice_get xs p) is in
    gap_in n c.args.self.now c.requires.searchable begun c.in-Some.chunk p v (omega (arith, some.0, some.1)) at
    c.requires.begun c.requires.others
    (subst (λ (gs : List Group). p ≤ length gs) is c.count_lesser_near-place.ensures.bound)
    (subst (λ (gs : List Group). take p gs ≡ filter (is_lesser n) gs) is c.count_lesser_near-place.ensures.lesser)
    (subst (λ (gs : List Group). drop p gs ≡ filter (λ g. not (is_lesser n g)) gs) is c.count_lesser_near-place.ensures.others)
    (ap (λ o. option_map_or (λ g. bytes_eq (name_in g) n) o false) (sym found) ∙ sym c.is_named.ensures ∙ c.if-is_named.false)
