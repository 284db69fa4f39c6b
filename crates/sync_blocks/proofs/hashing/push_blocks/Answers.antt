use Rattle.std.proofs.Common.{◌≡◌, ◌+◌, ◌-◌, ◌*◌, ◌<◌, ◌++◌, ℕ, List, length, map, OnOk, ap, subst, ◌∙◌, arith}
use Rattle.std.specs.Prelude.{is_ok, if◌then◌else◌, Ok, Err}
use Rattle.std.specs.declared.result.Result.{Result}
use Rattle.std.specs.List.{range_with_len}
use Rattle.std.proofs.lemmas.Slice.Zip.{AllZip-map}
use Rattle.rayon.specs.Numbers.{nat_range}
use Rattle.rayon.proofs.ToStd.{nat_range-All}
use Rattle.sync_blocks.specs.Groups.{blocks_from, placed_block}
use Rattle.sync_blocks.proofs.Groups.{begins_within}
use Rattle.sync_blocks.proofs.hashing.push_blocks.Goals as goal

-- what `append` leaves where it succeeds
appended : {X E : Type 0} (r : Result (Unit {0}) E) (new old added all : List X)
    → new ≡ (if is_ok r then old ++ added else old) → old ++ added ≡ all → OnOk r (new ≡ all)
appended (Ok u) new old added all e f = e ∙ f
appended (Err x) new old added all e f = tt

pub collect-requires-clause-ready : goal.collect-requires-clause-ready
collect-requires-clause-ready g c κs within =
    let ends = c.into_par_iter.ensures in
    let size = length c.args.bytes.now in
    let inside = nat_range-All (λ i. (i * c.args.block_size < size) × (c.args.first + size < 18446744073709551616)) 0 c.div_ceil-count.result
    (λ i low high. (begins_within size c.args.block_size i c.requires.some (subst (λ n. i < n) c.div_ceil-count.ensures high), c.requires.fits)) in
    rw (c.map.ensures.base, c.map.ensures.f, c.with_min_len.ensures.base, ends.0, ends.1) (λ k d lt. (inside k d lt, λ y p. tt))

pub returns : goal.returns
returns g c =
    let ends = c.into_par_iter.ensures in
    let n = c.div_ceil-count.result in
    let whole : n - 0 ≡ n = omega arith in
    let block = λ (i : ℕ). placed_block c.args.first c.args.bytes.now c.args.block_size i in
    let h = c.in_ok-added.ensures in
    let chain = rw (c.map.ensures.base, c.map.ensures.f, c.with_min_len.ensures.base) at h.1 in
    let places = chain.1 ∙ (λ i. nat_range (ends.0 i) (ends.1 i)) ∙ ap (range_with_len 0) whole in
    appended c.append.result c.append.new.self.items c.args.blocks.now.items c.in_ok-added.added.items
    (c.args.blocks.now.items ++ blocks_from c.args.first c.args.bytes.now c.args.block_size) c.append.ensures.items
    (ap (λ l. c.args.blocks.now.items ++ l) (h.2 ∙ AllZip-map block chain.0 h.0 chain.2 ∙ ap (map block) (places ∙ ap (range_with_len 0) c.div_ceil-count.ensures)))
