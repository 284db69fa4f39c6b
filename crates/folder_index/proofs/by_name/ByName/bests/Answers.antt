use Rattle.std.proofs.Common.{◌≡◌, ◌++◌, ◌-◌, ◌+◌, [], List, drop, map, take, vec_len, refl, sym, ap, ◌∙◌, arith}
use Rattle.std.specs.Prelude.{option_copied}
use Rattle.std.proofs.lemmas.Bool.{true≢false}
use Rattle.std.proofs.lemmas.List.{length-map}
use Rattle.folder_core.specs.Reads.{bests_page}
use Rattle.folder_index.specs.declared.group.Group.{Group}
use Rattle.folder_index.specs.Chunks.{Chunk, groups_in, in_chunk, keyed}
use Rattle.folder_index.specs.Groups.{bests_listed, shown}
use Rattle.folder_index.specs.Indexes.{folder}
use Rattle.folder_index.proofs.Chunked.{flat}
use Rattle.folder_index.proofs.Found.{bests_page_is}
use Rattle.folder_index.proofs.Listed.{Groups}
use Rattle.folder_index.proofs.Pages.{bests_listed_append, next_chunks, none_put, page_put}
use Rattle.folder_index.proofs.by_name.ByName.bests.Goals as goal

pub returns-in_err-push_bests-clause-none : goal.returns-in_err-push_bests-clause-none
returns-in_err-push_bests-clause-none c = λ none.
    let i = c.self.inside in
    let after = option_copied c.args.after in
    let start = c.start_after-start.result in
    let first = bests_listed (map keyed c.rest.result.now) in
    let later = bests_listed (flat (drop (start.chunk + 1) i.names.chunks.items)) in
    let whole : take (c.args.limit - 0) (first ++ later) ≡ bests_page (folder c.args.self.now) after c.args.limit =
    (let all : c.args.limit - 0 ≡ c.args.limit = omega arith in λ j. take (all j) (first ++ later))
    ∙ ap (take c.args.limit) (sym (bests_listed_append (map keyed c.rest.result.now) (flat (drop (start.chunk + 1) i.names.chunks.items)))
    ∙ ap (λ (gs : Groups). bests_listed (gs ++ flat (drop (start.chunk + 1) i.names.chunks.items))) c.rest.ensures
    ∙ ap bests_listed c.start_after-start.ensures.after)
    ∙ bests_page_is i.me (groups_in i.names) i.totals c.self.invariant.chunked.are i.choices after c.args.limit
    ∙ ap (λ s. bests_page (folder s) after c.args.limit) c.self.view_is in
    let new : (map shown c.new-page.result.items) ≡ [] = (ap (map shown) c.new-page.ensures.items) in
    let zero : vec_len c.new-page.result ≡ 0 = c.new-page.ensures.len in
    let empty : take (c.args.limit - 0) first ≡ [] = none_put [] first later (bests_page (folder c.args.self.now) after c.args.limit) (c.args.limit - 0) whole none in
    absurd (true≢false (sym (c.in_err-push_bests.ensures.none (ap (λ k. take (c.args.limit - k) first) zero ∙ empty))))

pub loop-chunk-init : goal.loop-chunk-init
loop-chunk-init c =
    let i = c.self.inside in
    let after = option_copied c.args.after in
    let start = c.start_after-start.result in
    let first = bests_listed (map keyed c.rest.result.now) in
    let later = bests_listed (flat (drop (start.chunk + 1) i.names.chunks.items)) in
    let whole : take (c.args.limit - 0) (first ++ later) ≡ bests_page (folder c.args.self.now) after c.args.limit =
    (let all : c.args.limit - 0 ≡ c.args.limit = omega arith in λ j. take (all j) (first ++ later))
    ∙ ap (take c.args.limit) (sym (bests_listed_append (map keyed c.rest.result.now) (flat (drop (start.chunk + 1) i.names.chunks.items)))
    ∙ ap (λ (gs : Groups). bests_listed (gs ++ flat (drop (start.chunk + 1) i.names.chunks.items))) c.rest.ensures
    ∙ ap bests_listed c.start_after-start.ensures.after)
    ∙ bests_page_is i.me (groups_in i.names) i.totals c.self.invariant.chunked.are i.choices after c.args.limit
    ∙ ap (λ s. bests_page (folder s) after c.args.limit) c.self.view_is in
    let new : (map shown c.new-page.result.items) ≡ [] = (ap (map shown) c.new-page.ensures.items) in
    let zero : vec_len c.new-page.result ≡ 0 = c.new-page.ensures.len in
    let page = c.push_bests.new.page in
    record {
      page =
          ap (λ (vs : List Chunk). (map shown page.items) ++ take (c.args.limit - vec_len page) (bests_listed (flat vs))) c.later-chunk-items.ensures
          ∙ page_put [] (map shown page.items) first later 0 (vec_len page) c.args.limit (c.in_ok-push_bests.ensures.page ∙ (λ j. new j ++ take (c.args.limit - zero j) first)) refl (omega (arith, page.ok.0, length-map page.items shown))
          ∙ whole;
      fits = c.push_bests.ensures.fits;
    }

pub returns-in_err-push_bests-2-clause-none : goal.returns-in_err-push_bests-2-clause-none
returns-in_err-push_bests-2-clause-none c = λ none.
    let items = c.later-chunk-items.result.now in
    let v = c.chunk-item.result in
    let page = c.loop-chunk.page in
    let here = bests_listed (in_chunk v) in
    let more = bests_listed (flat (drop (c.loop-chunk.chunk-index + 1) items)) in
    let next : bests_listed (flat (drop c.loop-chunk.chunk-index items)) ≡ here ++ more =
    ap (λ (vs : List Chunk). bests_listed (flat vs)) (next_chunks items c.loop-chunk.chunk-index v c.loop-chunk-test.true c.chunk-item.is)
    ∙ bests_listed_append (in_chunk v) (flat (drop (c.loop-chunk.chunk-index + 1) items)) in
    let is : (map shown page.items) ++ take (c.args.limit - vec_len page) (here ++ more) ≡ bests_page (folder c.args.self.now) (option_copied c.args.after) c.args.limit =
    ap (λ l. (map shown page.items) ++ take (c.args.limit - vec_len page) l) (sym next) ∙ c.loop-chunk.invariant.page in
    let empty : take (c.args.limit - vec_len page) here ≡ [] = none_put (map shown page.items) here more (bests_page (folder c.args.self.now) (option_copied c.args.after) c.args.limit) (c.args.limit - vec_len page) is none in
    absurd (true≢false (sym (c.in_err-push_bests-2.ensures.none (ap (λ (gs : List Group). take (c.args.limit - vec_len page) (bests_listed (map keyed gs))) c.as_slice.ensures.value ∙ empty))))

pub loop-chunk-preserved : goal.loop-chunk-preserved
loop-chunk-preserved c =
    let items = c.later-chunk-items.result.now in
    let v = c.chunk-item.result in
    let page = c.loop-chunk.page in
    let here = bests_listed (in_chunk v) in
    let more = bests_listed (flat (drop (c.loop-chunk.chunk-index + 1) items)) in
    let next : bests_listed (flat (drop c.loop-chunk.chunk-index items)) ≡ here ++ more =
    ap (λ (vs : List Chunk). bests_listed (flat vs)) (next_chunks items c.loop-chunk.chunk-index v c.loop-chunk-test.true c.chunk-item.is)
    ∙ bests_listed_append (in_chunk v) (flat (drop (c.loop-chunk.chunk-index + 1) items)) in
    let is : (map shown page.items) ++ take (c.args.limit - vec_len page) (here ++ more) ≡ bests_page (folder c.args.self.now) (option_copied c.args.after) c.args.limit =
    ap (λ l. (map shown page.items) ++ take (c.args.limit - vec_len page) l) (sym next) ∙ c.loop-chunk.invariant.page in
    let new = c.push_bests-in-loop-chunk.new.page in
    record {
      page =
          page_put (map shown page.items) (map shown new.items) here more (vec_len page) (vec_len new) c.args.limit
          (c.in_ok-push_bests-2.ensures.page ∙ ap (λ (gs : List Group). (map shown page.items) ++ take (c.args.limit - vec_len page) (bests_listed (map keyed gs))) c.as_slice.ensures.value) (omega (arith, page.ok.0, length-map page.items shown)) (omega (arith, new.ok.0, length-map new.items shown))
          ∙ is;
      fits = c.push_bests-in-loop-chunk.ensures.fits;
    }
