use Rattle.std.proofs.Common.{◌≡◌, ◌++◌, ◌-◌, ◌+◌, [], List, drop, map, take, vec_len, refl, sym, ap, subst, ◌∙◌, arith}
use Rattle.std.specs.Prelude.{Contains, option_copied}
use Rattle.std.proofs.lemmas.Bool.{true≢false}
use Rattle.folder_core.specs.Reads.{need_page}
use Rattle.folder_index.specs.declared.group.Group.{Group}
use Rattle.folder_index.specs.Chunks.{Chunk, groups_in, in_chunk, keyed}
use Rattle.folder_index.specs.Groups.{needed_listed}
use Rattle.folder_index.specs.Indexes.{folder}
use Rattle.folder_index.proofs.Chunked.{flat, in_chunks, rest_in}
use Rattle.folder_index.proofs.Found.{are_needed, need_page_is}
use Rattle.folder_index.proofs.Listed.{Groups}
use Rattle.folder_index.proofs.Pages.{needed_listed_append, next_chunks, none_put, page_put}
use Rattle.folder_index.proofs.by_name.ByName.need.Goals as goal

pub push_needed-requires-clause-named : goal.push_needed-requires-clause-named
push_needed-requires-clause-named c =
    let i = c.self.inside in
    are_needed i.me i.names i.totals c.self.invariant.chunked c.rest.result.now (λ g there. rest_in i.names c.start_after-start.result c.rest.result.now c.rest.ensures g there)

pub returns-in_err-push_needed-clause-none : goal.returns-in_err-push_needed-clause-none
returns-in_err-push_needed-clause-none c = λ none.
    let i = c.self.inside in
    let after = option_copied c.args.after in
    let start = c.start_after-start.result in
    let first = needed_listed (map keyed c.rest.result.now) in
    let later = needed_listed (flat (drop (start.chunk + 1) i.names.chunks.items)) in
    let whole : take (c.args.limit - 0) (first ++ later) ≡ need_page (folder c.args.self.now) after c.args.limit =
    (let all : c.args.limit - 0 ≡ c.args.limit = omega arith in λ j. take (all j) (first ++ later))
    ∙ ap (take c.args.limit) (sym (needed_listed_append (map keyed c.rest.result.now) (flat (drop (start.chunk + 1) i.names.chunks.items)))
    ∙ ap (λ (gs : Groups). needed_listed (gs ++ flat (drop (start.chunk + 1) i.names.chunks.items))) c.rest.ensures
    ∙ ap needed_listed c.start_after-start.ensures.after)
    ∙ need_page_is i.me (groups_in i.names) i.totals c.self.invariant.chunked.are i.choices after c.args.limit
    ∙ ap (λ s. need_page (folder s) after c.args.limit) c.self.view_is in
    let new : c.new-page.result.items ≡ [] = c.new-page.ensures.items in
    let zero : vec_len c.new-page.result ≡ 0 = c.new-page.ensures.len in
    let empty : take (c.args.limit - 0) first ≡ [] = none_put [] first later (need_page (folder c.args.self.now) after c.args.limit) (c.args.limit - 0) whole none in
    absurd (true≢false (sym (c.in_err-push_needed.ensures.none (ap (λ k. take (c.args.limit - k) first) zero ∙ empty))))

pub loop-chunk-init : goal.loop-chunk-init
loop-chunk-init c =
    let i = c.self.inside in
    let after = option_copied c.args.after in
    let start = c.start_after-start.result in
    let first = needed_listed (map keyed c.rest.result.now) in
    let later = needed_listed (flat (drop (start.chunk + 1) i.names.chunks.items)) in
    let whole : take (c.args.limit - 0) (first ++ later) ≡ need_page (folder c.args.self.now) after c.args.limit =
    (let all : c.args.limit - 0 ≡ c.args.limit = omega arith in λ j. take (all j) (first ++ later))
    ∙ ap (take c.args.limit) (sym (needed_listed_append (map keyed c.rest.result.now) (flat (drop (start.chunk + 1) i.names.chunks.items)))
    ∙ ap (λ (gs : Groups). needed_listed (gs ++ flat (drop (start.chunk + 1) i.names.chunks.items))) c.rest.ensures
    ∙ ap needed_listed c.start_after-start.ensures.after)
    ∙ need_page_is i.me (groups_in i.names) i.totals c.self.invariant.chunked.are i.choices after c.args.limit
    ∙ ap (λ s. need_page (folder s) after c.args.limit) c.self.view_is in
    let new : c.new-page.result.items ≡ [] = c.new-page.ensures.items in
    let zero : vec_len c.new-page.result ≡ 0 = c.new-page.ensures.len in
    let page = c.push_needed.new.page in
    record {
      page =
          ap (λ (vs : List Chunk). page.items ++ take (c.args.limit - vec_len page) (needed_listed (flat vs))) c.later-chunk-items.ensures
          ∙ page_put [] page.items first later 0 (vec_len page) c.args.limit (c.in_ok-push_needed.ensures.page ∙ (λ j. new j ++ take (c.args.limit - zero j) first)) refl page.ok.0
          ∙ whole;
      fits = c.push_needed.ensures.fits;
    }

pub push_needed-requires-in-loop-chunk-clause-named : goal.push_needed-requires-in-loop-chunk-clause-named
push_needed-requires-in-loop-chunk-clause-named c =
    let i = c.self.inside in
    let items = c.later-chunk-items.result.now in
    are_needed i.me i.names i.totals c.self.invariant.chunked c.as_slice.result.now (λ g there. in_chunks i.names (c.start_after-start.result.chunk + 1) items c.later-chunk-items.ensures c.loop-chunk.chunk-index c.chunk-item.result c.loop-chunk-test.true c.chunk-item.is g (subst (λ gs. Contains gs g) c.as_slice.ensures.value there))

pub returns-in_err-push_needed-2-clause-none : goal.returns-in_err-push_needed-2-clause-none
returns-in_err-push_needed-2-clause-none c = λ none.
    let items = c.later-chunk-items.result.now in
    let v = c.chunk-item.result in
    let page = c.loop-chunk.page in
    let here = needed_listed (in_chunk v) in
    let more = needed_listed (flat (drop (c.loop-chunk.chunk-index + 1) items)) in
    let next : needed_listed (flat (drop c.loop-chunk.chunk-index items)) ≡ here ++ more =
    ap (λ (vs : List Chunk). needed_listed (flat vs)) (next_chunks items c.loop-chunk.chunk-index v c.loop-chunk-test.true c.chunk-item.is)
    ∙ needed_listed_append (in_chunk v) (flat (drop (c.loop-chunk.chunk-index + 1) items)) in
    let is : page.items ++ take (c.args.limit - vec_len page) (here ++ more) ≡ need_page (folder c.args.self.now) (option_copied c.args.after) c.args.limit =
    ap (λ l. page.items ++ take (c.args.limit - vec_len page) l) (sym next) ∙ c.loop-chunk.invariant.page in
    let empty : take (c.args.limit - vec_len page) here ≡ [] = none_put page.items here more (need_page (folder c.args.self.now) (option_copied c.args.after) c.args.limit) (c.args.limit - vec_len page) is none in
    absurd (true≢false (sym (c.in_err-push_needed-2.ensures.none (ap (λ (gs : List Group). take (c.args.limit - vec_len page) (needed_listed (map keyed gs))) c.as_slice.ensures.value ∙ empty))))

pub loop-chunk-preserved : goal.loop-chunk-preserved
loop-chunk-preserved c =
    let items = c.later-chunk-items.result.now in
    let v = c.chunk-item.result in
    let page = c.loop-chunk.page in
    let here = needed_listed (in_chunk v) in
    let more = needed_listed (flat (drop (c.loop-chunk.chunk-index + 1) items)) in
    let next : needed_listed (flat (drop c.loop-chunk.chunk-index items)) ≡ here ++ more =
    ap (λ (vs : List Chunk). needed_listed (flat vs)) (next_chunks items c.loop-chunk.chunk-index v c.loop-chunk-test.true c.chunk-item.is)
    ∙ needed_listed_append (in_chunk v) (flat (drop (c.loop-chunk.chunk-index + 1) items)) in
    let is : page.items ++ take (c.args.limit - vec_len page) (here ++ more) ≡ need_page (folder c.args.self.now) (option_copied c.args.after) c.args.limit =
    ap (λ l. page.items ++ take (c.args.limit - vec_len page) l) (sym next) ∙ c.loop-chunk.invariant.page in
    let new = c.push_needed-in-loop-chunk.new.page in
    record {
      page =
          page_put page.items new.items here more (vec_len page) (vec_len new) c.args.limit
          (c.in_ok-push_needed-2.ensures.page ∙ ap (λ (gs : List Group). page.items ++ take (c.args.limit - vec_len page) (needed_listed (map keyed gs))) c.as_slice.ensures.value) page.ok.0 new.ok.0
          ∙ is;
      fits = c.push_needed-in-loop-chunk.ensures.fits;
    }
