use Rattle.std.proofs.Common.{◌≡◌, None, subst}
use Rattle.std.specs.Prelude.{Some, slice_get}
use Rattle.folder_index.proofs.Chunked.{got_none, got_some, no_rest_is, rest_is}
use Rattle.folder_index.proofs.chunks.Chunks.rest.Goals as goal

pub returns-in-Some : goal.returns-in-Some
returns-in-Some c =
    let cs = c.args.self.now in
    let s = c.args.spot in
    let v = c.in-Some.chunk.now in
    rest_is cs s v c.as_slice.result.now (subst (λ vs. slice_get vs s.chunk ≡ Some v) c.deref.ensures.value (got_some c.deref.result.now s.chunk c.get.result c.in-Some.chunk (c.get.ensures.lookup.0, c.get.ensures.lookup.1) c.in-Some.is)) c.as_slice.ensures.value

pub returns-in-None : goal.returns-in-None
returns-in-None c =
    let cs = c.args.self.now in
    let s = c.args.spot in
    no_rest_is cs s (subst (λ vs. slice_get vs s.chunk ≡ None) c.deref.ensures.value (got_none c.deref.result.now s.chunk c.get.result (c.get.ensures.lookup.0, c.get.ensures.lookup.1) c.in-None.is))
