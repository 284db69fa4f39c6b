use Rattle.std.proofs.Common.{◌<◌, ◌∙◌, Some, ap, arith}
use Rattle.std.specs.Option.{option_map_or}
use Rattle.std.proofs.lemmas.Option.{slice_get_within}
use Rattle.peer_link.specs.Told.{without_number}
use Rattle.peer_link.proofs.told.ToldFolders.forget_lost.Goals as goal

pub returns : goal.returns
returns g c = (
  c.loop-at.invariant.long,
  λ k t f told_is is.
      let within_told = slice_get_within _ k t told_is in
      let within = slice_get_within _ k f is in
      let below : k < c.loop-at.at = omega (arith, within_told, within) in
      c.loop-at.invariant.written k f below is ∙ ap (λ o. Some (option_map_or (λ x. without_number x f) o f)) told_is,
)
