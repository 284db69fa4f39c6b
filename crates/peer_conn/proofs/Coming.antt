-- One more value comes of a source.
use Rattle.std.proofs.Common.{◌≡◌, ◌∷◌, ◌++◌, [], List, refl, subst}
use Rattle.std.specs.Prelude.{Option, Some}
use Rattle.peer_conn.specs.Sources.{ComeEach}

module _ {Q T : Type 0} (gives : Q → Option T → Q → Type 0) where
  pub come-more : (from : Q) (xs : List T) (point : Q) (x : T) (to : Q) → ComeEach gives from xs point → gives point (Some x) to → ComeEach gives from (xs ++ x ∷ []) to
  come-more from [] point x to h c = (to, subst (λ q. gives q (Some x) to) h c, refl)
  come-more from (y ∷ ys) point x to h c = (h.0, h.1, come-more h.0 ys point x to h.2 c)
