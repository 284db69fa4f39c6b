-- How far the lines of an input were followed.
use Rattle.std.specs.Prelude.{ℕ, List, Option}
use Rattle.std.specs.Io.KnownBytes.{Appends}
use Rattle.bepd_pair.specs.declared.input.Line.{Line}
use Rattle.bepd_pair.specs.declared.peers.Peers.{Peers}
use Rattle.bepd_pair.specs.Input.{HasCome}
use Rattle.bepd_pair.specs.Playing.{FollowsEach, IsCut}
use Rattle.bepd_pair.specs.Words.{Text}

-- The whole lines of these bytes were followed, and what they printed was written; what follows the last line feed has come.
pub record HasPlayed (start : Peers) (bytes : List ℕ) (line : Line) (now : Peers) (old new : Option (List ℕ)) : Type 0 where
  pub lines : List Text
  pub rest : Text
  pub cut : IsCut bytes lines rest
  pub come : HasCome line rest
  pub printed : List ℕ
  pub follows : FollowsEach start lines printed now
  pub written : Appends old new printed
