use Rattle.std.proofs.Common.{◌≡◌, ◌≢◌, ℕ, Bool, true, not, ◌==◌, get_or, refl, arith}
use Rattle.std.proofs.lemmas.Bool.Decides.{nat_tests}
use Rattle.std.proofs.lemmas.List.Sums.{AllPass-from_list_all}
use Rattle.node_status.specs.declared.page.TheConstants.{STYLE}
use Rattle.node_status.proofs.laws.the_style_has_no_tag.Goals as goal

abbrev is_other : ℕ → Bool
is_other b = not (b == 60)

by_test : (b : ℕ) → is_other b ≡ true → b ≢ 60
by_test b h = grind (arith, nat_tests)

pub returns : goal.returns
returns c = λ k d i. by_test (get_or STYLE.now k d) (AllPass-from_list_all is_other STYLE.now refl k d i)
