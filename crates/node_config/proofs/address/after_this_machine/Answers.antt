use Rattle.std.proofs.Common.{◌≡◌, ◌≢◌, ◌++◌, List, ℕ, codes, MatchOption, subst, sym}
use Rattle.node_config.proofs.AddressLemmas.{socket_of_other}
use Rattle.node_config.proofs.address.after_this_machine.Goals as goal

pub returns-in-None-clause-rest : goal.returns-in-None-clause-rest
returns-in-None-clause-rest c =
    let same = socket_of_other c.args.text.now c.in-None.ensures in
    subst (λ (t : List ℕ). MatchOption c.after-in-None.result ((rest : List ℕ) → t ≢ codes "127.0.0.1:" ++ rest) (λ rest. t ≡ codes "127.0.0.1:" ++ rest.now)) (sym same) c.after-in-None.ensures
