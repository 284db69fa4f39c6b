use Rattle.proof_node.proofs.NewBests.{all-counted, clear-counted, forget-counts, put-counted}
use Rattle.proof_node.proofs.choices.new_bests_of_an_index_are_counted.Goals as goal

pub returns : goal.returns
returns c = record {
  set = λ s d r. put-counted d s r s.choices;
  set_all = λ s d records. all-counted d s records;
  clear = λ s d n. clear-counted d s n;
  forget = λ s d. forget-counts d s;
}
