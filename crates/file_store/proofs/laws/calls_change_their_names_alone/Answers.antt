use Rattle.file_store.proofs.LeavesLemmas.{make_temp_leaves, make_temp_leaves_there, write_leaves, write_leaves_names, commit_leaves, drop_leaves, rename_leaves, remove_leaves, make_dir_leaves, make_dir_leaves_there, remove_dir_leaves}
use Rattle.file_store.proofs.laws.calls_change_their_names_alone.Goals as goal

pub returns : goal.returns
returns c = record {
  make_temp = make_temp_leaves;
  make_temp_there = make_temp_leaves_there;
  write_at = λ old new n q offset piece r h. write_leaves old new n q offset piece r h;
  write_at_file = write_leaves_names;
  commit_temp = commit_leaves;
  drop_temp = drop_leaves;
  rename = rename_leaves;
  remove = remove_leaves;
  make_dir = make_dir_leaves;
  make_dir_there = make_dir_leaves_there;
  remove_dir = remove_dir_leaves;
}
