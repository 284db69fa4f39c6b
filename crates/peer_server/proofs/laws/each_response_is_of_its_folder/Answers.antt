use Rattle.peer_server.proofs.EachResponse.{at-its-folder, at-no-folder}
use Rattle.peer_server.proofs.laws.each_response_is_of_its_folder.Goals as goal

pub returns : goal.returns
returns g c = record {
  shared = λ old new front back asked response place start end. at-its-folder _ _ _ _ _ _ old new front back asked response place start end;
  not_shared = λ old new front back asked response. at-no-folder _ _ _ _ _ _ old new front back asked response;
}
