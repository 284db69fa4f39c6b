use Rattle.proof_node.proofs.passes.a_full_folder_has_all_passes.Goals as goal

pub returns : goal.returns
returns g c = record {
  seat = λ s e h. h.seat;
  idle = λ s e h. h.idle;
  opening = λ s e h. h.same.0;
  limit = λ s e h. h.same.1;
  passes = λ s e h. h.full;
  no_more = λ s e seat idle opening limit passes. record { seat = seat; idle = idle; same = (opening, limit); full = passes };
}
