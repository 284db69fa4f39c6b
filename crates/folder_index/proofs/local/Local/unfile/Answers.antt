use Rattle.std.proofs.Common.{sym, ap, ◌∙◌}
use Rattle.std.specs.FinMap.{remove}
use Rattle.folder_index.specs.Digests.{without_blocks}
use Rattle.folder_index.specs.Numbers.{number_of}
use Rattle.folder_index.proofs.Digested.{without_none}
use Rattle.folder_index.proofs.Filed.{none_at, some_at}
use Rattle.folder_index.proofs.local.Local.unfile.Goals as goal
use Rattle.folder_index.proofs.local.Local.unfile.Goals.{in-Some, in_default}

pub returns : goal.returns
returns c =
    let l = c.args.self.now in
    let q = c.args.sequence in
    let number = number_of l.numbers q in
    elim c.match-get.branch [
      | in-Some w ↦
          let self = w.self-is in
          let blocks = w.live_blocks.ensures ∙ sym (some_at l.records q w.in-Some.taken.now (sym w.in-Some.ensures)) in
          let records = c.remove-2.ensures ∙ (λ i. remove (self i).records q) in
          let places = (λ i. (self i).places) ∙ w.remove.ensures ∙ (λ i. without_blocks (w.number-number.ensures i) (blocks i) l.places) in
          λ i. record { records = records i; places = places i; numbers = (self i).numbers; latest = (self i).latest }
      | in_default w ↦
          let self = w.self-is in
          let none = ap (λ bs. without_blocks number bs l.places) (none_at l.records q (sym w.in_default.ensures)) ∙ without_none number l.places in
          let records = c.remove-2.ensures ∙ (λ i. remove (self i).records q) in
          let places = (λ i. (self i).places) ∙ sym none in
          λ i. record { records = records i; places = places i; numbers = (self i).numbers; latest = (self i).latest }
    ]
