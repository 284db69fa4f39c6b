use Rattle.std.proofs.Common.{ap, sym, ◌∙◌}
use Rattle.std.specs.Prelude.{[], option_map, unwrap_or}
use Rattle.sync_version.specs.Versions.{counter}
use Rattle.sync_record.specs.Devices.{short_id}
use Rattle.folder_core.proofs.ChangeAnswers.{gone-busy, gone-moved, gone-unchanged, gone-counter, gone-sequence, gone-made}
use Rattle.folder_core.proofs.laws.scans.losses_are_tested_in_order.Goals as goal

pub returns-clause-busy : goal.returns-clause-busy
returns-clause-busy c = λ s n expected moment p g stage. gone-busy s n moment expected p g stage

pub returns-clause-moved : goal.returns-clause-moved
returns-clause-moved c = λ s n expected moment idle other. gone-moved s n moment expected idle other

pub returns-clause-unchanged : goal.returns-clause-unchanged
returns-clause-unchanged c = λ s n moment idle deleted. gone-unchanged s n moment idle deleted

pub returns-clause-counter : goal.returns-clause-counter
returns-clause-counter c = λ s n moment r idle there live full.
    gone-counter s n moment idle r there live (ap (λ o. counter (unwrap_or (option_map (λ q. q.version) o) []) (short_id s.me)) there ∙ full)

pub returns-clause-sequence : goal.returns-clause-sequence
returns-clause-sequence c = λ s n moment r idle there live left full.
    gone-sequence s n moment idle r there live (λ e. left (sym (ap (λ o. counter (unwrap_or (option_map (λ q. q.version) o) []) (short_id s.me)) there) ∙ e)) full

pub returns-clause-recorded : goal.returns-clause-recorded
returns-clause-recorded c = λ s n moment r idle there live left room.
    gone-made s n moment idle r there live (λ e. left (sym (ap (λ o. counter (unwrap_or (option_map (λ q. q.version) o) []) (short_id s.me)) there) ∙ e)) room
