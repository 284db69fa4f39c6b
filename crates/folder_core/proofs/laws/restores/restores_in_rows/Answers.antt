use Rattle.folder_core.proofs.RestoreRows.{two-restored, others-restored, negative, too-great, repeated-name, invalid-own, repeated-sequence, sequence-zero, above-last}
use Rattle.folder_core.proofs.laws.restores.restores_in_rows.Goals as goal

pub returns-clause-two : goal.returns-clause-two
returns-clause-two c = two-restored

pub returns-clause-of_others : goal.returns-clause-of_others
returns-clause-of_others c = others-restored

pub returns-clause-negative : goal.returns-clause-negative
returns-clause-negative c = negative

pub returns-clause-too_great : goal.returns-clause-too_great
returns-clause-too_great c = too-great

pub returns-clause-repeated_name : goal.returns-clause-repeated_name
returns-clause-repeated_name c = repeated-name

pub returns-clause-invalid : goal.returns-clause-invalid
returns-clause-invalid c = invalid-own

pub returns-clause-repeated_sequence : goal.returns-clause-repeated_sequence
returns-clause-repeated_sequence c = repeated-sequence

pub returns-clause-zero : goal.returns-clause-zero
returns-clause-zero c = sequence-zero

pub returns-clause-above_last : goal.returns-clause-above_last
returns-clause-above_last c = above-last
