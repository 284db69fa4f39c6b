use Rattle.bep_messages.proofs.Takes.{unknown_takes, bad_text, bad_element, nested, element, up_to_fault}
use Rattle.bep_messages.proofs.laws.which_fields_take_memory.Goals as goal

pub returns-clause-unknown : goal.returns-clause-unknown
returns-clause-unknown c = unknown_takes

pub returns-clause-bad_text : goal.returns-clause-bad_text
returns-clause-bad_text c = bad_text

pub returns-clause-bad_text_in_a_list : goal.returns-clause-bad_text_in_a_list
returns-clause-bad_text_in_a_list c = bad_element

pub returns-clause-message : goal.returns-clause-message
returns-clause-message c = nested

pub returns-clause-message_in_a_list : goal.returns-clause-message_in_a_list
returns-clause-message_in_a_list c = element

pub returns-clause-after_a_fault : goal.returns-clause-after_a_fault
returns-clause-after_a_fault c = λ table front rest i wrong h. up_to_fault _ _ front rest i wrong h
