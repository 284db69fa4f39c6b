use Rattle.sync_names.proofs.Lemmas.{stay_below-whole, stay_below-each_beginning, stay_below-temporary, stay_below-temporary_beginning, stay_below-replaced, stay_below-replaced_beginning}
use Rattle.sync_names.proofs.laws.names_stay_below.Goals as goal

pub returns-clause-whole : goal.returns-clause-whole
returns-clause-whole c = stay_below-whole

pub returns-clause-each_beginning : goal.returns-clause-each_beginning
returns-clause-each_beginning c = stay_below-each_beginning

pub returns-clause-temporary : goal.returns-clause-temporary
returns-clause-temporary c = stay_below-temporary

pub returns-clause-temporary_beginning : goal.returns-clause-temporary_beginning
returns-clause-temporary_beginning c = stay_below-temporary_beginning

pub returns-clause-replaced : goal.returns-clause-replaced
returns-clause-replaced c = stay_below-replaced

pub returns-clause-replaced_beginning : goal.returns-clause-replaced_beginning
returns-clause-replaced_beginning c = stay_below-replaced_beginning
