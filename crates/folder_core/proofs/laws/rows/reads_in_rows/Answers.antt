use Rattle.folder_core.proofs.Rows.{first-page, second-page, places-found, none-placed, two-counted, kinds-counted, sequences-known, need-paged}
use Rattle.folder_core.proofs.laws.rows.reads_in_rows.Goals as goal

pub returns-clause-first_page : goal.returns-clause-first_page
returns-clause-first_page c = first-page

pub returns-clause-second_page : goal.returns-clause-second_page
returns-clause-second_page c = second-page

pub returns-clause-places : goal.returns-clause-places
returns-clause-places c = places-found

pub returns-clause-no_place : goal.returns-clause-no_place
returns-clause-no_place c = none-placed

pub returns-clause-counted : goal.returns-clause-counted
returns-clause-counted c = two-counted

pub returns-clause-known : goal.returns-clause-known
returns-clause-known c = sequences-known

pub returns-clause-need : goal.returns-clause-need
returns-clause-need c = need-paged

pub returns-clause-counted_by_kind : goal.returns-clause-counted_by_kind
returns-clause-counted_by_kind c = kinds-counted
