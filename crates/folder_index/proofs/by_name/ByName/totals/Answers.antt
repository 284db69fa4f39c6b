use Rattle.std.proofs.Common.{ap, ◌∙◌}
use Rattle.std.specs.Prelude.{◌&&◌}
use Rattle.sync_record.specs.Records.{is_directory, is_live, is_live_file}
use Rattle.folder_index.specs.declared.totals.Totals.{Totals}
use Rattle.folder_index.specs.Chunks.{groups_in}
use Rattle.folder_index.proofs.Found.{needed_is, others_are, own_is}
use Rattle.folder_index.proofs.by_name.ByName.totals.Goals as goal

pub returns-clause-files : goal.returns-clause-files
returns-clause-files c = let i = c.self.inside in rw (← c.self.view_is) (ap (λ (t : Totals). t.files) c.self.invariant.chunked.are.counted ∙ own_is i.me (groups_in i.names) i.totals c.self.invariant.chunked.are i.choices is_live_file)

pub returns-clause-directories : goal.returns-clause-directories
returns-clause-directories c = let i = c.self.inside in rw (← c.self.view_is) (ap (λ (t : Totals). t.directories) c.self.invariant.chunked.are.counted ∙ own_is i.me (groups_in i.names) i.totals c.self.invariant.chunked.are i.choices (λ r. is_live r && is_directory r))

pub returns-clause-deletions : goal.returns-clause-deletions
returns-clause-deletions c = let i = c.self.inside in rw (← c.self.view_is) (ap (λ (t : Totals). t.deletions) c.self.invariant.chunked.are.counted ∙ own_is i.me (groups_in i.names) i.totals c.self.invariant.chunked.are i.choices (λ r. r.deleted))

pub returns-clause-needed : goal.returns-clause-needed
returns-clause-needed c = let i = c.self.inside in rw (← c.self.view_is) (ap (λ (t : Totals). t.needed) c.self.invariant.chunked.are.counted ∙ needed_is i.me (groups_in i.names) i.totals c.self.invariant.chunked.are i.choices)

pub returns-clause-others : goal.returns-clause-others
returns-clause-others c = let i = c.self.inside in rw (← c.self.view_is) (ap (λ (t : Totals). t.others) c.self.invariant.chunked.are.counted ∙ others_are i.me (groups_in i.names) i.totals c.self.invariant.chunked.are i.choices)
