use Rattle.sync_record.proofs.ContentLaws.{deleted-content, directory-content, file-content, other-content}
use Rattle.sync_record.proofs.laws.same_content_in_words.Goals as goal

pub returns-clause-deletions : goal.returns-clause-deletions
returns-clause-deletions c = deleted-content

pub returns-clause-directories : goal.returns-clause-directories
returns-clause-directories c = directory-content

pub returns-clause-files : goal.returns-clause-files
returns-clause-files c = file-content

pub returns-clause-others : goal.returns-clause-others
returns-clause-others c = other-content
