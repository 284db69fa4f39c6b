use Rattle.sync_names.proofs.Lemmas.{extension-dot, extension-rest, extension-whole, extension-nothing}
use Rattle.sync_names.proofs.laws.extension_after_last_dot.Goals as goal

pub returns-clause-dot : goal.returns-clause-dot
returns-clause-dot c = extension-dot

pub returns-clause-extension : goal.returns-clause-extension
returns-clause-extension c = extension-rest

pub returns-clause-whole : goal.returns-clause-whole
returns-clause-whole c = extension-whole

pub returns-clause-nothing : goal.returns-clause-nothing
returns-clause-nothing c = extension-nothing
