use Rattle.project_limits.proofs.Files.{files_few}
use Rattle.project_limits.proofs.Sizes.{conflicts_within, size_within}
use Rattle.project_limits.proofs.Sources.{sources_few}
use Rattle.project_limits.proofs.Tags.{tags_few}
use Rattle.project_limits.proofs.Tests.{tests_few}
use Rattle.project_limits.proofs.laws.projects_are_small.Goals as goal

pub returns-clause-files : goal.returns-clause-files
returns-clause-files c = files_few

pub returns-clause-sources : goal.returns-clause-sources
returns-clause-sources c = sources_few

pub returns-clause-size : goal.returns-clause-size
returns-clause-size c = size_within

pub returns-clause-conflicts : goal.returns-clause-conflicts
returns-clause-conflicts c = conflicts_within

pub returns-clause-tests : goal.returns-clause-tests
returns-clause-tests c = tests_few

pub returns-clause-tags : goal.returns-clause-tags
returns-clause-tags c = tags_few
