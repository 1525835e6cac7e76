use Rattle.project_file.proofs.Common.{◌≡◌, take}
use Rattle.project_file.proofs.project.Requirement.copy.Given as goal

abbrev pub invariant-loop-tag : goal.invariant-loop-tag
invariant-loop-tag l = l.among.items ≡ take l.tag-index l.tag-items
