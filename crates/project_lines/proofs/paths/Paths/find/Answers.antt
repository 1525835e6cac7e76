use Rattle.project_lines.proofs.Common.{ap, sym, ◌∙◌, option_map}
use Rattle.project_lines.proofs.Finding.{paths_read}
use Rattle.project_lines.proofs.paths.Paths.find.Goals as goal

pub returns : goal.returns
returns c = ap (option_map (λ path. path.now)) (c.copied.ensures ∙ c.get.ensures.value) ∙ sym (paths_read c.args.self.now c.args.name.now)
