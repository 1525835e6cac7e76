use Rattle.project_lines.proofs.Common.{◌≡◌, ◌<◌, ◌≤◌, drop, length, map, with_names}
use Rattle.project_lines.proofs.paths.ReadFiles.add_all.Given as goal

abbrev pub invariant-loop-name : goal.invariant-loop-name
invariant-loop-name l = (with_names l.self (map (λ name. name.now) (drop l.name-index l.names)) ≡ with_names l.fn.self (map (λ name. name.now) l.names)) × (0 < l.name-index → length l.self ≤ 64)
