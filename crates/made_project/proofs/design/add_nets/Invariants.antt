use Rattle.std.proofs.Common.{◌≡◌, ◌+◌, ◌-◌, ◌++◌, string_bytes}
use Rattle.made_project.specs.Designs.{generator, net_lines}
use Rattle.made_project.proofs.design.add_nets.Given as goal

-- the lines so far and those to come are all lines
abbrev pub invariant-loop-cell : goal.invariant-loop-cell
invariant-loop-cell l =
    string_bytes l.text ++ net_lines l.words (l.cell + 2) (l.cells - l.cell) ≡ string_bytes l.initial.text ++ net_lines (generator l.seed) 2 l.cells
