use Rattle.std.proofs.Common.{rules, arith, ◌≡◌, ℕ, suc, ◌+◌, ◌-◌, ◌++◌, ap, ◌∙◌, string_bytes}
use Rattle.made_project.specs.Designs.{generator, net_line}
use Rattle.made_project.proofs.Nets.{nets_more}
use Rattle.made_project.proofs.design.add_nets.Goals as goal

pub loop-cell-init : goal.loop-cell-init
unfolding generator
loop-cell-init c = search rules

pub loop-cell-preserved : goal.loop-cell-preserved
loop-cell-preserved c =
    let same : c.from.result ≡ c.loop-cell.cell = c.from.ensures in
    let count : c.args.cells - c.loop-cell.cell ≡ suc (c.args.cells - (c.loop-cell.cell + 1)) = omega arith in
    nets_more (string_bytes c.loop-cell.text) (string_bytes c.add_net.new.text) c.loop-cell.words c.next_word.new.self (c.loop-cell.cell + 2) (c.loop-cell.cell + 1 + 2) c.next_word.result (c.args.cells - c.loop-cell.cell) (c.args.cells - (c.loop-cell.cell + 1)) c.next_word.ensures (c.in_ok-add_net.ensures ∙ ap (λ (n : ℕ). string_bytes c.loop-cell.text ++ net_line (n + 2) c.next_word.result) same) (omega arith) count
    ∙ c.loop-cell.invariant
