use Rattle.tb_machine.proofs.Common.{ℕ, ◌<◌, length, map, set, ap, ◌∙◌, arith, replaced}
use Rattle.tb_machine.proofs.Writing.{told_at, length_told}
use Rattle.tb_machine.proofs.applying.apply.Goals as goal

pub returns-clause-bits : goal.returns-clause-bits
returns-clause-bits c =
    let ws = c.args.words.now.items in
    let u = c.args.update in
    let inside : u.signal < length ws = omega (arith, c.requires.known, length_told (λ w. w.width) ws) in
    c.set.ensures.bits ∙ ap (λ (n : ℕ). set (map (λ w. w.bits) ws) u.signal n) (c.replaced.ensures.bits ∙ ap (λ (n : ℕ). replaced n u) (told_at (λ w. w.bits) ws u.signal c.index-word.result.now c.index-word.ensures inside))
