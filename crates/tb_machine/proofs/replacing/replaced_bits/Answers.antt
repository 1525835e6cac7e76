use Rattle.tb_machine.proofs.Common.{◌≡◌, ◌+◌, ◌*◌, ◌/◌, ◌%◌, ◌<◌, ◌≤◌, ◌^◌, arith}
use Rattle.tb_machine.proofs.Places.{low_and_middle, all_below, power_le, shifted}
use Rattle.tb_machine.proofs.replacing.replaced_bits.Goals as goal

pub overflow_add-result : goal.overflow_add-result
overflow_add-result c =
    let u = c.args.update in
    let v = c.args.bits in
    let middle : u.value * 2 ^ u.low % 2 ^ 128 ≡ u.value * 2 ^ u.low = shifted u.value u.width u.low c.args.width c.requires.value c.requires.inside c.requires.narrow in
    let below : v % 2 ^ u.low + u.value * 2 ^ u.low < 2 ^ (u.low + u.width) = low_and_middle v u.value u.low u.width c.requires.value in
    let inside : u.low + u.width ≤ 128 = omega (arith, c.requires.inside, c.requires.narrow) in
    let most : 2 ^ (u.low + u.width) ≤ 2 ^ 128 = power_le (u.low + u.width) 128 inside in
    omega (arith, c.low_part-low.ensures, middle, below, most)

pub overflow_add-result-2 : goal.overflow_add-result-2
overflow_add-result-2 c =
    let u = c.args.update in
    let v = c.args.bits in
    let middle : u.value * 2 ^ u.low % 2 ^ 128 ≡ u.value * 2 ^ u.low = shifted u.value u.width u.low c.args.width c.requires.value c.requires.inside c.requires.narrow in
    let below : v % 2 ^ u.low + u.value * 2 ^ u.low + v / 2 ^ (u.low + u.width) * 2 ^ (u.low + u.width) < 2 ^ c.args.width = all_below v u.value u.low u.width c.args.width c.requires.fits c.requires.value c.requires.inside in
    let most : 2 ^ c.args.width ≤ 2 ^ 128 = power_le c.args.width 128 c.requires.narrow in
    omega (arith, c.low_part-low.ensures, c.high_part-high.ensures, middle, below, most)

pub returns-clause-value : goal.returns-clause-value
returns-clause-value c =
    let u = c.args.update in
    let middle : u.value * 2 ^ u.low % 2 ^ 128 ≡ u.value * 2 ^ u.low = shifted u.value u.width u.low c.args.width c.requires.value c.requires.inside c.requires.narrow in
    omega (arith, c.low_part-low.ensures, c.high_part-high.ensures, middle)

pub returns-clause-fits : goal.returns-clause-fits
returns-clause-fits c =
    let u = c.args.update in
    let v = c.args.bits in
    let middle : u.value * 2 ^ u.low % 2 ^ 128 ≡ u.value * 2 ^ u.low = shifted u.value u.width u.low c.args.width c.requires.value c.requires.inside c.requires.narrow in
    let below : v % 2 ^ u.low + u.value * 2 ^ u.low + v / 2 ^ (u.low + u.width) * 2 ^ (u.low + u.width) < 2 ^ c.args.width = all_below v u.value u.low u.width c.args.width c.requires.fits c.requires.value c.requires.inside in
    omega (arith, c.low_part-low.ensures, c.high_part-high.ensures, middle, below)
