use Rattle.mutation_sites.proofs.Common.{◌≡◌, ◌++◌, ◌∙◌, rules, arith, modes_of, bit_sites}
use Rattle.mutation_sites.proofs.Listed.{bits_sites-more}
use Rattle.mutation_sites.proofs.site_list.add_port.Goals as goal

pub loop-bit-preserved : goal.loop-bit-preserved
loop-bit-preserved c =
    let added : c.add_bit.new.list.items ≡ c.loop-bit.list.items ++ bit_sites (modes_of c.at_width-modes.result) c.args.place c.args.port c.loop-bit.bit = search rules in
    rw added (bits_sites-more c.loop-bit.list.items (modes_of c.at_width-modes.result) c.args.place c.args.port c.args.bits.now c.loop-bit.bit (omega arith) ∙ c.loop-bit.invariant)
