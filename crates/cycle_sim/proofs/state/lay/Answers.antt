use Rattle.cycle_sim.proofs.Common.{◌*◌, length, sym, ◌∙◌, arith, driving}
use Rattle.cycle_sim.proofs.Plans.{driving-length, fit-length}
use Rattle.cycle_sim.proofs.Current.{readers-room, source-held}
use Rattle.cycle_sim.proofs.state.lay.Goals as goal

pub put-requires-clause-inside : goal.put-requires-clause-inside
put-requires-clause-inside c =
    let raw = c.args.netlist.now.raw in
    let long = fit-length (driving raw) c.args.table.now.items c.requires.held.fit in
    let all = driving-length raw in
    let source = c.requires.source in
    omega (arith, long, all, source)

pub put-requires-clause-listed : goal.put-requires-clause-listed
put-requires-clause-listed c = c.requires.readers.long ∙ sym (fit-length (driving c.args.netlist.now.raw) c.args.table.now.items c.requires.held.fit)

pub put-requires-clause-room : goal.put-requires-clause-room
put-requires-clause-room c = readers-room c.args.netlist.now c.raw.ensures.sound c.args.readers.now c.requires.readers (64 * length c.args.marks.now.items) c.args.driver c.requires.held.current.room

pub returns-clause-held : goal.returns-clause-held
returns-clause-held c =
    let raw = c.args.netlist.now.raw in
    let long = fit-length (driving raw) c.args.table.now.items c.requires.held.fit in
    let all = driving-length raw in
    let source = c.requires.source in
    source-held c.args.netlist.now c.raw.ensures.sound c.args.readers.now c.requires.readers c.args.table.now.items c.args.marks.now.items c.put.new.table.items c.put.new.marks.items c.args.driver c.args.number c.requires.held.fit c.put.ensures (omega (arith, long, all, source)) source c.requires.fits c.requires.held.current
