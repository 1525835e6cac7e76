use Rattle.netlist_gates.proofs.Common.{◌≡◌, List, sym, ap, subst, ◌∙◌, GateLit, Lits, lits_of, AreWithin, netlist_made}
use Rattle.netlist_gates.proofs.Solving.{free_lits-within, made_as, made-told, solves-told, within-told, grows-told}
use Rattle.netlist_gates.proofs.cells.netlist_gates.Goals as goal

pub add_cells-requires-clause-within : goal.add_cells-requires-clause-within
add_cells-requires-clause-within c =
    subst (λ (l : Lits). AreWithin c.args.gates.now l) (sym c.in_ok-table.ensures.laid) (free_lits-within c.args.netlist.now.raw c.args.gates.now c.requires.free)

pub returns-clause-solves : goal.returns-clause-solves
returns-clause-solves c =
    let made : made_as c.add_cells.new.gates (lits_of c.of.result) ≡ netlist_made c.args.gates.now c.args.netlist.now =
    made-told c.args.netlist.now c.args.gates.now c.add_cells.new.gates (lits_of c.of.result) (lits_of c.in_ok-table.table.items) c.in_ok-table.ensures.laid
    (ap (λ (t : List GateLit). made_as c.add_cells.new.gates (lits_of t)) c.of.ensures ∙ c.in_ok-add_cells.ensures.made) in
    solves-told c.one_run.ensures.settles c.args.netlist.now c.raw-parts.ensures.sound c.args.gates.now c.add_cells.new.gates (lits_of c.of.result) c.requires.free made

pub returns-clause-within : goal.returns-clause-within
returns-clause-within c =
    let made : made_as c.add_cells.new.gates (lits_of c.of.result) ≡ netlist_made c.args.gates.now c.args.netlist.now =
    made-told c.args.netlist.now c.args.gates.now c.add_cells.new.gates (lits_of c.of.result) (lits_of c.in_ok-table.table.items) c.in_ok-table.ensures.laid
    (ap (λ (t : List GateLit). made_as c.add_cells.new.gates (lits_of t)) c.of.ensures ∙ c.in_ok-add_cells.ensures.made) in
    within-told c.args.netlist.now c.raw-parts.ensures.sound c.args.gates.now c.add_cells.new.gates (lits_of c.of.result) c.requires.free made

pub returns-clause-grows : goal.returns-clause-grows
returns-clause-grows c =
    let made : made_as c.add_cells.new.gates (lits_of c.of.result) ≡ netlist_made c.args.gates.now c.args.netlist.now =
    made-told c.args.netlist.now c.args.gates.now c.add_cells.new.gates (lits_of c.of.result) (lits_of c.in_ok-table.table.items) c.in_ok-table.ensures.laid
    (ap (λ (t : List GateLit). made_as c.add_cells.new.gates (lits_of t)) c.of.ensures ∙ c.in_ok-add_cells.ensures.made) in
    grows-told c.args.netlist.now c.raw-parts.ensures.sound c.args.gates.now c.add_cells.new.gates (lits_of c.of.result) c.requires.free made
