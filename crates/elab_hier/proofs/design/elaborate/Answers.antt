use Rattle.elab_hier.proofs.Common.{◌≡◌, None, rules, module_at, flat_of, no_top, short}
use Rattle.elab_hier.proofs.Sources.{all_elaborated, all_have}
use Rattle.elab_hier.proofs.design.elaborate.Goals as goal

pub returns-in-Err-NoTop-clause-refused : goal.returns-in-Err-NoTop-clause-refused
returns-in-Err-NoTop-clause-refused c =
    let none : module_at c.args.modules.now c.args.top.now ≡ None = search rules in
    no_top none

pub returns-in-Err-Memory-clause-refused : goal.returns-in-Err-Memory-clause-refused
returns-in-Err-Memory-clause-refused c = short

pub returns-in-Some-clause-accepted : goal.returns-in-Some-clause-accepted
returns-in-Some-clause-accepted c =
    all_elaborated c.args.modules.now c.args.top.now (flat_of c.in-Ok.flat) c.in-Some.declaration.now c.elaborate_flat.result c.in-Ok.ensures.flattens c.in-Some.ensures.found c.elaborate_flat.ensures.ok

pub returns-in-Some-clause-ok : goal.returns-in-Some-clause-ok
returns-in-Some-clause-ok c =
    all_have c.args.modules.now c.args.top.now c.elaborate_flat.result
    (all_elaborated c.args.modules.now c.args.top.now (flat_of c.in-Ok.flat) c.in-Some.declaration.now c.elaborate_flat.result c.in-Ok.ensures.flattens c.in-Some.ensures.found c.elaborate_flat.ensures.ok)
