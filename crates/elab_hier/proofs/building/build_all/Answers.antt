use Rattle.elab_hier.proofs.Common.{◌≡◌, ◌⊎◌, List, subst, Signal, FlatItem, flat_of, clocks_in, Memory, BuildsAll, FailsSome, build_answer, first_stands}
use Rattle.elab_hier.proofs.Counted.{all_built, all_refused}
use Rattle.elab_hier.proofs.building.build_all.Goals as goal

pub build_items-requires-clause-stands : goal.build_items-requires-clause-stands
build_items-requires-clause-stands c = first_stands (flat_of c.args.flat.now) c.args.builder c.requires.sound c.requires.begun.begins.declared

pub returns-in-Ok-clause-built : goal.returns-in-Ok-clause-built
returns-in-Ok-clause-built c =
    let flat = flat_of c.args.flat.now in
    let inputs = c.args.inputs.now in
    let clocks = clocks_in c.args.clocks.now in
    let last = c.build_items.new.builder in
    let builds = subst (λ (items : List FlatItem). BuildsAll inputs flat clocks items c.args.builder last) c.items.ensures c.in-Ok.ensures.built in
    all_built flat inputs clocks c.requires.timed c.args.builder c.requires.begun last c.requires.few builds

pub returns-in-Err-clause-refused : goal.returns-in-Err-clause-refused
returns-in-Err-clause-refused c =
    let flat = flat_of c.args.flat.now in
    let inputs = c.args.inputs.now in
    let clocks = clocks_in c.args.clocks.now in
    let error = c.in-Err.error in
    let answer = c.build_answer.result in
    let fails = subst (λ (items : List FlatItem). FailsSome inputs flat clocks items c.args.builder error) c.items.ensures c.in-Err.ensures.fails in
    let answers = subst (λ (signals : List Signal). (answer ≡ build_answer signals error) ⊎ (answer ≡ Memory)) c.signals.ensures c.build_answer.ensures in
    all_refused flat inputs clocks c.requires.timed c.args.builder c.requires.begun error answer c.requires.few fails answers
