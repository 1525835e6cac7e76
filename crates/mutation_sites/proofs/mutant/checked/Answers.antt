use Rattle.mutation_sites.proofs.Common.{◌≡◌, true, false, sym, ◌∙◌}
use Rattle.mutation_sites.proofs.mutant.checked.Goals as goal
use Rattle.mutation_sites.proofs.mutant.checked.Goals.{in-Memory, in_default}

pub prove-unreachable-requires : goal.prove-unreachable-requires
prove-unreachable-requires c =
    let memory = c.requires.accepted c.in-Err.refusal c.in-Err.ensures.refused in
    elim c.match-matches.branch [
      | in-Memory w ↦ (let wrong : true ≡ false = sym w.matches-is ∙ c.if-prove.true in cc)
      | in_default w ↦ w.in_default.not-Memory memory
    ]
