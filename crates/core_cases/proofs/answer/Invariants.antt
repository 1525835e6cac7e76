use Rattle.core_cases.proofs.answer.Given as goal

abbrev pub ghosts-run : goal.ghosts-run
ghosts-run g a = record { name = a.steps.name; parts = a.steps.parts }
