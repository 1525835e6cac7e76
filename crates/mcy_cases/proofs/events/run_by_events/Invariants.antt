use Rattle.mcy_cases.proofs.events.run_by_events.Given as goal

abbrev pub ghosts-run_prepared : goal.ghosts-run_prepared
ghosts-run_prepared a = record { name = a.blank.name; parts = a.blank.parts }
