use Rattle.mcy_top.proofs.main_call.mcy_call.Given as goal

abbrev pub ghosts-call_with : goal.ghosts-call_with
ghosts-call_with g a = record { name = a.blank.name; parts = a.blank.parts }
