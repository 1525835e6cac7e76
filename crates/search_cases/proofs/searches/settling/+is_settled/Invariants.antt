use Rattle.search_cases.proofs.searches.settling.+is_settled.Given as goal

abbrev pub decreases-is_settled : goal.decreases-is_settled
decreases-is_settled l = l.inputs
