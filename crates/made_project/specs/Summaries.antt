-- The summary of a campaign on the made project.
use Rattle.std.specs.Prelude.{ℕ, List, ◌++◌, codes, decimal}

-- the two numbers, how many sites the design has, and the text of the status
abbrev pub summary_text : (seed cells sites : ℕ) → List ℕ → List ℕ
summary_text seed cells sites status = codes "Demo: " ++ (decimal seed ++ (codes " " ++ (decimal cells ++ (codes "\nSites: " ++ (decimal sites ++ (codes "\n" ++ status))))))
