-- The walk over sorted sites, and lists of numbers that ascend.
use Rattle.std.specs.Prelude.{ℕ, ◌+◌, ◌≤◌, List, [], ◌∷◌, Option, Some, None, ⊤, cond}
use Rattle.mutation_select.specs.declared.draw.Draw.{Draw}
use Rattle.mutation_select.specs.declared.words.Drawn.{Drawn}
use Rattle.mutation_select.specs.Selection.{shares_line, with_rank}

-- For proofs alone.

-- each number is at least i, and above those before it
abbrev pub Ascends : ℕ → List ℕ → Type 0
Ascends i [] = ⊤
Ascends i (n ∷ more) = (i ≤ n) × Ascends (n + 1) more

-- the rank of a site behind another one
abbrev pub rank_after : Option Drawn → ℕ → Drawn → ℕ
rank_after None next d = 0
rank_after (Some last) next d = cond (shares_line last d) next 0

-- the draws of the sites that are left
abbrev pub ranked_from : Option Drawn → ℕ → List Drawn → List Draw
ranked_from last next [] = []
ranked_from last next (d ∷ more) = with_rank (rank_after last next d) d ∷ ranked_from (Some d) (rank_after last next d + 1) more
