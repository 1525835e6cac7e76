-- What is wrong with lines: the first bad one decides.
use Rattle.std.specs.Prelude.{◌≡◌, ◌≢◌, ℕ, ◌+◌, List, [], ◌∷◌, ◌++◌, Option, Some, None, Result, MatchResult}
use Rattle.project_lines.specs.declared.error.ProjectError.{ProjectError}
use Rattle.project_lines.specs.declared.error.ProjectError.TheVariants.{Memory}

-- a check refuses what has this fault, and is Ok where there is none; it may want memory
abbrev pub Checks : {T : Type 0} → Result T ProjectError → Option ProjectError → Type 0
Checks result fault = MatchResult result (λ _. fault ≡ None) (λ e. e ≢ Memory → fault ≡ Some e)

-- the first of two faults
abbrev pub first_of_two : Option ProjectError → Option ProjectError → Option ProjectError
first_of_two None later = later
first_of_two (Some e) later = Some e

-- The fault of the first bad one of these, where `fault` says what is wrong with one behind those before it. They are numbered
-- from `number` on.
unfoldable pub first_fault : {X : Type 0} → (List X → ℕ → X → Option ProjectError) → List X → ℕ → List X → Option ProjectError
first_fault fault earlier number [] = None
first_fault fault earlier number (one ∷ more) = first_of_two (fault earlier number one) (first_fault fault (earlier ++ one ∷ []) (number + 1) more)
