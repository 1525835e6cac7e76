-- Truths of many parts.
use Rattle.std.specs.Prelude.{Bool, true, ◌&&◌, List, [], ◌∷◌}

abbrev pub all_true : List Bool → Bool
all_true [] = true
all_true (b ∷ more) = b && all_true more
