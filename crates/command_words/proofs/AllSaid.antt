-- Words that each say something, one after the other.
use Rattle.command_words.proofs.Common.{◌++◌, List, Option, option_map}

-- what is said so far, and what the words behind it say
abbrev pub behind : {X : Type 0} → List X → Option (List X) → Option (List X)
behind said more = option_map (λ xs. said ++ xs) more
