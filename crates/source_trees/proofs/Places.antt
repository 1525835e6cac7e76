-- The place behind a file.
use Rattle.source_trees.proofs.Common.{◌≡◌, ℕ, List, [], place_after, place_moved}
use Rattle.vlog_token.proofs.PlaceLemmas.{moved_place}

pub moved_from_first : (number : ℕ) (bytes : List ℕ) → place_moved (record { file = number; line = 1; col = 1 }) bytes ≡ place_after number bytes
moved_from_first number bytes = moved_place number [] bytes
